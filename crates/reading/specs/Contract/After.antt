-- What is counted of a record that has no inside, once it was run.
use Rattle.formats.specs.declared.record.Kind.{Kind}
use Rattle.std.specs.Prelude.{ℕ, suc, ◌+◌, min, ◌||◌, cond, Option}
use Rattle.limits.specs.Limits.{handled_needed}
use Rattle.formats.specs.declared.record.Record.{Record}
use Rattle.stack.specs.State.{most_pairs}
use Rattle.stack.specs.Contract.Acting.{handled_by, complex_by}
use Rattle.stack.specs.declared.state.AlgebraEnv.{AlgebraEnv}
use Rattle.stack.specs.declared.state.Ran.{Ran}
use Rattle.stack.specs.declared.state.Ran.TheVariants as ran
use Rattle.stack.specs.declared.state.Stepped.{Stepped}
use Rattle.stack.specs.declared.state.Stepped.TheVariants.{Went, Stopped}

-- the record r of kind k, at a place
abbrev pub after : Record → Option Kind → ℕ → Stepped → AlgebraEnv → Ran
after r k at (Went used more) env = ran.Went (record {
  used = used;
  handled = cond (handled_by r k) (min handled_needed (suc env.handled)) env.handled;
  complex = env.complex || complex_by r k;
  pairs = min most_pairs (env.pairs + more);
})
after r k at (Stopped q b) env = ran.Stopped q at b
