-- What the parts of a step are asked for and answer.
use Rattle.std.specs.Prelude.{ℕ, suc, ◌+◌, ◌≤◌, min, ◌≡◌, Bool, ◌||◌, cond, List, ◌++◌, Result, Ok, Err}
use Rattle.limits.specs.Limits.{sum_entries, handled_needed}
use Rattle.sums.specs.Tree.Sums.{Sum}
use Rattle.limits.specs.declared.Refusal.{Refusal}
use Rattle.stack.specs.State.{most_pairs}
use Rattle.stack.specs.Contract.Arena.{Arena, working}
use Rattle.stack.specs.Contract.Stacked.{Stacked, sizes_of}
use Rattle.stack.specs.declared.state.AlgebraEnv.{AlgebraEnv}
use Rattle.stack.specs.declared.state.Stepped.{Stepped}
use Rattle.stack.specs.declared.state.Stepped.TheVariants as stepped
use Rattle.stack.specs.declared.state.Ran.{Ran}
use Rattle.stack.specs.declared.state.Ran.TheVariants.{Went, Stopped}

-- the same state with another end of the stack
abbrev pub with_used : ℕ → AlgebraEnv → AlgebraEnv
with_used u env = record { used = u; handled = env.handled; complex = env.complex; pairs = env.pairs }

-- and with n more pairs multiplied
abbrev pub went_on : ℕ → ℕ → AlgebraEnv → AlgebraEnv
went_on u n env = record { used = u; handled = env.handled; complex = env.complex; pairs = min most_pairs (env.pairs + n) }

-- whatever sums are stacked up to u, those on top have these sizes
abbrev pub Tops : Arena → ℕ → List ℕ → Type 0
Tops a u ns = (ss : List Sum) → Stacked a working u ss → (ms : List ℕ) × (sizes_of ss ≡ ns ++ ms)

-- a sum that was formed has an entry
abbrev pub Filled : Result ℕ Refusal → Type 0
Filled (Ok n) = (1 ≤ n) × (n ≤ sum_entries)
Filled (Err q) = Unit {0}

-- a step with the pairs that it multiplied, which a refusal does not have
abbrev pub more_pairs : Stepped → ℕ → Stepped
more_pairs (stepped.Went used m) pairs = stepped.Went used pairs
more_pairs (stepped.Stopped q b) pairs = stepped.Stopped q b

-- after a step: one more is handled, if so, and a complex number was met, if so
abbrev pub finished : Bool → Bool → Ran → Ran
finished h c (Went env) = Went (record { used = env.used; handled = cond h (min handled_needed (suc env.handled)) env.handled; complex = env.complex || c; pairs = env.pairs })
finished h c (Stopped q at b) = Stopped q at b
