-- The power's value goes to the sum.
use native.Mathlib.Omega.{arith}
use mathlib.Core.Path.{refl, ap, ◌∙◌}
use Rattle.std.proofs.Common.{◌≤◌}
use Rattle.values.specs.Value.{term_value}
use Rattle.values.specs.Contract.Findings.{plus}
use Rattle.values.proofs.Laws.{value-of-power}
use Rattle.values.proofs.add_power.Goals as goal

pub returns-then-n-eq0 : goal.returns-then-n-eq0
unfolding term_value
returns-then-n-eq0 c =
    record {
      tests = (refl, refl);
      any = refl;
      sum = rw c.if-n-eq0.true c.plus.ensures;
      reached = record { low = c.requires.low; formed = c.requires.formed };
    }

pub power_of_x-p-requires : goal.power_of_x-p-requires
power_of_x-p-requires c = (c.requires, omega (arith, c.if-n-eq0.false))

pub returns : goal.returns
unfolding term_value
returns c =
    let f = c.args.f in
    let some : 1 ≤ c.args.n = omega (arith, c.if-n-eq0.false) in
    record {
      tests = (refl, refl);
      any = refl;
      sum = c.plus-2.ensures ∙ ap (plus f.any f.sum) (c.times_coef.ensures ∙ value-of-power c.args.x c.args.n c.args.c some c.power_of_x-p.ensures);
      reached = record { low = some; formed = c.power_of_x-p.ensures };
    }
