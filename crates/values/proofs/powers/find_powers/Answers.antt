-- The entries passed are powers, each above the one before it, and were met.
use native.Mathlib.Omega.{arith}
use mathlib.Core.Path.{◌≡◌, subst}
use Rattle.std.proofs.Common.{Some, ◌<◌}
use Rattle.values.specs.declared.Found.{Found}
use Rattle.values.specs.Contract.Powers.{AllMet}
use Rattle.values.proofs.Passing.{passing-next, passing-end}
use Rattle.values.proofs.powers.find_powers.Goals as goal

same-found : {f g : Found} → Some f ≡ Some g → f ≡ g
same-found e = cc

pub loop-i-preserved : goal.loop-i-preserved
loop-i-preserved c =
    let i<n : c.loop-i.i < c.args.n = c.loop-i-test.true in
    let is-power = c.is_power.ensures c.if-not-is_power.false in
    passing-next c.loop-i.invariant c.power_at-e.result i<n is-power c.power_at-e.ensures c.if-not-last-e.false c.take_term-f.ensures

pub returns : goal.returns
returns c f e = subst (AllMet _ _ _) (same-found e) (passing-end c.loop-i.invariant (omega (arith, c.loop-i-test.false)) (λ j. (c.type_inv.list j).fits) c.requires)
