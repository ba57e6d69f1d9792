-- The loop's invariant: the products that are left make of the power so far what all make of the base.
use Rattle.std.proofs.Common.{◌≡◌, suc, ◌-◌}
use Rattle.sums.specs.Tree.Kinds.{X}
use Rattle.sums.specs.Tree.Sums.{Sum}
use Rattle.arithmetic.specs.Singles.{single}
use Rattle.arithmetic.specs.Power.{raised}
use Rattle.powers.proofs.raise.raise_power.Given as goal

abbrev pub invariant-loop-turn : goal.invariant-loop-turn
invariant-loop-turn l = (j : Sum) → (i : Sum)
    × (raised l.times (single X l.x.num j l.x.coef) (single X l.x.num j l.x.coef) ≡ raised (suc (l.times - l._turn)) (single X l.num i l.c) (single X l.x.num j l.x.coef))
