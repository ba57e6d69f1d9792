-- Each turn doubles the digits and takes one from the power. Assumes nothing.
use Prim.Native.Nat.{◌-◌, ◌*◌, ◌^◌, ◌≤◌, ◌<◌}
use mathlib.Core.Path.{◌≡◌}
use Rattle.numbers.proofs.radical.moved_up.Given as goal

abbrev pub invariant-loop-digits : goal.invariant-loop-digits
invariant-loop-digits v = (v.digits * 2 ^ v.power ≡ v.m * 2 ^ 1074) × (0 < v.digits) × (v.digits < 2 ^ 53) × (v.power ≤ 1074)

abbrev pub decreases-loop-digits : goal.decreases-loop-digits
decreases-loop-digits v = 2 ^ 53 - v.digits
