-- Two digits of the number go in at each turn, and one digit of its root comes out. Assumes nothing.
use Prim.Native.Nat.{◌+◌, ◌-◌, ◌*◌, ◌^◌, ◌≤◌, ◌<◌}
use mathlib.Core.Path.{◌≡◌}
use Rattle.numbers.proofs.radical.root_by_digits.Given as goal

abbrev pub invariant-loop : goal.invariant-loop
invariant-loop v =
    (((v.d.root * v.d.root + v.d.rem) * 2 ^ 54 + v.a) * (2 ^ (53 - v.counter) * 2 ^ (53 - v.counter)) ≡ v.m * (2 ^ 53 * 2 ^ 53))
    × (v.d.rem ≤ 2 * v.d.root) × (v.a < 2 ^ 54) × ((v.d.root + 1) * 2 ^ (53 - v.counter) ≤ 2 ^ 53)
