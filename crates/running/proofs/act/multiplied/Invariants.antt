-- The loop's invariant: what is left to multiply gives the whole. Assumes nothing.
use mathlib.Core.Path.{◌≡◌}
use Prim.Native.Nat.{◌-◌}
use Rattle.running.specs.Primitives.{times}
use Rattle.running.proofs.act.multiplied.Given as goal

abbrev pub invariant-loop : goal.invariant-loop
invariant-loop v = times (v.n - 1) v.b v.b ≡ times (v.n - v.counter) v.b v.p
