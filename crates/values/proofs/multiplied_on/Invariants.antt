-- What is left to multiply gives the whole.
use Rattle.std.proofs.Common.{◌≡◌, ◌-◌}
use Rattle.running.specs.Primitives.{times}
use Rattle.values.proofs.multiplied_on.Given as goal

abbrev pub invariant-loop-left : goal.invariant-loop-left
invariant-loop-left l = times (l.n - l.k) l.x l.p ≡ times l.left l.x l.r

abbrev pub decreases-loop-left : goal.decreases-loop-left
decreases-loop-left l = l.left
