-- A call inward has one level less left. The loop's invariant: what is left of the sum decides.
use Rattle.std.proofs.Common.{◌-◌, ◌+◌}
use Rattle.sums.specs.Tree.Sums.{Sum}
use Rattle.sums.specs.Contract.Nests.{Nests}
use Rattle.sums.proofs.order.Nesting.{Rest}
use Rattle.sums.proofs.order.+nests_inside.Given as goal

abbrev pub decreases-nests_inside : goal.decreases-nests_inside
decreases-nests_inside l = l.left

abbrev pub invariant-loop-k : goal.invariant-loop-k
invariant-loop-k l = (s : Sum) → Nests l.insides l.i (l.i + l.n) s → Rest l.insides l.k (l.i + l.n) l.left s

abbrev pub decreases-loop-k : goal.decreases-loop-k
decreases-loop-k l = l.end - l.k
