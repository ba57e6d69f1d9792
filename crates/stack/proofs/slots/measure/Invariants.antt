-- At p the search has the same answer.
use Rattle.stack.proofs.slots.Counting.{Sought}
use Rattle.stack.proofs.slots.measure.Given as goal

abbrev pub invariant-loop-left : goal.invariant-loop-left
invariant-loop-left l = Sought l.sizes l.lo l.hi l.k l.p l.left

abbrev pub decreases-loop-left : goal.decreases-loop-left
decreases-loop-left l = l.left
