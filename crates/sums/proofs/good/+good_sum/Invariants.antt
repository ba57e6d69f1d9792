-- A call inward has one level less left. The loop's invariant: a good sum lies there exactly where a good rest lies after what is passed.
use Rattle.std.proofs.Common.{◌-◌, ◌+◌}
use Rattle.cells.specs.Contract.Book.{shown}
use Rattle.sums.proofs.good.Rising.{Passed}
use Rattle.sums.proofs.good.+good_sum.Given as goal

abbrev pub decreases-good_sum : goal.decreases-good_sum
decreases-good_sum l = l.left

abbrev pub invariant-loop-k : goal.invariant-loop-k
invariant-loop-k l = Passed (shown l.book) l.i (l.i + l.n) l.left l.last l.k

abbrev pub decreases-loop-k : goal.decreases-loop-k
decreases-loop-k l = l.end - l.k
