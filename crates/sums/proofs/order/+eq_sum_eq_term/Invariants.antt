-- The two call each other, and each turn has one level less left. The loop's invariant: what is left of both sums decides.
use Rattle.std.proofs.Common.{◌-◌, ◌+◌, ◌*◌}
use Rattle.cells.specs.Contract.Book.{shown}
use Rattle.sums.specs.Contract.Lies.{OfTwo}
use Rattle.sums.proofs.order.Sameness.{Pair}
use Rattle.sums.proofs.order.+eq_sum_eq_term.Given as goal

abbrev pub decreases-eq_sum : goal.decreases-eq_sum
decreases-eq_sum l = 2 * l.left

abbrev pub decreases-eq_term : goal.decreases-eq_term
decreases-eq_term l = 2 * l.left + 1

abbrev pub invariant-eq_sum-loop-p : goal.invariant-eq_sum-loop-p
invariant-eq_sum-loop-p l =
    let b = shown l.book in
    OfTwo b l.i (l.i + l.n) l.j (l.j + l.m) l.left (λ s t. Pair b l.p (l.i + l.n) b l.q (l.j + l.m) l.left s t)

abbrev pub decreases-eq_sum-loop-p : goal.decreases-eq_sum-loop-p
decreases-eq_sum-loop-p l = l.end - l.p
