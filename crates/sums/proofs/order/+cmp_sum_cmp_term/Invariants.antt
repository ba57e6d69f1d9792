-- The two call each other, and each turn has one level less left. The loop's invariant: what is left of both sums decides.
use Rattle.std.proofs.Common.{◌-◌, ◌+◌, ◌*◌}
use Rattle.cells.specs.Contract.Book.{shown}
use Rattle.std.specs.declared.cmp.Ordering.TheVariants.{Equal}
use Rattle.sums.specs.Contract.Lies.{OfTwo}
use Rattle.sums.proofs.order.Compare.{Abreast}
use Rattle.sums.proofs.order.+cmp_sum_cmp_term.Given as goal

abbrev pub decreases-cmp_sum : goal.decreases-cmp_sum
decreases-cmp_sum l = 2 * l.left

abbrev pub decreases-cmp_term : goal.decreases-cmp_term
decreases-cmp_term l = 2 * l.left + 1

abbrev pub invariant-cmp_sum-loop-p : goal.invariant-cmp_sum-loop-p
invariant-cmp_sum-loop-p l =
    let b = shown l.book in
    OfTwo b l.i (l.i + l.n) l.j (l.j + l.m) l.left (λ s t. Abreast b l.p (l.i + l.n) b l.q (l.j + l.m) l.left s t Equal)

abbrev pub decreases-cmp_sum-loop-p : goal.decreases-cmp_sum-loop-p
decreases-cmp_sum-loop-p l = l.end - l.p
