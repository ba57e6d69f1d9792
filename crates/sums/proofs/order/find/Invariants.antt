-- The loop's invariant: the term's place in the sum is its place in what is left.
use Rattle.std.proofs.Common.{◌-◌, ◌+◌}
use Rattle.cells.specs.Contract.Book.{shown}
use Rattle.sums.specs.Contract.Lies.{OfTwo}
use Rattle.sums.proofs.order.Compare.{Seek}
use Rattle.sums.proofs.order.find.Given as goal

abbrev pub invariant-loop-k : goal.invariant-loop-k
invariant-loop-k l =
    let b = shown l.book in
    OfTwo b l.p (l.p + l.n) l.i (l.i + l.x.inside) l.left (λ s t. Seek b l.k (l.p + l.n) l.left l.x t s l.p)

abbrev pub decreases-loop-k : goal.decreases-loop-k
decreases-loop-k l = l.end - l.k
