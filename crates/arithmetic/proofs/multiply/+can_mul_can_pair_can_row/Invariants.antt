-- The measures: with as many levels left, a pair comes before the sums of its insides, and a sum before its rows. The loops' invariant: what is left of the sum decides.
use Rattle.std.proofs.Common.{◌+◌, ◌-◌, ◌*◌}
use Rattle.sums.specs.Tree.Sums.{Sum}
use Rattle.arithmetic.specs.Product.{rowable, mulable}
use Rattle.arithmetic.specs.Multiply.Contract.Shapes.{Shape}
use Rattle.arithmetic.proofs.multiply.Shapes.{Tests}
use Rattle.arithmetic.proofs.multiply.+can_mul_can_pair_can_row.Given as goal

abbrev pub decreases-can_mul : goal.decreases-can_mul
decreases-can_mul l = 3 * l.left + 1

abbrev pub decreases-can_pair : goal.decreases-can_pair
decreases-can_pair l = 3 * l.left + 2

abbrev pub decreases-can_row : goal.decreases-can_row
decreases-can_row l = 3 * l.left

abbrev pub invariant-can_mul-loop-q : goal.invariant-can_mul-loop-q
invariant-can_mul-loop-q l =
    (s v : Sum) → Shape l.kinds l.insides l.i (l.i + l.n) l.left s → Shape l.kinds l.insides l.j (l.j + l.m) l.left v
    → Tests l.kinds l.insides l.q (l.i + l.n) l.left (λ u. mulable u v) s

abbrev pub decreases-can_mul-loop-q : goal.decreases-can_mul-loop-q
decreases-can_mul-loop-q l = l.i + l.n - l.q

abbrev pub invariant-can_row-loop-q : goal.invariant-can_row-loop-q
invariant-can_row-loop-q l =
    (u v : Sum) → Shape l.kinds l.insides l.i (l.i + l.n) (l.left - 1) u → Shape l.kinds l.insides l.j (l.j + l.m) l.left v
    → Tests l.kinds l.insides l.q (l.j + l.m) l.left (rowable l.k (mulable u)) v

abbrev pub decreases-can_row-loop-q : goal.decreases-can_row-loop-q
decreases-can_row-loop-q l = l.j + l.m - l.q
