-- The measures: with as many levels left, a pair comes before the sums of its insides, and a sum before its rows.
-- The loops' invariant: the result so far is kept apart from the operands, and with what is left of the sum it decides.
use Rattle.std.proofs.Common.{◌+◌, ◌-◌, ◌*◌, ◌≤◌, ◌≡◌}
use Rattle.cells.specs.Contract.Book.{seen, slices}
use Rattle.cells.specs.Contract.Moves.{Kept}
use Rattle.sums.specs.Tree.Sums.{Sum, none}
use Rattle.sums.specs.Contract.Lies.{Lies}
use Rattle.arithmetic.specs.Product.{rowable, mulable, mul_term, mul_into}
use Rattle.arithmetic.proofs.add.Folding.{Folding}
use Rattle.arithmetic.proofs.multiply.Laws.{row_of}
use Rattle.arithmetic.proofs.multiply.+div_mul_expr_mul_mul_row_term_mul.Given as goal

abbrev pub decreases-div_mul : goal.decreases-div_mul
decreases-div_mul l = 4 * l.left + 2

abbrev pub decreases-expr_mul : goal.decreases-expr_mul
decreases-expr_mul l = 4 * l.left + 1

abbrev pub decreases-mul_row : goal.decreases-mul_row
decreases-mul_row l = 4 * l.left

abbrev pub decreases-term_mul : goal.decreases-term_mul
decreases-term_mul l = 4 * l.left + 3

abbrev pub invariant-expr_mul-loop-q : goal.invariant-expr_mul-loop-q
invariant-expr_mul-loop-q l = record {
  few : l.len ≤ 64;
  from : l.i ≤ l.q;
  kept : Kept (seen l.fn.book) (seen l.book) l.p (l.p + 64);
  rest : (s v : Sum) → Lies (seen l.fn.book) l.i (l.i + l.n) l.left s → Lies (seen l.fn.book) l.j (l.j + l.m) l.left v
      → Folding (row_of v) (λ u. mulable u v) (seen l.book) l.p l.len l.q (l.i + l.n) l.left none s;
  same : slices l.book ≡ slices l.fn.book;
}

abbrev pub decreases-expr_mul-loop-q : goal.decreases-expr_mul-loop-q
decreases-expr_mul-loop-q l = l.i + l.n - l.q

abbrev pub invariant-mul_row-loop-q : goal.invariant-mul_row-loop-q
invariant-mul_row-loop-q l = record {
  few : l.len ≤ 64;
  from : l.j ≤ l.q;
  kept : Kept (seen l.fn.book) (seen l.book) l.p (l.p + 64);
  rest : (u v s : Sum) → Lies (seen l.fn.book) l.i (l.i + l.x.inside) (l.left - 1) u → Lies (seen l.fn.book) l.j (l.j + l.m) l.left v
      → Lies (seen l.fn.book) l.p (l.p + l.n) 4 s
      → Folding (mul_term l.x (λ w. mul_into u w none)) (rowable l.x.kind (mulable u)) (seen l.book) l.p l.len l.q (l.j + l.m) l.left s v;
  same : slices l.book ≡ slices l.fn.book;
}

abbrev pub decreases-mul_row-loop-q : goal.decreases-mul_row-loop-q
decreases-mul_row-loop-q l = l.j + l.m - l.q
