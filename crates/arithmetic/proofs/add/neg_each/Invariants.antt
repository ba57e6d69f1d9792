-- The loop's invariant: once what is left is negated, the whole is.
use Rattle.std.proofs.Common.{◌+◌, ◌-◌, ◌≤◌, ◌≡◌}
use Rattle.cells.specs.Contract.Book.{seen, slices}
use Rattle.cells.specs.Contract.Moves.{Kept}
use Rattle.sums.specs.Tree.Sums.{Sum}
use Rattle.sums.specs.Contract.Lies.{Lies}
use Rattle.arithmetic.proofs.add.Negating.{Negating}
use Rattle.arithmetic.proofs.add.neg_each.Given as goal

abbrev pub invariant-loop-k : goal.invariant-loop-k
invariant-loop-k l = record {
  kept : Kept (seen l.fn.book) (seen l.book) l.p (l.p + l.n);
  from : l.p ≤ l.k;
  rest : (s : Sum) → Lies (seen l.fn.book) l.p (l.p + l.n) 4 s → Negating (seen l.book) l.p l.k (l.p + l.n) s;
  same : slices l.book ≡ slices l.fn.book;
}

abbrev pub decreases-loop-k : goal.decreases-loop-k
decreases-loop-k l = l.p + l.n - l.k
