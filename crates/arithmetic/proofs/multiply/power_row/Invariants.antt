-- The loop's invariant: what is left, added into what there is, gives the answer, and there are only powers.
use Rattle.std.proofs.Common.{◌+◌, ◌≤◌, ◌≡◌}
use Rattle.cells.specs.Contract.Book.{seen, slices}
use Rattle.cells.specs.Contract.Moves.{Kept}
use Rattle.sums.specs.Tree.Sums.{Sum}
use Rattle.sums.specs.Contract.Lies.{Lies}
use Rattle.sums.specs.Contract.Place.{OnlyPowers}
use Rattle.arithmetic.specs.Multiply.Contract.Rows.{power_into}
use Rattle.arithmetic.proofs.add.Folding.{Folding, any}
use Rattle.arithmetic.proofs.multiply.power_row.Given as goal

abbrev pub invariant-loop-q : goal.invariant-loop-q
invariant-loop-q l = record {
  kept : Kept (seen l.fn.book) (seen l.book) l.p (l.p + 64);
  few : l.len ≤ 64;
  only : OnlyPowers (seen l.book).kinds l.p (l.p + l.len);
  rest : (s v : Sum) → Lies (seen l.fn.book) l.p (l.p + l.n) 4 s → Lies (seen l.fn.book) l.j (l.j + l.m) 4 v
      → Folding (power_into l.x) any (seen l.book) l.p l.len l.q (l.j + l.m) 4 s v;
  same : slices l.book ≡ slices l.fn.book;
}
