-- The loop's invariant: what is left, added into what there is, gives the answer.
use Rattle.std.proofs.Common.{◌+◌, ◌-◌, ◌≤◌, ◌≡◌}
use Rattle.cells.specs.Contract.Book.{seen, slices}
use Rattle.cells.specs.Contract.Moves.{Kept}
use Rattle.sums.specs.Tree.Sums.{Sum}
use Rattle.sums.specs.Contract.Lies.{Lies}
use Rattle.arithmetic.proofs.add.Folding.{Folding, added, any}
use Rattle.arithmetic.proofs.add.add_each.Given as goal

abbrev pub invariant-loop-q : goal.invariant-loop-q
invariant-loop-q l = record {
  kept : Kept (seen l.fn.book) (seen l.book) l.p (l.p + 64);
  from : l.j ≤ l.q;
  few : l.len ≤ 64;
  rest : (s t : Sum) → Lies (seen l.fn.book) l.p (l.p + l.n) 4 s → Lies (seen l.fn.book) l.j (l.j + l.m) 4 t
      → Folding (added l.how) any (seen l.book) l.p l.len l.q (l.j + l.m) 4 s t;
  same : slices l.book ≡ slices l.fn.book;
}

abbrev pub decreases-loop-q : goal.decreases-loop-q
decreases-loop-q l = l.j + l.m - l.q
