-- The loop's invariant: the product so far lies at its place and is flat where the base is, and the products that are left make of it what all make of the base.
use Rattle.std.proofs.Common.{◌+◌, ◌-◌, ◌*◌, ◌≤◌, ◌≡◌}
use Rattle.cells.specs.Contract.Book.{seen, slices}
use Rattle.cells.specs.Contract.Moves.{Kept}
use Rattle.sums.specs.Tree.Sums.{Sum}
use Rattle.sums.specs.Contract.Lies.{Lies}
use Rattle.powers.proofs.raise.Turns.{Place, So-far}
use Rattle.powers.proofs.raise.multiply.Given as goal

abbrev pub invariant-loop-turn : goal.invariant-loop-turn
invariant-loop-turn l = record {
  few : l.len ≤ 64;
  place : Place l.w l.i l.n l.times l.from l.len (l.times - l.turn);
  kept : Kept (seen l.fn.book) (seen l.book) l.w (l.w + (64 + 64));
  low : l.pairs ≤ l.turn * 4096;
  so_far : (s : Sum) → Lies (seen l.fn.book) l.i (l.i + l.n) 4 s → So-far (seen l.book) l.from l.len (l.times - l.turn) l.times l.pairs s;
  same : slices l.book ≡ slices l.fn.book;
}
