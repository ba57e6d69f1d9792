-- The loop's invariant: the cells from p up to k have become their roots.
use Rattle.std.proofs.Common.{◌≡◌}
use Rattle.cells.specs.Contract.Book.{seen, slices}
use Rattle.powers.proofs.raise.Rooting.{Halfway}
use Rattle.powers.proofs.raise.root_each.Given as goal

abbrev pub invariant-loop-k : goal.invariant-loop-k
invariant-loop-k l = Halfway l.e (seen l.fn.book) (seen l.book) l.p l.k × (slices l.book ≡ slices l.fn.book)
