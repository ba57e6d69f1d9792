-- The loop's invariant: the entries passed are clean and in the cells; the slices stay.
use Rattle.std.proofs.Common.{◌≡◌}
use Rattle.cells.specs.Contract.Book.{seen, slices}
use Rattle.sums.proofs.bytes.Reading.{Passed}
use Rattle.sums.proofs.bytes.read_cells.Given as goal

abbrev pub invariant-loop-j : goal.invariant-loop-j
invariant-loop-j l = Passed l.list (seen l.fn.book) (seen l.book) l.j × (slices l.book ≡ slices l.fn.book)
