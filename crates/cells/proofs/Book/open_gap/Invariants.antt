-- The loop's invariant: the cells from j on are moved.
use Rattle.std.proofs.Common.{◌≤◌}
use Rattle.cells.specs.Contract.Book.{seen, book}
use Rattle.cells.specs.Contract.Moves.{Moved}
use Rattle.cells.proofs.Book.open_gap.Given as goal

abbrev pub invariant-loop-j : goal.invariant-loop-j
invariant-loop-j l = (l.k ≤ l.j) × (l.j ≤ l.e) × Moved (seen l.fn.self) (book l.kinds l.insides l.numbers) l.j l.e l.d
