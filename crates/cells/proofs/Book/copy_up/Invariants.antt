-- The loop's invariant: the cells from top on are copied.
use Rattle.std.proofs.Common.{◌≤◌}
use Rattle.cells.specs.Contract.Book.{seen, book}
use Rattle.cells.proofs.Writes.{CopiedFrom}
use Rattle.cells.proofs.Book.copy_up.Given as goal

abbrev pub invariant-loop-top : goal.invariant-loop-top
invariant-loop-top l = (l.top ≤ l.n) × CopiedFrom (seen l.fn.self) (book l.kinds l.insides l.numbers) l.i l.top l.n l.k
