-- The loop's invariant: j cells are copied.
use Rattle.cells.specs.Contract.Book.{seen, book}
use Rattle.cells.specs.Contract.Moves.{Copied}
use Rattle.cells.proofs.Book.copy_down.Given as goal

abbrev pub invariant-loop-j : goal.invariant-loop-j
invariant-loop-j l = Copied (seen l.fn.self) (seen l.fn.self) (book l.kinds l.insides l.numbers) l.i l.j l.k
