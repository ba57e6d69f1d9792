-- The loop's invariant: j cells are copied.
use Rattle.cells.specs.Contract.Book.{seen, shown, book}
use Rattle.cells.specs.Contract.Moves.{Copied}
use Rattle.cells.proofs.Book.copy_in.Given as goal

abbrev pub invariant-loop-j : goal.invariant-loop-j
invariant-loop-j l = Copied (shown l.from) (seen l.fn.self) (book l.kinds l.insides l.numbers) l.i l.j l.k
