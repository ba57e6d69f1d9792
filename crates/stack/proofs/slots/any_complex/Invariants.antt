-- The sums that are left decide.
use Rattle.cells.specs.Contract.Book.{shown}
use Rattle.stack.specs.Contract.Arena.{of}
use Rattle.stack.proofs.slots.Counting.{Scanned}
use Rattle.stack.proofs.slots.any_complex.Given as goal

abbrev pub invariant-loop-p : goal.invariant-loop-p
invariant-loop-p l = Scanned (of (shown l.book) l.sizes) l.u l.p

abbrev pub decreases-loop-p : goal.decreases-loop-p
decreases-loop-p l = l.p
