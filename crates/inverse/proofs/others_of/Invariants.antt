-- What is left goes on from what was found.
use Rattle.std.proofs.Common.{◌+◌, ◌-◌, ◌≤◌}
use Rattle.cells.specs.Contract.Book.{shown}
use Rattle.inverse.proofs.Searching.{Looking}
use Rattle.inverse.proofs.others_of.Given as goal

abbrev pub invariant-loop-i : goal.invariant-loop-i
invariant-loop-i l = (l.j ≤ l.i) × Looking (shown l.book) l.j l.m l.i l.found

abbrev pub decreases-loop-i : goal.decreases-loop-i
decreases-loop-i l = l.j + l.m - l.i
