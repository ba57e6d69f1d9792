-- What is left has the same coefficient.
use Rattle.std.proofs.Common.{◌+◌, ◌-◌, ◌≤◌}
use Rattle.cells.specs.Contract.Book.{shown}
use Rattle.inverse.proofs.Searching.{Seeking}
use Rattle.inverse.proofs.coef_of.Given as goal

abbrev pub invariant-loop-i : goal.invariant-loop-i
invariant-loop-i l = (l.j ≤ l.i) × Seeking (shown l.book) l.j l.m l.q l.i

abbrev pub decreases-loop-i : goal.decreases-loop-i
decreases-loop-i l = l.j + l.m - l.i
