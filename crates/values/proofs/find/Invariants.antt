-- Of the sum there is a rest from i on, and both tests and the sum go on with it.
use Rattle.std.proofs.Common.{ℕ, ◌-◌, ◌≤◌}
use Rattle.cells.specs.Contract.Book.{shown}
use Rattle.sums.specs.Tree.Sums.{Sum}
use Rattle.sums.specs.Contract.Lies.{Lies}
use Rattle.values.specs.Contract.Findings.{Reached}
use Rattle.values.proofs.Walk.{Rest}
use Rattle.values.proofs.find.Given as goal

abbrev pub invariant-loop-i : goal.invariant-loop-i
invariant-loop-i l = (l.i ≤ l.n) × Reached l.x l.f × ((s : Sum) → Lies (shown l.book) 0 l.n 4 s → Rest (shown l.book) l.n l.x l.f l.i s)

abbrev pub decreases-loop-i : goal.decreases-loop-i
decreases-loop-i l = l.n - l.i
