-- The loop's invariant: the powers from j on come after the one that is sought.
use Rattle.std.proofs.Common.{◌+◌, ◌≤◌}
use Rattle.limits.specs.Limits.{sum_levels}
use Rattle.cells.specs.Contract.Book.{shown, at}
use Rattle.sums.specs.Tree.Sums.{Sum}
use Rattle.sums.specs.Contract.Lies.{Lies}
use Rattle.sums.proofs.order.Powers.{Down}
use Rattle.sums.proofs.order.find_power.Given as goal

abbrev pub invariant-loop-j : goal.invariant-loop-j
invariant-loop-j l = (l.j ≤ l.p + l.n) × ((s : Sum) → Lies (shown l.book) l.p (l.p + l.n) sum_levels s → Down (at (shown l.book)) l.num l.p l.j s)
