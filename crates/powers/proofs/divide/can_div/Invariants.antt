-- The loop's invariant: what is left decides.
use Rattle.std.proofs.Common.{◌+◌, ◌-◌}
use Rattle.cells.specs.Contract.Book.{shown}
use Rattle.sums.specs.Tree.Sums.{Sum}
use Rattle.sums.specs.Contract.Lies.{Lies}
use Rattle.powers.specs.Divide.Contract.Dividing.{Divisor}
use Rattle.powers.proofs.divide.Able.{Able}
use Rattle.powers.proofs.divide.can_div.Given as goal

abbrev pub invariant-loop-q : goal.invariant-loop-q
invariant-loop-q l = (s v : Sum) → Lies (shown l.book) l.i (l.i + l.n) 4 s → Divisor (shown l.book) l.y l.j v → Able (shown l.book) l.q (l.i + l.n) l.y v s

abbrev pub decreases-loop-q : goal.decreases-loop-q
decreases-loop-q l = l.i + l.n - l.q
