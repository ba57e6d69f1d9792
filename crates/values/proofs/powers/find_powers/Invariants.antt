-- The entries passed are powers, each above the one before it, and were met.
use Rattle.std.proofs.Common.{◌-◌}
use Rattle.values.proofs.Passing.{Passing}
use Rattle.values.proofs.powers.find_powers.Given as goal

abbrev pub invariant-loop-i : goal.invariant-loop-i
invariant-loop-i l = Passing l.list l.n l.x l.f l.last l.i

abbrev pub decreases-loop-i : goal.decreases-loop-i
decreases-loop-i l = l.n - l.i
