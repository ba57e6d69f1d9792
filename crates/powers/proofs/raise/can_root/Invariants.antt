-- The loop's invariant: what lies from k on is rootable where the sum is.
use Rattle.std.proofs.Common.{◌+◌}
use Rattle.cells.specs.Contract.Book.{shown}
use Rattle.sums.specs.Tree.Sums.{Sum}
use Rattle.sums.specs.Contract.Lies.{Lies}
use Rattle.arithmetic.specs.Power.{rootable}
use Rattle.powers.proofs.raise.Down.{Down}
use Rattle.powers.proofs.raise.can_root.Given as goal

abbrev pub invariant-loop-k : goal.invariant-loop-k
invariant-loop-k l = (s : Sum) → Lies (shown l.book) l.i (l.i + l.n) 4 s → Down (shown l.book) rootable l.k (l.i + l.n) s
