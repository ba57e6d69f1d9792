-- The loop's invariant: the coefficients from k up to some end are 1 where the sum's are, and there are cells before that end while there are any.
use Rattle.std.proofs.Common.{ℕ, ◌+◌, ◌≤◌, ◌<◌}
use Rattle.cells.specs.Contract.Book.{shown}
use Rattle.sums.specs.Tree.Sums.{Sum}
use Rattle.sums.specs.Contract.Lies.{Lies}
use Rattle.arithmetic.specs.Power.{unit_coefs}
use Rattle.powers.proofs.raise.Down.{Down}
use Rattle.powers.proofs.raise.unit_coefs.Given as goal

abbrev pub invariant-loop-k : goal.invariant-loop-k
invariant-loop-k l = (s : Sum) → Lies (shown l.book) l.i (l.i + l.n) 4 s
    → (e : ℕ) × (e ≤ l.i + l.n) × (l.k < l.i + l.n → l.k < e) × Down (shown l.book) unit_coefs l.k e s
