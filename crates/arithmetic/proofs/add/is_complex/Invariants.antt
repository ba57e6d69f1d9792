-- The loop's invariant: the cells that are left decide.
use Rattle.std.proofs.Common.{◌≡◌, ◌+◌, ◌-◌}
use Rattle.cells.specs.Contract.Book.{shown, at}
use Rattle.sums.specs.Tree.Sums.{Sum}
use Rattle.sums.specs.Contract.Lies.{Lies}
use Rattle.arithmetic.specs.Singles.{is_complex}
use Rattle.arithmetic.proofs.add.Reading.{scan}
use Rattle.arithmetic.proofs.add.is_complex.Given as goal

abbrev pub invariant-loop-k : goal.invariant-loop-k
invariant-loop-k l = (s : Sum) → Lies (shown l.book) l.i (l.i + l.n) 4 s → is_complex s ≡ scan (at (shown l.book)) l.k (l.i + l.n - l.k)
