-- The loop's invariant: what is left goes on from what was found.
use Rattle.std.proofs.Common.{◌+◌}
use Rattle.cells.specs.Contract.Book.{shown}
use Rattle.sums.specs.Tree.Sums.{Sum}
use Rattle.sums.specs.Contract.Lies.{Lies}
use Rattle.calculus.proofs.derivative.Primes.{Priming}
use Rattle.calculus.proofs.derivative.prime_of.Given as goal

abbrev pub invariant-loop-q : goal.invariant-loop-q
invariant-loop-q l = (s : Sum) → Lies (shown l.book) l.i (l.i + l.n) 4 s → Priming (shown l.book) l.q (l.i + l.n) l.acc s
