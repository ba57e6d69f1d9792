-- The loop's invariant: what is left, derived into what there is, gives the answer.
use Rattle.std.proofs.Common.{◌+◌, ◌-◌, ◌≡◌}
use Rattle.cells.specs.Contract.Book.{seen, slices}
use Rattle.calculus.specs.Derivative.{derive_into}
use Rattle.calculus.proofs.Eaching.{Eaching}
use Rattle.calculus.proofs.derivative.derive_each.Given as goal

abbrev pub invariant-loop-q : goal.invariant-loop-q
invariant-loop-q l = Eaching derive_into (64 + 64) (seen l.fn.book) (seen l.book) l.j l.m l.w l.q l.len × (slices l.book ≡ slices l.fn.book)

abbrev pub decreases-loop-q : goal.decreases-loop-q
decreases-loop-q l = l.j + l.m - l.q
