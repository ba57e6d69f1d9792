-- The loop's invariant: what is left decides.
use Rattle.std.proofs.Common.{ℕ, ◌+◌, ◌-◌, List}
use Rattle.std.specs.Prelude.{Float}
use Rattle.cells.specs.Contract.Book.{book}
use Rattle.sums.specs.Tree.Sums.{Sum}
use Rattle.sums.specs.Contract.Lies.{Lies}
use Rattle.powers.proofs.divide.Powers.{Powers}
use Rattle.powers.proofs.divide.all_x.Given as goal

abbrev pub invariant-loop-q : goal.invariant-loop-q
invariant-loop-q l = (numbers : List (List ℕ)) (p : Float) (t : Sum) → Lies (book l.kinds l.insides numbers) l.j (l.j + l.m) 4 t
    → Powers (book l.kinds l.insides numbers) l.q (l.j + l.m) p t

abbrev pub decreases-loop-q : goal.decreases-loop-q
decreases-loop-q l = l.j + l.m - l.q
