-- The loop's invariant: what is left, multiplied and added into what there is, gives the answer.
use Rattle.std.proofs.Common.{◌+◌, ◌-◌, ◌≤◌, ◌≡◌}
use Rattle.cells.specs.Contract.Book.{seen, slices}
use Rattle.cells.specs.Contract.Moves.{Kept}
use Rattle.sums.specs.Tree.Sums.{Sum, none}
use Rattle.sums.specs.Contract.Lies.{Lies}
use Rattle.arithmetic.proofs.add.Folding.{Folding}
use Rattle.powers.specs.Divide.Contract.Dividing.{step_x}
use Rattle.powers.proofs.divide.Turns.{any}
use Rattle.powers.proofs.divide.times_x.Given as goal

abbrev pub invariant-loop-q : goal.invariant-loop-q
invariant-loop-q l = record {
  kept : Kept (seen l.fn.book) (seen l.book) l.p (l.p + 64);
  from : l.j ≤ l.q;
  few : l.len ≤ 64;
  rest : (t : Sum) → Lies (seen l.fn.book) l.j (l.j + l.m) 4 t → Folding (step_x l.power) any (seen l.book) l.p l.len l.q (l.j + l.m) 4 none t;
  same : slices l.book ≡ slices l.fn.book;
}

abbrev pub decreases-loop-q : goal.decreases-loop-q
decreases-loop-q l = l.j + l.m - l.q
