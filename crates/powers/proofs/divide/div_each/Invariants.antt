-- The loop's invariant: what is left, divided and added into what there is, gives the answer.
use Rattle.std.proofs.Common.{◌+◌, ◌-◌, ◌≤◌, ◌≡◌}
use Rattle.cells.specs.Contract.Book.{seen, slices}
use Rattle.cells.specs.Contract.Moves.{Kept}
use Rattle.sums.specs.Tree.Sums.{Sum, none}
use Rattle.sums.specs.Contract.Lies.{Lies}
use Rattle.arithmetic.specs.Quotient.{div_term}
use Rattle.arithmetic.proofs.add.Folding.{Folding}
use Rattle.powers.specs.Divide.Contract.Dividing.{Divisor}
use Rattle.powers.proofs.divide.Turns.{any}
use Rattle.powers.proofs.divide.div_each.Given as goal

abbrev pub invariant-loop-q : goal.invariant-loop-q
invariant-loop-q l = record {
  kept : Kept (seen l.fn.book) (seen l.book) l.w (l.w + (64 + 64));
  from : l.i ≤ l.q;
  few : l.len ≤ 64;
  rest : (s v : Sum) → Lies (seen l.fn.book) l.i (l.i + l.n) 4 s → Divisor (seen l.fn.book) l.y l.j v
      → Folding (λ x t u. div_term l.y v x u) any (seen l.book) l.w l.len l.q (l.i + l.n) 4 none s;
  same : slices l.book ≡ slices l.fn.book;
}

abbrev pub decreases-loop-q : goal.decreases-loop-q
decreases-loop-q l = l.i + l.n - l.q
