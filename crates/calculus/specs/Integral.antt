-- The Rust's integral of a sum. One outermost entry is one step. It stores and does not add: at equal keys the later number wins.
use Rattle.std.specs.Prelude.{cond, eqb, Float, ℕ}
use Rattle.std.specs.Float.Ieee.{eq}
use Rattle.numbers.specs.Constants.{euler}
use Rattle.numbers.specs.Ops.{◌⊕◌}
use Rattle.numbers.specs.Signs.{zero64, one64}
use Rattle.numbers.specs.declared.complex.Complex.{Complex}
use Rattle.numbers.specs.Complex.Arith as complex
use Rattle.cells.specs.declared.Entry.{Entry}
use Rattle.sums.specs.declared.tree.Merge.TheVariants.{Store}
use Rattle.limits.specs.declared.Refusal.TheVariants.{TooComplex}
use Rattle.sums.specs.Tree.Kinds as kinds
use Rattle.sums.specs.Tree.Sums.{Sum, none, entry}
use Rattle.sums.specs.Tree.Same.{same_sum}
use Rattle.sums.specs.Tree.Map.{Outcome, refused, unless, formed, each_into}
use Rattle.arithmetic.specs.Quotient.{x_to}

-- x, the argument of what is stored
abbrev pub x : Sum
x = x_to one64

abbrev pub stored : ℕ → Float → Complex → Sum → Outcome
stored k b c s = formed Store (entry k 1 b c) x s

-- the power plus 1; where that is 0, the natural logarithm
abbrev pub integrate_x : Entry → Sum → Outcome
integrate_x e s =
    cond (eq (e.num ⊕ one64) zero64) (stored kinds.Log euler e.coef s)
    (formed Store (entry kinds.X 0 (e.num ⊕ one64) (complex.over_real e.coef (e.num ⊕ one64))) none s)

-- a function of what == says is x
abbrev pub integrate_by : ℕ → Complex → Sum → Sum → Outcome
integrate_by k c i s = unless (same_sum i x) TooComplex (stored k zero64 c s)

unfoldable pub integrate_into : Entry → Sum → Sum → Outcome
integrate_into e i s =
    cond (eqb e.kind kinds.X) (integrate_x e s)
    (cond (eqb e.kind kinds.Sin) (integrate_by kinds.Cos (complex.negated e.coef) i s)
    (cond (eqb e.kind kinds.Cos) (integrate_by kinds.Sin e.coef i s)
    (cond (eqb e.kind kinds.SinH) (integrate_by kinds.CosH e.coef i s)
    (cond (eqb e.kind kinds.CosH) (integrate_by kinds.SinH e.coef i s) (refused TooComplex)))))

unfoldable pub integrate : Sum → Outcome
integrate s = each_into integrate_into none s
