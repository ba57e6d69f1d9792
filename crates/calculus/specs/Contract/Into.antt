-- What is asked for and done where an entry's derivative or integral goes into a sum of the same book.
use Rattle.std.specs.Prelude.{ℕ, ◌+◌, ◌≤◌, cond, eqb, Result}
use Rattle.limits.specs.Limits.{sum_entries, sum_levels}
use Rattle.numbers.specs.declared.complex.Complex.{Complex}
use Rattle.numbers.specs.Complex.Arith as complex
use Rattle.cells.specs.declared.Entry.{Entry}
use Rattle.cells.specs.Contract.Book.{Book, Room}
use Rattle.cells.specs.Contract.Moves.{Kept}
use Rattle.sums.specs.Tree.Kinds.{Sin}
use Rattle.sums.specs.Tree.Sums.{Sum}
use Rattle.sums.specs.Tree.Map.{Outcome}
use Rattle.calculus.specs.Derivative.{derive_by}
use Rattle.calculus.specs.Integral.{x}
use Rattle.calculus.specs.Contract.Turned.{turned_kind, turned_how}
use Rattle.limits.specs.declared.Refusal.{Refusal}
use Rattle.sums.specs.Contract.Lies.{Lies, Held, OfTwo, Agrees}
use Rattle.sums.specs.Contract.Heads.{GoodHead}
use Rattle.arithmetic.specs.Add.Contract.Operands.{Source}

-- the entry e, whose argument lies from i on, and the sum of len cells from w on
pub record Ready (b : Book) (e : Entry) (i w len : ℕ) : Type 0 where
  pub head : GoodHead e
  pub argument : Source b i e.inside w
  pub few : len ≤ sum_entries
  pub room : Room b (w + (sum_entries + sum_entries))
  pub held : Held b w (w + len) sum_levels

-- f says what becomes of the entry, its argument and the sum; so many places from w on were written
pub record Into (b b' : Book) (e : Entry) (i w len places : ℕ) (r : Result ℕ Refusal) (f : Entry → Sum → Sum → Outcome) : Type 0 where
  pub kept : Kept b b' w (w + places)
  pub agrees : OfTwo b w (w + len) i (i + e.inside) sum_levels (λ s t. Agrees r b' w (f e t s))

-- x lies right behind the places of the result
abbrev pub XBehind : Book → ℕ → Type 0
XBehind b w = Lies b (w + sum_entries) (w + sum_entries + 1) sum_levels x

-- the derivative of sin, cos, sinh or cosh
abbrev pub derive_wave : Entry → Sum → Sum → Outcome
derive_wave e t s = derive_by (turned_kind e.kind) (turned_how e.kind) e t s

-- the coefficient that the integral of sin, cos, sinh or cosh has: that of sin is negated
abbrev pub turned_coef : ℕ → Complex → Complex
turned_coef k c = cond (eqb k Sin) (complex.negated c) c
