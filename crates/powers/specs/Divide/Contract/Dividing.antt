-- What a quotient is formed of: sums and a divisor that lie apart from its places, which are sum_entries for the result and as many to work in.
use Rattle.std.specs.Prelude.{ℕ, ◌+◌, ◌-◌, ◌≤◌, cond, eqb, Float}
use Rattle.std.specs.Float.Ieee.{neg}
use Rattle.limits.specs.Limits.{sum_entries, sum_levels}
use Rattle.numbers.specs.Ops.{◌⊕◌, ◌⊖◌}
use Rattle.numbers.specs.Signs.{zero64, one64}
use Rattle.numbers.specs.declared.complex.Complex.{Complex}
use Rattle.numbers.specs.Complex.Arith as complex
use Rattle.cells.specs.declared.Entry.{Entry}
use Rattle.cells.specs.Contract.Book.{Book, Room}
use Rattle.cells.specs.Contract.Moves.{Apart}
use Rattle.sums.specs.declared.tree.Merge.TheVariants.{Add}
use Rattle.sums.specs.Tree.Kinds.{X, Div}
use Rattle.sums.specs.Tree.Sums.{Sum, none, size, entry}
use Rattle.sums.specs.Tree.Good.{GoodEntry}
use Rattle.sums.specs.Tree.Map.{Outcome, and_then_sum, formed, each_into}
use Rattle.arithmetic.specs.Outcomes.{x_by_x}
use Rattle.arithmetic.specs.Singles.{is_one, single}
use Rattle.arithmetic.specs.Product.{product}
use Rattle.arithmetic.specs.Quotient.{x_to, add_times}
use Rattle.sums.specs.Contract.Lies.{Lies, Held}
use Rattle.arithmetic.specs.Add.Contract.Operands.{Source}

-- two sums, the second of at least one term, and room for the places from w on
pub record Operands (b : Book) (i n j m w : ℕ) : Type 0 where
  pub left : Source b i n w
  pub right : Source b j m w
  pub some : 1 ≤ m
  pub room : Room b (w + (sum_entries + sum_entries))

-- the result so far, n cells from w on
pub record Working (b : Book) (w n : ℕ) : Type 0 where
  pub few : n ≤ sum_entries
  pub room : Room b (w + (sum_entries + sum_entries))
  pub held : Held b w (w + n) sum_levels

-- a good term y, whose inside v, of at most sum_levels - 1 levels and sum_entries - 1 entries, lies from j on
pub record Divisor (b : Book) (y : Entry) (j : ℕ) (v : Sum) : Type 0 where
  pub good : GoodEntry y.kind y.num v y.coef
  pub lies : Lies b j (j + y.inside) (sum_levels - 1) v
  pub few : y.inside ≤ sum_entries - 1

-- some divisor, apart from the places from w on
pub record By (b : Book) (y : Entry) (j w : ℕ) : Type 0 where
  pub held : (v : Sum) × Divisor b y j v
  pub apart : Apart j y.inside w (w + (sum_entries + sum_entries))

-- a fact of every sum that lies from i up to e, and of the divisor's inside
abbrev pub OfDivisor : Book → ℕ → ℕ → Entry → ℕ → (Sum → Sum → Type 0) → Type 0
OfDivisor b i e y j fact = (s v : Sum) → Lies b i e sum_levels s → Divisor b y j v → fact s v

-- x to the p, times 1, times the term y, which is taken for a power of x, is added into u
abbrev pub step_x : Float → Entry → Sum → Sum → Outcome
step_x p y v u = formed Add (entry X 0 (p ⊕ y.num) (complex.times complex.one y.coef)) none u

-- that for each term of t
abbrev pub times_x : Float → Sum → Sum → Outcome
times_x p s t = each_into (step_x p) s t

-- a power of x by Div, where c is the quotient of the coefficients, is added into s
abbrev pub over_div : Entry → Complex → Sum → Sum → Outcome
over_div x c s v = cond (is_one x.kind x.num) (add_times c s v) (and_then_sum (product (x_to x.num) v) (λ u. add_times c s u))

-- 1 by another kind, the Div of the divisor with the coefficient 1, is added into s; c is its coefficient
abbrev pub over_other : Entry → Complex → Sum → Sum → Outcome
over_other y c s v = let t = single y.kind y.num v complex.one in formed Add (entry Div (size t) zero64 c) t s

-- the power of a quotient that is a power of x
abbrev pub power_of : ℕ → Entry → Entry → Float
power_of code x y = cond (eqb code x_by_x) (cond (is_one x.kind x.num) (neg y.num) (x.num ⊖ y.num)) one64
