-- What is multiplied: sums and terms that lie in a book apart from the result, and have a product.
use Rattle.std.specs.Prelude.{ℕ, ◌+◌, ◌-◌, ◌*◌, ◌≤◌, ◌<◌, ◌≡◌, true}
use Rattle.limits.specs.Limits.{sum_entries, sum_levels}
use Rattle.numbers.specs.Signs.{zero64}
use Rattle.numbers.specs.declared.complex.Complex.{Complex}
use Rattle.cells.specs.declared.Entry.{Entry}
use Rattle.cells.specs.Contract.Book.{Book, cell, Room}
use Rattle.cells.specs.Contract.Moves.{Apart}
use Rattle.sums.specs.declared.tree.Merge.TheVariants.{Add}
use Rattle.sums.specs.Tree.Kinds.{Div}
use Rattle.sums.specs.Tree.Sums.{Sum, entry}
use Rattle.sums.specs.Tree.Good.{GoodEntry}
use Rattle.sums.specs.Tree.Map.{Outcome, formed}
use Rattle.arithmetic.specs.Product.{pairable, rowable, mulable}
use Rattle.sums.specs.Contract.Lies.{Lies, Held}

-- the sum s, of n cells from i on
pub record Factor (b : Book) (i n p left : ℕ) (s : Sum) : Type 0 where
  pub lies : Lies b i (i + n) left s
  pub few : n ≤ sum_entries
  pub apart : Apart i n p (p + sum_entries)

-- the term x, whose inside t lies from i on
pub record Term (b : Book) (x : Entry) (i p left : ℕ) (t : Sum) : Type 0 where
  pub good : GoodEntry x.kind x.num t x.coef
  pub inside : Factor b i x.inside p left t

-- two terms
pub record Pair (b : Book) (x : Entry) (i : ℕ) (y : Entry) (j p left : ℕ) : Type 0 where
  pub t : Sum
  pub v : Sum
  pub first : Term b x i p left t
  pub second : Term b y j p left v
  pub able : pairable x.kind (mulable t) y.kind v ≡ true

-- a term and a sum
pub record Row (b : Book) (x : Entry) (i j m p left : ℕ) : Type 0 where
  pub t : Sum
  pub v : Sum
  pub first : Term b x i p (left - 1) t
  pub second : Factor b j m p left v
  pub able : rowable x.kind (mulable t) v ≡ true

-- two sums
pub record Sums (b : Book) (i n j m p left : ℕ) : Type 0 where
  pub s : Sum
  pub t : Sum
  pub first : Factor b i n p left s
  pub second : Factor b j m p left t
  pub able : mulable s t ≡ true

-- the n cells of b from i on are copied to 0, and the m from j on to sum_entries
pub record Beside (b b' : Book) (i n j m : ℕ) : Type 0 where
  pub first : (k : ℕ) → k < n → cell b' (0 + k) ≡ cell b (i + k)
  pub second : (k : ℕ) → k < m → cell b' (sum_entries + k) ≡ cell b (j + k)
  pub room : Room b' (4 * sum_entries)

-- the book for the product of two insides: where the product is formed, and where the sum lies into which it goes
abbrev pub behind_both : ℕ
behind_both = 2 * sum_entries

-- a fact of every two factors, of a cells from i on and of c from j on, and of the sum of n cells from p on into which their product goes
abbrev pub OfThree : Book → ℕ → ℕ → ℕ → ℕ → ℕ → ℕ → ℕ → ℕ → (Sum → Sum → Sum → Type 0) → Type 0
OfThree b i a above j c below p n fact = (t v s : Sum) → Lies b i (i + a) above t → Lies b j (j + c) below v → Lies b p (p + n) sum_levels s → fact t v s

-- what is copied from g fits, and there is room for four sums in b
abbrev pub Fits : Book → Book → ℕ → ℕ → ℕ → ℕ → Type 0
Fits g b i a j c = (a ≤ sum_entries) × (c ≤ sum_entries) × Room g (i + a) × Room g (j + c) × Room b (4 * sum_entries)

-- the product of two insides, of k cells, lies behind both, where there is room for four sums
abbrev pub Inner : Book → ℕ → Type 0
Inner g k = (0 < k) × (k ≤ sum_entries) × Held g behind_both (behind_both + k) sum_levels × Room g (4 * sum_entries)

-- a fact of that product and of the sum of n cells from p on of another book
abbrev pub OfInner : Book → ℕ → Book → ℕ → ℕ → (Sum → Sum → Type 0) → Type 0
OfInner g k b p n fact = (w s : Sum) → Lies g behind_both (behind_both + k) sum_levels w → Lies b p (p + n) sum_levels s → fact w s

-- the Div of w with this coefficient is added into s
abbrev pub div_into : ℕ → Complex → Sum → Sum → Outcome
div_into k c w s = formed Add (entry Div k zero64 c) w s
