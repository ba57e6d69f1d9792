-- How many pairs of outermost terms a product and a power multiply: one for each pair that the product's definition tries, whether its key is new or not.
use Rattle.std.specs.Prelude.{ℕ, zero, suc, ◌+◌, ◌&&◌, cond, List, [], ◌∷◌, ◌++◌, Float, Option, Some, None}
use Rattle.std.specs.Float.Ieee.{le}
use Rattle.numbers.specs.Numbers.{is_whole, small_whole}
use Rattle.numbers.specs.Signs.{zero64}
use Rattle.numbers.specs.Complex.Arith as complex
use Rattle.cells.specs.declared.Entry.{Entry}
use Rattle.sums.specs.Tree.Sums.{Sum, none, and, size, entry}
use Rattle.sums.specs.Tree.Map.{Outcome, sum, refused, Found, at, absent, and_then_sum}
use Rattle.arithmetic.specs.Singles.{as_constant, is_x}
use Rattle.arithmetic.specs.Product.{mul_term, mul_into, product}
use Rattle.arithmetic.specs.Power.{is_euler}

-- nothing is counted after a refusal
abbrev pub unless_refused : Outcome → (Sum → ℕ) → ℕ
unless_refused (sum s) f = f s
unless_refused (refused q) f = 0

-- one term with each of b
unfoldable pub row_pairs : Sum → ℕ
row_pairs none = 0
row_pairs (and l q j d s) = suc (row_pairs s)

-- each term of a with each of b
unfoldable pub pairs : Sum → Sum → ℕ
pairs none b = 0
pairs (and k p i c r) b = row_pairs b + pairs r b

-- n more products with s, each of the product so far
unfoldable pub raised_pairs : ℕ → Sum → Sum → ℕ
raised_pairs zero acc s = 0
raised_pairs (suc n) acc s = pairs acc s + unless_refused (product acc s) (λ acc'. raised_pairs n acc' s)

-- by a whole number n - 1 products; 0 and what is above highest_power have none
abbrev pub whole_pairs : Sum → Option ℕ → ℕ
whole_pairs s (Some zero) = 0
whole_pairs s (Some (suc n)) = raised_pairs n s s
whole_pairs s None = 0

-- a root multiplies nothing
abbrev pub power_pairs : Sum → Float → ℕ
power_pairs s e = cond (is_whole e && le zero64 e) (whole_pairs s (small_whole e)) 0

abbrev pub real_pairs : Found → (Float → ℕ) → ℕ
real_pairs absent f = 0
real_pairs (at c) f = cond (complex.is_real c) (f c.re) 0

-- the base s to the power t; E to a single x multiplies nothing
unfoldable pub pow_pairs : Sum → Sum → ℕ
pow_pairs s t = cond (is_euler (as_constant s) && is_x t) 0 (real_pairs (as_constant t) (power_pairs s))

-- ---- the pairs themselves

-- a term x, with the product of its inside and another, and a term y with its inside
pub record Pair : Type 0 where
  pub x : Entry
  pub within : Sum → Outcome
  pub y : Entry
  pub inside : Sum

-- one term with each of b
unfoldable pub tried_row : Entry → (Sum → Outcome) → Sum → List Pair
tried_row x f none = []
tried_row x f (and l q j d s) = record { x = x; within = f; y = entry l (size j) q d; inside = j } ∷ tried_row x f s

-- each term of a with each of b, in order
unfoldable pub tried : Sum → Sum → List Pair
tried none b = []
tried (and k p i c r) b = tried_row (entry k (size i) p c) (λ v. mul_into i v none) b ++ tried r b

-- each pair is multiplied once and in order, and its product added into s; a refusal ends it
unfoldable pub try_each : List Pair → Sum → Outcome
try_each [] s = sum s
try_each (t ∷ ts) s = and_then_sum (mul_term t.x t.within t.y t.inside s) (λ s'. try_each ts s')
