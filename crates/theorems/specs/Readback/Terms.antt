-- The terms of a formula that aren't zero, which alone are written, and what is asked of them for the formula to come back.
use Rattle.std.specs.Prelude.{ℕ, ◌≤◌, ◌≡◌, Bool, false, not, ◌&&◌, ◌||◌, cond, List, [], ◌∷◌, length, Float}
use Rattle.std.specs.Float.Ieee.{eq, lt, of_bits}
use Rattle.std.specs.Float.{binary64}
use Rattle.limits.specs.Limits.{sum_entries, sum_levels}
use Rattle.numbers.specs.Numbers.{is_whole}
use Rattle.numbers.specs.Signs.{zero64, one64}
use Rattle.numbers.specs.declared.complex.Complex.{Complex}
use Rattle.numbers.specs.Complex.Arith as complex
use Rattle.sums.specs.Tree.Kinds.{X}
use Rattle.sums.specs.Tree.Sums.{Sum, none, and, size}
use Rattle.sums.specs.Tree.Good.{Good}
use Rattle.arithmetic.specs.Singles.{single}
use Rattle.theorems.specs.Reals.{RealSum}

-- a coefficient of zero; -0 counts
abbrev pub is_zero : Complex → Bool
is_zero c = complex.same c complex.zero

-- a coefficient times x to a power
pub record Term : Type 0 where
  pub power : Float
  pub coef : Complex

abbrev pub term : Float → Complex → Term
term p c = record { power = p; coef = c }

-- the powers and coefficients of the entries that aren't zero, in order
unfoldable pub terms : Sum → List Term
terms none = []
terms (and k p i c r) = cond (is_zero c) (terms r) (term p c ∷ terms r)

-- the entries that are zero, in order
unfoldable pub zeros : Sum → Sum
zeros none = none
zeros (and k p i c r) = cond (is_zero c) (and k p i c (zeros r)) (zeros r)

-- ---- what is asked of a formula

-- every entry that isn't zero is a power of x
unfoldable pub PowerTerms : Sum → Type 0
PowerTerms none = Unit {0}
PowerTerms (and k p i c r) = (is_zero c ≡ false → k ≡ X) × PowerTerms r

-- 64, the highest whole power that reading multiplies out
abbrev pub highest64 : Float
highest64 = of_bits binary64 0x4050000000000000

-- no power is whole and above 64
unfoldable pub NoBigWhole : List Term → Type 0
NoBigWhole [] = Unit {0}
NoBigWhole (t ∷ ts) = (is_whole t.power && lt highest64 t.power ≡ false) × NoBigWhole ts

-- one entry of a sum is left for 0·x
abbrev pub most_terms : ℕ
most_terms = 63

-- a sum that may be handed over, without imaginary parts, whose terms that aren't zero are at most 63 powers of x; entries that are zero may be of any kind
pub record PowerFormula (s : Sum) : Type 0 where
  pub good : Good sum_levels s
  pub room : size s ≤ sum_entries
  pub real : RealSum s
  pub powers : PowerTerms s
  pub few : length (terms s) ≤ most_terms
  pub small : NoBigWhole (terms s)

-- ---- what is there besides the terms

-- whether x to the q is among the terms; powers are compared as numbers
unfoldable pub has_power : Float → List Term → Bool
has_power q [] = false
has_power q (t ∷ ts) = eq t.power q || has_power q ts

-- 0·x
abbrev pub nought_x : Sum
nought_x = single X one64 none complex.zero

-- The constant is read as x times 0, plus it: 0·x stays where no term is a multiple of x. No terms at all are read as x times 0.
abbrev pub extra_of : List Term → Sum
extra_of [] = nought_x
extra_of (t ∷ ts) = cond (has_power zero64 (t ∷ ts) && not (has_power one64 (t ∷ ts))) nought_x none

-- whether a coefficient is written, which with the flag is a pair: a constant always is, any other coefficient unless it is 1
unfoldable pub wrote_pair : List Term → Bool
wrote_pair [] = false
wrote_pair (t ∷ ts) = (eq t.power zero64 || not (complex.same t.coef complex.one)) || wrote_pair ts
