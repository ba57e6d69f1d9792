-- Sums of whole powers of x and of its square root: which terms they have.
use Rattle.std.specs.Prelude.{ℕ, suc, ◌*◌, ◌≤◌, ◌≡◌, true, false, List, [], ◌∷◌, Float, Some}
use Rattle.std.specs.Float.Ieee.{eq}
use Rattle.numbers.specs.Constants.{half64}
use Rattle.numbers.specs.Numbers.{small_whole}
use Rattle.numbers.specs.declared.complex.Complex.{Complex}
use Rattle.numbers.specs.Complex.Arith as complex
use Rattle.sums.specs.Tree.Kinds as kinds
use Rattle.sums.specs.Tree.Sums.{Sum, and}
use Rattle.values.specs.Value.{Exponent, whole, half, Power, power}

-- p is the whole number k, from 0 to 64
abbrev pub IsWhole : Float → Exponent → Type 0
IsWhole p (whole k) = small_whole p ≡ Some k
IsWhole p half = ⊥

-- p is such a number, or 0.5; it is compared as a number
abbrev pub IsWholeOrHalf : Float → Exponent → Type 0
IsWholeOrHalf p (whole k) = small_whole p ≡ Some k
IsWholeOrHalf p half = eq p half64 ≡ true

-- the terms of the sum that aren't zero are x to powers that are allowed, and ts lists them with their coefficients
pub data TermsOf (Allowed : Float → Exponent → Type 0) : Sum → List Power → Type 0 where
  nothing : TermsOf Allowed Sum.none []
  zero_term : {k : ℕ} {p : Float} {j : Sum} {c : Complex} {r : Sum} {ts : List Power}
      → complex.same c complex.zero ≡ true → TermsOf Allowed r ts → TermsOf Allowed (and k p j c r) ts
  term : {p : Float} {k : Exponent} {j : Sum} {c : Complex} {r : Sum} {ts : List Power}
      → complex.same c complex.zero ≡ false → Allowed p k → TermsOf Allowed r ts
      → TermsOf Allowed (and kinds.X p j c r) (power k c ∷ ts)

-- whole powers from 0 to 64
abbrev pub Terms : Sum → List Power → Type 0
Terms s ts = TermsOf IsWhole s ts

-- whole powers from 0 to 64, or the power 0.5
abbrev pub RootTerms : Sum → List Power → Type 0
RootTerms s ts = TermsOf IsWholeOrHalf s ts

-- twice an exponent, which is a whole number
abbrev pub twice : Exponent → ℕ
twice (whole k) = 2 * k
twice half = 1

-- the powers rise strictly, and twice the first is lo at least
abbrev pub Rising : ℕ → List Power → Type 0
Rising lo [] = Unit {0}
Rising lo (power k c ∷ ts) = (lo ≤ twice k) × Rising (suc (twice k)) ts
