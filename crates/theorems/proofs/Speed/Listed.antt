-- The terms of a sum each of whose coefficients can be written as real; a sum without imaginary parts is one. Assumes nothing.
use Prim.Native.Nat.{ℕ, ◌*◌}
use mathlib.Core.Path.{◌≡◌, refl}
use mathlib.Core.Bool.{Bool, true, false, ◌&&◌, ◌||◌}
use mathlib.Core.List.{List, [], ◌∷◌}
use native.Mathlib.Omega.{arith}
use borrow.Author.Tests.{lt-ltb}
use lib.Ieee.{Float, fin, up, down, lt, of_bits}
use lib.Ieee.Fits.{down_pos}
use Rattle.numbers.specs.Signs.{Zero}
use Rattle.numbers.specs.Numbers.{below_epsilon}
use Rattle.numbers.specs.declared.complex.Complex.{Complex}
use Rattle.numbers.specs.Complex.Arith as complex
use Rattle.sums.specs.Tree.Kinds as kinds
use Rattle.sums.specs.Tree.Sums.{Sum, none, and}
use Rattle.arithmetic.proofs.Steps.{and_both}
use Rattle.theorems.specs.Reals.{RealSum}
use Rattle.theorems.specs.Terms as terms
use Rattle.values.specs.Value.{Exponent, Power, power}
use Rattle.theorems.specs.Terms.{IsWholeOrHalf, RootTerms}
use Rattle.values.specs.ValueOf.{is_zero, all_real}

-- as RootTerms, and each coefficient that is listed can be written as real
pub data Listed : Sum → List Power → Type 0 where
  nothing : Listed Sum.none []
  zero_term : {k : ℕ} {p : Float} {j : Sum} {c : Complex} {r : Sum} {ts : List Power}
      → complex.same c complex.zero ≡ true → Listed r ts → Listed (and k p j c r) ts
  term : {p : Float} {k : Exponent} {j : Sum} {c : Complex} {r : Sum} {ts : List Power}
      → complex.same c complex.zero ≡ false → complex.is_real c ≡ true → IsWholeOrHalf p k → Listed r ts
      → Listed (and kinds.X p j c r) (power k c ∷ ts)

pub listed : {s : Sum} {ts : List Power} → all_real s ≡ true → RootTerms s ts → Listed s ts
unfolding all_real
listed r terms.nothing = nothing
listed r (terms.zero_term {c = c} {r = s} z t) = zero_term z (listed (and_both (is_zero c || complex.is_real c) (all_real s) r).1 t)
listed r (terms.term {c = c} {r = s} z w t) =
    let b = and_both (is_zero c || complex.is_real c) (all_real s) r in
    term z (rw z at b.0) w (listed b.1 t)

-- an imaginary part of +0 or -0
pub small-zero : (v : Float) → Zero v → below_epsilon v ≡ true
unfolding below_epsilon lt of_bits
small-zero (fin s m e) z = lt-ltb (m * up e * 4503599627370496) (1 * down e) (omega (arith, down_pos e))
small-zero lib.Ieee.nan z = elim z [ ]
small-zero (lib.Ieee.inf _) z = elim z [ ]

-- a sum without imaginary parts
pub all-real : (s : Sum) → RealSum s → all_real s ≡ true
unfolding RealSum all_real
all-real none r = refl
all-real (and k p i c s) r = rw (small-zero c.im r.0, all-real s r.2) (either (is_zero c))
  where
    either : (b : Bool) → (b || true) && true ≡ true
    either true = refl
    either false = refl
