-- Which results are finite, that is neither a NaN nor an infinity: a sum, a difference or a product only of two finite numbers.
-- Two finite numbers may still give an infinity, by overflow. Assumes nothing.
use Prim.Native.Nat.{zero, suc}
use native.Mathlib.Nat.{mul-pos, zero-lt-suc}
use native.Mathlib.Omega.{arith}
use mathlib.Core.Path.{◌≡◌, refl, ap, ◌∙◌}
use mathlib.Core.Bool.{Bool, true, false, not, cond, beq, true≢false}
use lib.Dec.{T, eqb, not_T}
use lib.Ieee.{Float, nan, inf, fin, Format, binary64, unlike, add, sub, mul, div, neg, eq, is_nan, of_bits}
use lib.Ieee.Fits.{up_pos}
use lib.Ieee.Scale.{finite}
use Rattle.numbers.specs.Ops.{◌⊖◌}
use Rattle.numbers.specs.Signs.{zero64, ±0, sign, Zero}
use Rattle.numbers.proofs.Bools.{passes}
use Rattle.numbers.proofs.Values.{bits-0, add-swap, mul-swap}
use Rattle.numbers.proofs.Zeros.{sub_self}

-- 0.0 is finite
pub zero-is-finite : finite zero64 ≡ true
zero-is-finite = rw bits-0

-- neither of two results is finite, so the one that is taken isn't
neither : (b : Bool) (x y : Float) → finite x ≡ false → finite y ≡ false → finite (cond b x y) ≡ false
neither true x y p q = p
neither false x y p q = q

-- -x is finite exactly where x is
pub neg-finite : (x : Float) → finite (neg x) ≡ finite x
unfolding neg
neg-finite nan = refl
neg-finite (inf s) = refl
neg-finite (fin s m e) = refl

-- ---- ⊕

-- a NaN or an infinity ⊕ anything is not finite
pub add-not-finite-left : (f : Format) (x y : Float) → finite x ≡ false → finite (add f x y) ≡ false
unfolding add
add-not-finite-left f nan y h = refl
add-not-finite-left f (inf s) nan h = refl
add-not-finite-left f (inf s) (inf t) h = neither (beq s t) (inf s) nan refl refl
add-not-finite-left f (inf s) (fin t n d) h = refl
add-not-finite-left f (fin s m e) y h = absurd (true≢false h)

-- anything ⊕ a NaN or an infinity is not finite
pub add-not-finite-right : (f : Format) (x y : Float) → finite y ≡ false → finite (add f x y) ≡ false
add-not-finite-right f x y h = rw (add-swap f x y) (add-not-finite-left f y x h)

-- a finite sum has finite operands
pub add-finite : (f : Format) (x y : Float) → T (finite (add f x y)) → T (finite x) × T (finite y)
add-finite f x y t = (passes (finite x) _ (add-not-finite-left f x y) t, passes (finite y) _ (add-not-finite-right f x y) t)

-- ---- ⊖

-- a NaN or an infinity ⊖ anything is not finite
pub sub-not-finite-left : (f : Format) (x y : Float) → finite x ≡ false → finite (sub f x y) ≡ false
unfolding sub
sub-not-finite-left f x y h = add-not-finite-left f x (neg y) h

-- anything ⊖ a NaN or an infinity is not finite
pub sub-not-finite-right : (f : Format) (x y : Float) → finite y ≡ false → finite (sub f x y) ≡ false
unfolding sub
sub-not-finite-right f x y h = add-not-finite-right f x (neg y) (neg-finite y ∙ h)

-- a finite difference has finite operands
pub sub-finite : (f : Format) (x y : Float) → T (finite (sub f x y)) → T (finite x) × T (finite y)
sub-finite f x y t = (passes (finite x) _ (sub-not-finite-left f x y) t, passes (finite y) _ (sub-not-finite-right f x y) t)

-- ---- ⊗

-- a NaN or an infinity ⊗ anything is not finite
pub mul-not-finite-left : (f : Format) (x y : Float) → finite x ≡ false → finite (mul f x y) ≡ false
unfolding mul
mul-not-finite-left f nan y h = refl
mul-not-finite-left f (inf s) nan h = refl
mul-not-finite-left f (inf s) (inf t) h = refl
mul-not-finite-left f (inf s) (fin t n d) h = neither (eqb n 0) nan (inf (unlike s t)) refl refl
mul-not-finite-left f (fin s m e) y h = absurd (true≢false h)

-- anything ⊗ a NaN or an infinity is not finite
pub mul-not-finite-right : (f : Format) (x y : Float) → finite y ≡ false → finite (mul f x y) ≡ false
mul-not-finite-right f x y h = rw (mul-swap f x y) (mul-not-finite-left f y x h)

-- a finite product has finite operands
pub mul-finite : (f : Format) (x y : Float) → T (finite (mul f x y)) → T (finite x) × T (finite y)
mul-finite f x y t = (passes (finite x) _ (mul-not-finite-left f x y) t, passes (finite y) _ (mul-not-finite-right f x y) t)

-- ---- ⊘

-- a NaN or an infinity ⊘ anything is not finite
pub div-not-finite-left : (f : Format) (x y : Float) → finite x ≡ false → finite (div f x y) ≡ false
unfolding div
div-not-finite-left f nan y h = refl
div-not-finite-left f (inf s) nan h = refl
div-not-finite-left f (inf s) (inf t) h = refl
div-not-finite-left f (inf s) (fin t n d) h = refl
div-not-finite-left f (fin s m e) y h = absurd (true≢false h)

-- anything ⊘ a NaN is not finite
pub div-by-nan : (f : Format) (x : Float) → finite (div f x nan) ≡ false
unfolding div
div-by-nan f nan = refl
div-by-nan f (inf s) = refl
div-by-nan f (fin s m e) = refl

-- a finite number ⊘ an infinity is a zero
pub div-by-inf : (f : Format) (x : Float) (s : Bool) → T (finite x) → div f x (inf s) ≡ ±0 (unlike (sign x) s)
unfolding div
div-by-inf f (fin t m e) s h = refl
div-by-inf f nan s h = elim h [ ]
div-by-inf f (inf _) s h = elim h [ ]

-- anything ⊘ a zero is not finite
pub div-by-zero : (f : Format) (x y : Float) → Zero y → finite (div f x y) ≡ false
unfolding div
div-by-zero f nan y z = refl
div-by-zero f (inf s) (fin t n d) z = refl
div-by-zero f (fin s m e) (fin t zero d) z = neither (eqb m 0) nan (inf (unlike s t)) refl refl
div-by-zero f (fin s m e) (fin t (suc n) d) z = absurd (omega (arith, mul-pos (zero-lt-suc n) (up_pos d)))
div-by-zero f (inf s) nan z = elim z [ ]
div-by-zero f (inf s) (inf _) z = elim z [ ]
div-by-zero f (fin s m e) nan z = elim z [ ]
div-by-zero f (fin s m e) (inf _) z = elim z [ ]

-- a finite quotient has a finite dividend, and a divisor that is no NaN and no zero
pub div-finite : (f : Format) (x y : Float) → T (finite (div f x y)) → T (finite x) × T (not (is_nan y)) × (Zero y → ⊥)
unfolding is_nan
div-finite f x y t = (
  passes (finite x) _ (div-not-finite-left f x y) t,
  not_T (is_nan y) (λ n. absurd (rw (nan_is y n, div-by-nan f x) at t)),
  λ z. rw (div-by-zero f x y z) at t,
)
  where
    nan_is : (y : Float) → T (is_nan y) → y ≡ nan
    nan_is nan n = refl
    nan_is (inf _) n = elim n [ ]
    nan_is (fin _ _ _) n = elim n [ ]

-- ---- the test `x - x == 0`

-- only a finite number less itself is zero
pub finite-test : (x : Float) → eq (x ⊖ x) zero64 ≡ finite x
unfolding of_bits sub add neg eq
finite-test nan = refl
finite-test (inf true) = refl
finite-test (inf false) = refl
finite-test (fin s m e) = ap (λ (r : Float). eq r (±0 false)) (sub_self binary64 (fin s m e) tt)
