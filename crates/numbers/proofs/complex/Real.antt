-- Imaginary parts that are zero stay zero, or the result isn't finite; and there each operation acts on the real parts as the real operation
-- does. A quotient by a pair is the exception that the Rust has: it is (a ⊗ b) ⊘ (b ⊗ b) and not a ⊘ b. Assumes nothing.
use mathlib.Core.Path.{◌≡◌, refl, ap, ap₂, ◌∙◌}
use mathlib.Core.Bool.{Bool, true, false, cond}
use Prim.Native.Nat.{ℕ, zero, suc, ◌+◌, ◌*◌, ◌^◌}
use lib.Dec.{T, ltb}
use lib.Ieee.{Float, nan, inf, fin, binary64, mul, neg, unlike, odd, units, round, up, down}
use lib.Ieee.Scale.{finite}
use lib.Ieee.Fits.{mul-fits, and_r, round_is}
use Rattle.numbers.specs.Ops.{◌⊖◌, ◌⊗◌, ◌⊘◌}
use Rattle.numbers.specs.Signs.{Zero, sign}
use Rattle.numbers.proofs.Bools.{and-false}
use Rattle.numbers.proofs.Zeros.{zero_of, zero-finite, add-zeros, sub-zeros, neg-zero, mul-zero-left, mul-zero-right, zero-div, plus-zero, minus-zero}
use Rattle.numbers.proofs.Finite.{neg-finite, div-finite, div-by-inf, div-by-nan}
use Rattle.numbers.specs.declared.complex.Complex.{Complex}
use Rattle.numbers.specs.Complex.Arith.{plus, minus, negated, times, times_real, norm, over, over_real, real_over, all_finite}
use Rattle.numbers.specs.Complex.Contract.Real.{Real}

pub real-plus : (a b : Complex) → Real a → Real b → Real (plus a b)
real-plus a b p q = add-zeros binary64 a.im b.im p q

pub real-minus : (a b : Complex) → Real a → Real b → Real (minus a b)
real-minus a b p q = sub-zeros binary64 a.im b.im p q

pub real-negated : (a : Complex) → Real a → Real (negated a)
real-negated a p = (neg-zero a.im p).0

pub real-times_real : (a : Complex) (x : Float) → T (finite x) → Real a → Real (times_real a x)
real-times_real a x f p = mul-zero-left binary64 a.im x p f

-- ±0 by something, where the quotient is finite
zero-over : (x y : Float) → Zero x → T (finite (x ⊘ y)) → Zero (x ⊘ y)
zero-over x nan p f = absurd (rw (div-by-nan binary64 x) at f)
zero-over x (inf s) p f = zero_of (x ⊘ inf s) (unlike (sign x) s) (div-by-inf binary64 x s (zero-finite x p))
zero-over x (fin s m e) p f = zero-div binary64 x (fin s m e) p tt (div-finite binary64 x (fin s m e) f).2

pub real-over_real : (a : Complex) (x : Float) → Real a → T (all_finite (over_real a x)) → Real (over_real a x)
real-over_real a x p f = zero-over a.im x p (and_r (finite (a.re ⊘ x)) (finite (a.im ⊘ x)) f)

module _ (a b : Complex) (af : T (finite a.re)) (bf : T (finite b.re)) (ar : Real a) (br : Real b) where
  -- the parts of a product that hold an imaginary part
  cross : Zero (a.im ⊗ b.im)
  cross = mul-zero-left binary64 a.im b.im ar (zero-finite b.im br)

  pub real-times : Real (times a b)
  real-times = add-zeros binary64 (a.re ⊗ b.im) (a.im ⊗ b.re) (mul-zero-right binary64 a.re b.im af br) (mul-zero-left binary64 a.im b.re ar bf)

  -- the real part is the real product, bit for bit unless that is a zero
  pub times-re : (Zero (a.re ⊗ b.re) → ⊥) → (times a b).re ≡ a.re ⊗ b.re
  times-re h = minus-zero binary64 (a.re ⊗ b.re) (a.im ⊗ b.im) (mul-fits binary64 a.re b.re) cross (λ z. absurd (h z))

  pub times-re-zero : Zero (a.re ⊗ b.re) → Zero (times a b).re
  times-re-zero z = sub-zeros binary64 (a.re ⊗ b.re) (a.im ⊗ b.im) z cross

  pub real-over : T (all_finite (over a b)) → Real (over a b)
  real-over f =
      zero-over (a.im ⊗ b.re ⊖ a.re ⊗ b.im) (norm b)
      (sub-zeros binary64 (a.im ⊗ b.re) (a.re ⊗ b.im) (mul-zero-left binary64 a.im b.re ar bf) (mul-zero-right binary64 a.re b.im af br))
      (and_r (finite (over a b).re) (finite (over a b).im) f)

-- a square has no minus sign
odd_sign : (d : ℕ) (s : Bool) (q k l : ℕ) → sign (odd d s q k l) ≡ s
unfolding odd
odd_sign d s zero k l = refl
odd_sign d s (suc q) k l = refl

units-sign : (s : Bool) (q k : ℕ) → sign (units binary64 s q k) ≡ s
unfolding units
units-sign s q k = go (ltb (q * 2 ^ k) (2 ^ (1074 + 1024)))
  where
    go : (b : Bool) → sign (cond b (odd 54 s q k 1074) (inf s)) ≡ s
    go true = odd_sign 54 s q k 1074
    go false = refl

round-sign : (s : Bool) (a c : ℕ) → sign (round binary64 s a c) ≡ s
round-sign s a c = ap sign (round_is binary64 s a c) ∙ units-sign s _ _

square-sign : (x : Float) → T (finite x) → sign (x ⊗ x) ≡ false
unfolding mul
square-sign nan f = absurd f
square-sign (inf s) f = absurd f
square-sign (fin true m e) f = round-sign false (m * up e * (m * up e)) (down e * down e)
square-sign (fin false m e) f = round-sign false (m * up e * (m * up e)) (down e * down e)

-- re² + im² where im is ±0
pub norm-re : (b : Complex) → T (finite b.re) → Real b → norm b ≡ b.re ⊗ b.re
norm-re b f r =
    plus-zero binary64 (b.re ⊗ b.re) (b.im ⊗ b.im) (mul-fits binary64 b.re b.re) (mul-zero-left binary64 b.im b.im r (zero-finite b.im r))
    (λ z. rw (square-sign b.re f) (and-false (sign (b.im ⊗ b.im))))

module _ (a b : Complex) (af : T (finite a.re)) (bf : T (finite b.re)) (ar : Real a) (br : Real b) where
  pub over-re : (Zero (a.re ⊗ b.re) → ⊥) → (over a b).re ≡ (a.re ⊗ b.re) ⊘ (b.re ⊗ b.re)
  over-re h =
      ap₂ ◌⊘◌ (plus-zero binary64 (a.re ⊗ b.re) (a.im ⊗ b.im) (mul-fits binary64 a.re b.re) (cross a b af bf ar br) (λ z. absurd (h z)))
      (norm-re b bf br)

pub real-real_over : (x : Float) (b : Complex) → T (finite x) → Real b → T (all_finite (real_over x b)) → Real (real_over x b)
real-real_over x b f r g =
    zero-over (neg x ⊗ b.im) (norm b) (mul-zero-right binary64 (neg x) b.im (rw (neg-finite x) f) r)
    (and_r (finite (real_over x b).re) (finite (real_over x b).im) g)
