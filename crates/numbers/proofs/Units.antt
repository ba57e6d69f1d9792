-- Multiplying or dividing by 1 or by -1 changes no more than the sign, whatever fits: a NaN, an infinity or a zero too. Assumes nothing.
use Prim.Native.Nat.{ℕ, zero, suc, ◌*◌}
use native.Mathlib.Nat.{mul-one, one-mul}
use mathlib.Core.Path.{◌≡◌, refl, sym, ap₂, ◌∙◌}
use mathlib.Core.Bool.{Bool, true, false, not, cond}
use lib.IntN.{ℤ}
use lib.Dec.{T}
use lib.Ieee.{Float, nan, inf, fin, Format, binary64, up, down, unlike, round, mul, div, neg, fits}
use Rattle.numbers.specs.Signs.{one64, ±1}
use Rattle.numbers.specs.Ops.{◌⊗◌, ◌⊘◌}
use Rattle.numbers.proofs.Values.{bits-1, round-itself, mul-swap}

-- x, and -x for true
abbrev pub with_sign : Bool → Float → Float
with_sign t x = cond t (neg x) x

-- only a number's size matters to whether it fits
fits-size : (f : Format) (s t : Bool) (m : ℕ) (e : ℤ) → T (fits f (fin s m e)) → T (fits f (fin t m e))
unfolding fits
fits-size f s t zero e p = p
fits-size f s t (suc m) e p = p

-- the sign s of ±1 changes the sign t or leaves it
turn : (k : Bool → Float) → ((t : Bool) → neg (k t) ≡ k (not t)) → (t s : Bool) → k (unlike t s) ≡ with_sign s (k t)
turn k h true true = sym (h true)
turn k h true false = refl
turn k h false true = sym (h false)
turn k h false false = refl

-- a NaN has no sign
turn-nan : (s : Bool) → nan ≡ with_sign s nan
unfolding neg
turn-nan true = refl
turn-nan false = refl

-- a fitting number's own fraction is rounded to that number, with the sign that it is given
round-sign : (f : Format) (t s : Bool) (m : ℕ) (e : ℤ) (a b : ℕ) → T (fits f (fin t m e)) → a ≡ m * up e → b ≡ down e → round f (unlike t s) a b ≡ with_sign s (fin t m e)
unfolding neg
round-sign f t s m e a b p q r =
    ap₂ (round f (unlike t s)) q r ∙ round-itself f (unlike t s) m e (fits-size f t (unlike t s) m e p) ∙ turn (λ (u : Bool). fin u m e) (λ u. refl) t s

-- x ⊗ ±1 is ±x
pub mul-±1 : (f : Format) (x : Float) (s : Bool) → T (fits f x) → mul f x (±1 s) ≡ with_sign s x
unfolding mul neg
mul-±1 f nan s p = turn-nan s
mul-±1 f (inf t) s p = turn inf (λ u. refl) t s
mul-±1 f (fin t m e) s p = round-sign f t s m e _ _ p (mul-one (m * up e)) (mul-one (down e))

-- x ⊘ ±1 is ±x
pub div-±1 : (f : Format) (x : Float) (s : Bool) → T (fits f x) → div f x (±1 s) ≡ with_sign s x
unfolding div neg
div-±1 f nan s p = turn-nan s
div-±1 f (inf t) s p = turn inf (λ u. refl) t s
div-±1 f (fin t m e) s p = round-sign f t s m e _ _ p (mul-one (m * up e)) (one-mul (down e))

-- x ⊗ 1 is x
pub times-1 : (x : Float) → T (fits binary64 x) → x ⊗ one64 ≡ x
times-1 x p = rw bits-1 (mul-±1 binary64 x false p)

-- 1 ⊗ x is x
pub 1-times : (x : Float) → T (fits binary64 x) → one64 ⊗ x ≡ x
1-times x p = mul-swap binary64 one64 x ∙ times-1 x p

-- x ⊘ 1 is x
pub over-1 : (x : Float) → T (fits binary64 x) → x ⊘ one64 ≡ x
over-1 x p = rw bits-1 (div-±1 binary64 x false p)

-- x ⊗ -1 is -x
pub times-minus-1 : (x : Float) → T (fits binary64 x) → x ⊗ ±1 true ≡ neg x
times-minus-1 x p = mul-±1 binary64 x true p

-- -1 ⊗ x is -x
pub minus-1-times : (x : Float) → T (fits binary64 x) → ±1 true ⊗ x ≡ neg x
minus-1-times x p = mul-swap binary64 (±1 true) x ∙ times-minus-1 x p
