-- Small laws of tests: two that pass together are the same, and a common factor changes no test on natural numbers. Assumes nothing.
use Prim.Native.Nat.{ℕ, ◌*◌, ◌<◌}
use native.Mathlib.Nat.{zero-mul, eq_of_mul-eq-mul_right, lt_of_mul-lt-mul_right, mul-lt-mul_of_pos_right}
use mathlib.Core.Path.{◌≡◌, refl, sym, ap, ap₂, ◌∙◌}
pub use mathlib.Core.Bool.{and-true, and-false}
use mathlib.Core.Bool.{Bool, true, false, ◌||◌, beq}
use mathlib.Core.Logic.{◌⊎◌, inl, inr}
use lib.Dec.{T, ltb, eqb, ltb→lt, lt→ltb, eqb→eq}
use lib.Ieee.Fits.{eq→eqb}

-- two tests that pass together are equal
pub bool-ext : (a b : Bool) → (T a → T b) → (T b → T a) → a ≡ b
bool-ext true true p q = refl
bool-ext true false p q = absurd (p tt)
bool-ext false true p q = absurd (q tt)
bool-ext false false p q = refl

-- a test that fails where another fails passes only where that one passes
pub passes : (a b : Bool) → (a ≡ false → b ≡ false) → T b → T a
passes true b h t = tt
passes false b h t = rw (h refl) at t

-- a test that passed
pub T_of : {b : Bool} → b ≡ true → T b
T_of e = rw e tt

-- one of two tests passed
pub or_cases : (a b : Bool) → T (a || b) → T a ⊎ T b
or_cases true b t = inl tt
or_cases false b t = inr t

-- the first of two tests passes
pub or_left : (a b : Bool) → T a → T (a || b)
or_left true b t = tt
or_left false b t = absurd t

-- the second of two tests passes
pub or_right : (a b : Bool) → T b → T (a || b)
or_right true b t = tt
or_right false b t = t

-- two orders that hold together are tested alike
pub ltb-by : (a b c d : ℕ) → (a < b → c < d) → (c < d → a < b) → ltb a b ≡ ltb c d
ltb-by a b c d p q = bool-ext _ _ (λ t. lt→ltb c d (p (ltb→lt a b t))) (λ t. lt→ltb a b (q (ltb→lt c d t)))

-- two equations that hold together are tested alike
pub eqb-by : (a b c d : ℕ) → (a ≡ b → c ≡ d) → (c ≡ d → a ≡ b) → eqb a b ≡ eqb c d
eqb-by a b c d p q = bool-ext _ _ (λ t. eq→eqb (p (eqb→eq a b t))) (λ t. eq→eqb (q (eqb→eq c d t)))

-- a common factor goes out of `<`
pub ltb-cancel : (x y d : ℕ) → 0 < d → ltb (x * d) (y * d) ≡ ltb x y
ltb-cancel x y d D = ltb-by (x * d) (y * d) x y (λ h. lt_of_mul-lt-mul_right d h) (λ h. mul-lt-mul_of_pos_right h D)

-- a common factor goes out of `=`
pub eqb-cancel : (x y d : ℕ) → 0 < d → eqb (x * d) (y * d) ≡ eqb x y
eqb-cancel x y d D = eqb-by (x * d) (y * d) x y (λ h. eq_of_mul-eq-mul_right d D x y h) (λ h. ap (λ (z : ℕ). z * d) h)

-- A / C and B / C are a / c and b / c: they are in the same order
pub ltb-same : (A B C a b c : ℕ) → 0 < C → 0 < c → A * c ≡ a * C → B * c ≡ b * C → ltb A B ≡ ltb a b
ltb-same A B C a b c P p e g = sym (ltb-cancel A B c p) ∙ ap₂ ltb e g ∙ ltb-cancel a b C P

-- A / C and B / C are a / c and b / c: they are equal together
pub eqb_same : (A B C a b c : ℕ) → 0 < C → 0 < c → A * c ≡ a * C → B * c ≡ b * C → eqb A B ≡ eqb a b
eqb_same A B C a b c P p e g = sym (eqb-cancel A B c p) ∙ ap₂ eqb e g ∙ eqb-cancel a b C P

-- two signs are alike, or the other test passes
pub like : (s t b : Bool) → T (beq s t || b) → (s ≡ t) ⊎ T b
like true true b h = inl refl
like true false b h = inr h
like false true b h = inr h
like false false b h = inl refl

-- a product with a factor above 0 is 0 only where the other factor is
pub no_part : (a d : ℕ) → 0 < d → a * d ≡ 0 → a ≡ 0
no_part a d D e = eq_of_mul-eq-mul_right d D a 0 (e ∙ sym (zero-mul d))
