-- +0 and -0: which operations give them, and that adding one or taking one away changes no other number. Assumes nothing.
use Prim.Native.Nat.{ℕ, ◌*◌, ◌<◌}
use native.Mathlib.Nat.{zero-mul, mul-zero, mul-pos, zero-lt-suc, zero-add, sub-zero, eq-zero-or-pos, sub_self as nothing_left}
use native.Mathlib.Omega.{arith}
use mathlib.Core.Path.{◌≡◌, refl, sym, ap, ap₂, ◌∙◌}
use mathlib.Core.Logic.{◌↔◌, ◌⊎◌, inl, inr}
use mathlib.Core.Bool.{Bool, true, false, not, ◌&&◌, ◌||◌, cond, beq, or-true, and-false}
use lib.Dec.{T, eqb, eqb→eq}
use lib.Ieee.{Float, nan, inf, fin, Format, binary64, up, down, unlike, round, sum, add, sub, mul, div, neg, fits, eq}
use lib.Ieee.Exact.{HasValue}
use lib.Ieee.Fits.{down_pos, and_l}
use lib.Ieee.Positive.{num, den, den_pos}
use lib.Ieee.Scale.{finite}
use borrow.Author.Tests.{lt-ltb, le-ltb, eq-eqb}
use Rattle.numbers.specs.Signs.{zero64, ±0, sign}
pub use Rattle.numbers.specs.Signs.{Zero}
use Rattle.numbers.specs.Ops.{◌⊕◌, ◌⊖◌}
use Rattle.numbers.proofs.Bools.{T_of}
use Rattle.numbers.proofs.Values.{bits-0, own_value, value-unique, round-to, round-itself, add_at, mul_at, div-at, eq-at, unlike-comm, add-swap, mul-swap}

-- a zero is 0 of whatever unit
pub zero-value : (v : Float) (c : ℕ) → Zero v → HasValue v (sign v) 0 c
zero-value (fin s m e) c z = (refl, ap (λ (k : ℕ). k * c) z ∙ zero-mul c ∙ sym (zero-mul (down e)))
zero-value nan c z = elim z [ ]
zero-value (inf _) c z = elim z [ ]

-- a zero is finite
pub zero-finite : (v : Float) → Zero v → T (finite v)
zero-finite (fin s m e) z = tt
zero-finite nan z = elim z [ ]
zero-finite (inf _) z = elim z [ ]

-- of a finite number that is no zero the value isn't 0
pub num_pos : (v : Float) → T (finite v) → (Zero v → ⊥) → 0 < num v
num_pos (fin s m e) t n = elim (eq-zero-or-pos (m * up e)) [ inl z ↦ absurd (n z) | inr p ↦ p ]
num_pos nan t n = elim t [ ]
num_pos (inf _) t n = elim t [ ]

-- a number is a zero or it isn't
pub zero_or_not : (v : Float) → Zero v ⊎ (Zero v → ⊥)
zero_or_not nan = inr (λ z. z)
zero_or_not (inf s) = inr (λ z. z)
zero_or_not (fin s m e) = elim (eq-zero-or-pos (m * up e)) [ inl z ↦ inl z | inr p ↦ inr (λ z. omega arith) ]

-- all zeros are equal
pub eq-zeros : (x y : Float) → Zero x → Zero y → eq x y ≡ true
eq-zeros x y p q = eq-at x y (sign x) (sign y) 0 0 1 (zero-value x 1 p) (zero-value y 1 q) (zero-lt-suc 0) ∙ or-true (beq (sign x) (sign y))

-- the test `v == 0` passes at the two zeros alone
pub zero_test : (v : Float) → (eq v zero64 ≡ true) ↔ Zero v
unfolding eq
zero_test v = rw bits-0 (λ e. only v (T_of e), λ z. eq-zeros v (±0 false) z refl)
  where
    only : (v : Float) → T (eq v (±0 false)) → Zero v
    only (fin s m e) t =
        let z = eqb→eq (m * up e * 1) (0 * down e) (and_l (eqb (m * up e * 1) (0 * down e)) (beq s false || eqb (m * up e * 1) 0) t) in
        omega arith
    only nan t = elim t [ ]
    only (inf _) t = elim t [ ]

-- a zero that fits is +0 or -0 as it is written
pub zero_is : (f : Format) (v : Float) → T (fits f v) → Zero v → v ≡ ±0 (sign v)
unfolding fits
zero_is f v p z = value-unique f v (±0 (sign v)) (sign v) 0 1 p tt (zero-value v 1 z) (zero-value (±0 (sign v)) 1 refl) (zero-lt-suc 0)

-- nothing rounds to a zero of its sign
pub round-zero : (f : Format) (s : Bool) (c : ℕ) → 0 < c → round f s 0 c ≡ ±0 s
unfolding fits
round-zero f s c C = round-to f (±0 s) s 0 c tt C (zero-value (±0 s) c refl)

-- what is +0 or -0 is a zero
pub zero_of : (v : Float) (s : Bool) → v ≡ ±0 s → Zero v
zero_of v s e = rw e refl

-- ---- operations that give a zero

sum_zeros : (f : Format) (s t : Bool) → sum f s 0 t 0 1 ≡ ±0 (s && t)
unfolding sum
sum_zeros f true true = round-zero f true 1 (zero-lt-suc 0)
sum_zeros f true false = round-zero f false 1 (zero-lt-suc 0)
sum_zeros f false true = round-zero f false 1 (zero-lt-suc 0)
sum_zeros f false false = round-zero f false 1 (zero-lt-suc 0)

-- zero ⊕ zero is -0 where both are
pub add-zeros-is : (f : Format) (x y : Float) → Zero x → Zero y → add f x y ≡ ±0 (sign x && sign y)
add-zeros-is f x y p q = add_at f x y (sign x) (sign y) 0 0 1 (zero-value x 1 p) (zero-value y 1 q) (zero-lt-suc 0) ∙ sum_zeros f (sign x) (sign y)

-- the negative of a zero is a zero, of the other sign
pub neg-zero : (x : Float) → Zero x → Zero (neg x) × (sign (neg x) ≡ not (sign x))
unfolding neg
neg-zero (fin s m e) z = (z, refl)
neg-zero nan z = elim z [ ]
neg-zero (inf _) z = elim z [ ]

-- zero ⊖ zero is -0 where the first is and the second isn't
pub sub-zeros-is : (f : Format) (x y : Float) → Zero x → Zero y → sub f x y ≡ ±0 (sign x && not (sign y))
unfolding sub
sub-zeros-is f x y p q = add-zeros-is f x (neg y) p (neg-zero y q).0 ∙ ap (λ (s : Bool). ±0 (sign x && s)) (neg-zero y q).1

-- finite ⊗ zero is negative where the signs are unlike
pub mul-zero-right-is : (f : Format) (x y : Float) → T (finite x) → Zero y → mul f x y ≡ ±0 (unlike (sign x) (sign y))
mul-zero-right-is f x y t z =
    mul_at f x y (sign x) (sign y) (num x) (den x) 0 1 (own_value x t) (zero-value y 1 z) (den_pos x) (zero-lt-suc 0)
    ∙ ap (λ (k : ℕ). round f (unlike (sign x) (sign y)) k (den x * 1)) (mul-zero (num x))
    ∙ round-zero f (unlike (sign x) (sign y)) (den x * 1) (mul-pos (den_pos x) (zero-lt-suc 0))

-- zero ⊗ finite is negative where the signs are unlike
pub mul-zero-left-is : (f : Format) (x y : Float) → Zero x → T (finite y) → mul f x y ≡ ±0 (unlike (sign x) (sign y))
mul-zero-left-is f x y z t = mul-swap f x y ∙ mul-zero-right-is f y x t z ∙ ap ±0 (unlike-comm (sign y) (sign x))

-- zero ⊘ a finite number that is no zero is negative where the signs are unlike
pub zero-div-is : (f : Format) (x y : Float) → Zero x → T (finite y) → (Zero y → ⊥) → div f x y ≡ ±0 (unlike (sign x) (sign y))
zero-div-is f x y z t n =
    let N = num_pos y t n in
    div-at f x y (sign x) (sign y) 0 1 (num y) (den y) (zero-value x 1 z) (own_value y t) (zero-lt-suc 0) (den_pos y) N
    ∙ ap (λ (k : ℕ). round f (unlike (sign x) (sign y)) k (num y * 1)) (zero-mul (den y))
    ∙ round-zero f (unlike (sign x) (sign y)) (num y * 1) (mul-pos N (zero-lt-suc 0))

-- zero ⊕ zero is a zero
pub add-zeros : (f : Format) (x y : Float) → Zero x → Zero y → Zero (add f x y)
add-zeros f x y p q = zero_of (add f x y) _ (add-zeros-is f x y p q)

-- zero ⊖ zero is a zero
pub sub-zeros : (f : Format) (x y : Float) → Zero x → Zero y → Zero (sub f x y)
sub-zeros f x y p q = zero_of (sub f x y) _ (sub-zeros-is f x y p q)

-- finite ⊗ zero is a zero
pub mul-zero-right : (f : Format) (x y : Float) → T (finite x) → Zero y → Zero (mul f x y)
mul-zero-right f x y t z = zero_of (mul f x y) _ (mul-zero-right-is f x y t z)

-- zero ⊗ finite is a zero
pub mul-zero-left : (f : Format) (x y : Float) → Zero x → T (finite y) → Zero (mul f x y)
mul-zero-left f x y z t = zero_of (mul f x y) _ (mul-zero-left-is f x y z t)

-- zero ⊘ a finite number that is no zero is a zero
pub zero-div : (f : Format) (x y : Float) → Zero x → T (finite y) → (Zero y → ⊥) → Zero (div f x y)
zero-div f x y z t n = zero_of (div f x y) _ (zero-div-is f x y z t n)

-- a finite number ⊖ itself is +0
pub sub_self : (f : Format) (x : Float) → T (finite x) → sub f x x ≡ ±0 false
unfolding sub sum neg
sub_self f (fin s m e) t =
    let a = m * up e in
    add_at f (fin s m e) (fin (not s) m e) s (not s) a a (down e) (refl, refl) (refl, refl) (down_pos e)
    ∙ rw (beq-not s, le-ltb a a (omega arith), and-false s, nothing_left a) (round-zero f false (down e) (down_pos e))
  where
    beq-not : (s : Bool) → beq s (not s) ≡ false
    beq-not true = refl
    beq-not false = refl
sub_self f nan t = elim t [ ]
sub_self f (inf _) t = elim t [ ]

-- ---- adding a zero, or taking it away

sum-zero-left : (f : Format) (s t : Bool) (n c : ℕ) → 0 < n → sum f s 0 t n c ≡ round f t n c
unfolding sum
sum-zero-left f s t n c h = rw (lt-ltb 0 n h, zero-add n, sub-zero n) (either s t)
  where
    either : (s t : Bool) → cond (beq s t) (round f s n c) (round f t n c) ≡ round f t n c
    either true true = refl
    either true false = refl
    either false true = refl
    either false false = refl

-- zero ⊕ c is c, unless c is -0 and the zero is +0
pub zero-plus : (f : Format) (z c : Float) → Zero z → T (fits f c) → (Zero c → sign z && sign c ≡ sign c) → add f z c ≡ c
unfolding add
zero-plus f (fin s m e) nan z p h = refl
zero-plus f (fin s m e) (inf t) z p h = refl
zero-plus f (fin s m e) (fin t n d) z p h = elim (zero_or_not (fin t n d)) [
  | inl w ↦ add-zeros-is f (fin s m e) (fin t n d) z w ∙ ap ±0 (h w) ∙ sym (zero_is f (fin t n d) p w)
  | inr w ↦
      add_at f (fin s m e) (fin t n d) s t 0 (n * up d) (down d) (zero-value (fin s m e) (down d) z) (refl, refl) (down_pos d)
      ∙ sum-zero-left f s t (n * up d) (down d) (num_pos (fin t n d) tt w)
      ∙ round-itself f t n d p
]
zero-plus f nan c z p h = elim z [ ]
zero-plus f (inf _) c z p h = elim z [ ]

-- c ⊕ zero is c, unless c is -0 and the zero is +0
pub plus-zero : (f : Format) (c z : Float) → T (fits f c) → Zero z → (Zero c → sign z && sign c ≡ sign c) → add f c z ≡ c
plus-zero f c z p w h = add-swap f c z ∙ zero-plus f z c w p h

-- c ⊖ zero is c, unless c and the zero are -0
pub minus-zero : (f : Format) (c z : Float) → T (fits f c) → Zero z → (Zero c → not (sign z) && sign c ≡ sign c) → sub f c z ≡ c
unfolding sub
minus-zero f c z p w h = plus-zero f c (neg z) p (neg-zero z w).0 (λ k. ap (λ (s : Bool). s && sign c) (neg-zero z w).1 ∙ h k)

-- what fits and isn't -0 is no negative zero
not_negative : (f : Format) (c : Float) → T (fits f c) → (c ≡ ±0 true → ⊥) → Zero c → false ≡ sign c
not_negative f c p n z = go (sign c) (zero_is f c p z)
  where
    go : (s : Bool) → c ≡ ±0 s → false ≡ s
    go true e = absurd (n e)
    go false e = refl

-- 0 ⊕ c is c for every c but -0
pub 0-plus : (c : Float) → T (fits binary64 c) → (c ≡ ±0 true → ⊥) → zero64 ⊕ c ≡ c
0-plus c p n = rw bits-0 (zero-plus binary64 (±0 false) c refl p (not_negative binary64 c p n))

-- c ⊕ 0 is c for every c but -0
pub plus-0 : (c : Float) → T (fits binary64 c) → (c ≡ ±0 true → ⊥) → c ⊕ zero64 ≡ c
plus-0 c p n = add-swap binary64 c zero64 ∙ 0-plus c p n

-- 0 ⊕ -0 is 0
pub 0-plus-minus-0 : zero64 ⊕ ±0 true ≡ zero64
0-plus-minus-0 = rw bits-0 (add-zeros-is binary64 (±0 false) (±0 true) refl refl)

-- c ⊖ 0 is c for every c
pub minus-0 : (c : Float) → T (fits binary64 c) → c ⊖ zero64 ≡ c
minus-0 c p = rw bits-0 (minus-zero binary64 c (±0 false) p refl (λ z. refl))

-- a finite number equals itself
pub eq_self : (x : Float) → T (finite x) → eq x x ≡ true
eq_self x t =
    eq-at x x (sign x) (sign x) (num x) (num x) (den x) (own_value x t) (own_value x t) (den_pos x)
    ∙ ap₂ (λ (a b : Bool). a && (b || eqb (num x) 0)) (eq-eqb (num x) (num x) refl) (beq-self (sign x))
  where
    beq-self : (s : Bool) → beq s s ≡ true
    beq-self true = refl
    beq-self false = refl

-- a result that is c, or a zero where c is one, equals c
same-value : (r c : Float) → T (finite c) → (Zero c → Zero r) → ((Zero c → ⊥) → r ≡ c) → eq r c ≡ true
same-value r c t a b = elim (zero_or_not c) [ inl z ↦ eq-zeros r c (a z) z | inr n ↦ rw (b n) (eq_self c t) ]

-- zero ⊕ c has the value of c
pub zero-plus-eq : (f : Format) (z c : Float) → Zero z → T (fits f c) → T (finite c) → eq (add f z c) c ≡ true
zero-plus-eq f z c w p t = same-value (add f z c) c t (add-zeros f z c w) (λ n. zero-plus f z c w p (λ k. absurd (n k)))

-- c ⊕ zero has the value of c
pub plus-zero-eq : (f : Format) (c z : Float) → T (fits f c) → T (finite c) → Zero z → eq (add f c z) c ≡ true
plus-zero-eq f c z p t w = rw (add-swap f c z) (zero-plus-eq f z c w p t)

-- c ⊖ zero has the value of c
pub minus-zero-eq : (f : Format) (c z : Float) → T (fits f c) → T (finite c) → Zero z → eq (sub f c z) c ≡ true
unfolding sub
minus-zero-eq f c z p t w = plus-zero-eq f c (neg z) p t (neg-zero z w).0
