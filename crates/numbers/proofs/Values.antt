-- Values: two numbers that fit a format and have one value are the same, a fraction that is a fitting number's value rounds to that number,
-- and each operation sees only the values of its operands. Assumes nothing.
use Prim.Native.Nat.{ℕ, zero, suc, ◌+◌, ◌-◌, ◌*◌, ◌/◌, ◌%◌, ◌^◌, ◌≤◌, ◌<◌}
use native.Mathlib.Nat.{mul_comm, mul_assoc, mul_right_comm, mul-one, mul-pos, mul-mul-mul_comm, add-mul, mul-sub, add_comm, zero-mul, zero-lt-suc, eq_of_mul-eq-mul_right, lt_of_mul-lt-mul_right, mul-lt-mul_of_pos_right, lt_of_not-le, not-le_of_lt, le_of_suc-le-suc}
use native.Mathlib.Omega.{arith}
use mathlib.Core.Path.{◌≡◌, refl, sym, ap, ap₂, ◌∙◌}
use mathlib.Core.Bool.{Bool, true, false, not, ◌&&◌, ◌||◌, cond, beq}
use lib.IntN.{ℤ, pos, negsuc}
use lib.Dec.{T, leb, ltb, eqb, ltb→lt, nltb→le, leb→le, eqb-suc-zero}
use lib.Pow.{pow-add, pow_pos, pow-lt}
use lib.Ieee.{Float, nan, inf, fin, Format, prec, emax, low, up, down, unlike, size, hid, top, round, sum, add, mul, div, neg, fits, eq, lt, level, below, of_bits, to_bits}
use lib.Ieee.Exact.{HasValue, round_exact}
use lib.Ieee.Fits.{down_pos, up_pos, round-fits, and_l, and_r}
use lib.Ieee.Bits.{of_bits-to_bits}
use lib.Ieee.Nearest.{div_same}
use lib.Ieee.Positive.{num, den}
use lib.Ieee.Scale.{finite, round_same}
use Rattle.numbers.specs.Signs.{zero64, one64, ±0, ±1, sign}
use Rattle.numbers.proofs.Bools.{ltb-same, eqb_same}

-- the literal 0.0
pub bits-0 : zero64 ≡ ±0 false
unfolding of_bits
bits-0 = refl

-- the literal 1.0
pub bits-1 : one64 ≡ ±1 false
unfolding of_bits
bits-1 = refl

-- ---- one value, one number

-- a finite number's value is the fraction num / den
pub own_value : (x : Float) → T (finite x) → HasValue x (sign x) (num x) (den x)
own_value (fin s m e) t = (refl, refl)
own_value nan t = elim t [ ]
own_value (inf _) t = elim t [ ]

-- what has a value is finite
pub value-finite : (x : Float) (s : Bool) (a c : ℕ) → HasValue x s a c → T (finite x)
value-finite (fin t m e) s a c v = tt
value-finite nan s a c v = elim v [ ]
value-finite (inf _) s a c v = elim v [ ]

-- a value as a fraction with larger terms
pub value-scale : (x : Float) (s : Bool) (a c k : ℕ) → HasValue x s a c → HasValue x s (a * k) (c * k)
value-scale (fin t m e) s a c k v = (v.0, sym (mul_assoc (m * up e) c k) ∙ ap (λ (z : ℕ). z * k) v.1 ∙ mul_right_comm a (down e) k)
value-scale nan s a c k v = elim v [ ]
value-scale (inf _) s a c k v = elim v [ ]

-- the negative's value
pub neg_value : (x : Float) (s : Bool) (a c : ℕ) → HasValue x s a c → HasValue (neg x) (not s) a c
unfolding neg
neg_value (fin t m e) s a c v = (ap not v.0, v.1)
neg_value nan s a c v = elim v [ ]
neg_value (inf _) s a c v = elim v [ ]

-- two fractions that equal a third equal one another
cross : (M N d g a c : ℕ) → 0 < c → M * c ≡ a * d → N * c ≡ a * g → M * g ≡ N * d
cross M N d g a c C p q =
    eq_of_mul-eq-mul_right c C (M * g) (N * d)
    (mul_right_comm M g c ∙ ap (λ (z : ℕ). z * g) p ∙ mul_right_comm a d g ∙ ap (λ (z : ℕ). z * d) (sym q) ∙ mul_right_comm N c d)

same_bits : (f : Format) (x y : Float) (s : Bool) (a c : ℕ) → HasValue x s a c → HasValue y s a c → 0 < c → to_bits f x ≡ to_bits f y
unfolding to_bits
same_bits f (fin t m e) (fin u n d) s a c v w C =
    let l = 2 ^ low f in
    let k = cross (m * up e) (n * up d) (down e) (down d) a c C v.1 w.1 in
    let same : m * up e * l / down e ≡ n * up d * l / down d =
    div_same (m * up e * l) (down e) (n * up d * l) (down d) (down_pos e) (down_pos d)
    (mul_right_comm (m * up e) l (down d) ∙ ap (λ (z : ℕ). z * l) k ∙ mul_right_comm (n * up d) (down e) l) in
    ap₂ (λ (b : Bool) (z : ℕ). cond b (top f) 0 + (size z - prec f) * hid f + z / 2 ^ (size z - prec f)) (v.0 ∙ sym w.0) same
same_bits f nan y s a c v w C = elim v [ ]
same_bits f (inf _) y s a c v w C = elim v [ ]
same_bits f (fin t m e) nan s a c v w C = elim w [ ]
same_bits f (fin t m e) (inf _) s a c v w C = elim w [ ]

-- two numbers that fit and have one value are the same
pub value-unique : (f : Format) (x y : Float) (s : Bool) (a c : ℕ) → T (fits f x) → T (fits f y) → HasValue x s a c → HasValue y s a c → 0 < c → x ≡ y
value-unique f x y s a c p q v w C = sym (of_bits-to_bits f x p) ∙ ap (of_bits f) (same_bits f x y s a c v w C) ∙ of_bits-to_bits f y q

-- ---- a fitting number is rounded to itself

pow-le : (a l : ℕ) → 2 ^ a ≤ 2 ^ l → a ≤ l
pow-le a l h = le_of_suc-le-suc (lt_of_not-le (λ (g : suc l ≤ a). not-le_of_lt (pow-lt g) h))

-- in units of 2 ^ -l, m * 2 ^ e is m * 2 ^ j
shift : (l : ℕ) (e : ℤ) → down e ≤ 2 ^ l → (j : ℕ) × ((m : ℕ) → m * up e * 2 ^ l ≡ m * 2 ^ j * down e)
shift l (pos a) h = (a + l, λ m. rw (pow-add 2 a l) (simp (mul-one, mul_assoc)))
shift l (negsuc a) h =
    let g = pow-le (suc a) l h in
    let k : l ≡ l - suc a + suc a = omega arith in
    (l - suc a, λ m. ap (λ (z : ℕ). m * 1 * 2 ^ z) k ∙ rw (pow-add 2 (l - suc a) (suc a)) (simp (mul-one, mul_assoc)))

-- what fits is told by these three
fits-says : (f : Format) (s : Bool) (m : ℕ) (e : ℤ) → T (fits f (fin s (suc m) e))
    → (suc m < 2 ^ prec f) × (down e ≤ 2 ^ low f) × (suc m * up e < 2 ^ suc (emax f) * down e)
unfolding fits
fits-says f s m e t =
    let A = eqb (suc m % 2) 1 in
    let B = ltb (suc m) (2 ^ prec f) in
    let C = leb (down e) (2 ^ low f) in
    let D = ltb (suc m * up e) (2 ^ suc (emax f) * down e) in
    let abc = and_l (A && B && C) D t in (
      ltb→lt (suc m) (2 ^ prec f) (and_r A B (and_l (A && B) C abc)),
      leb→le (down e) (2 ^ low f) (and_r (A && B) C abc),
      ltb→lt (suc m * up e) (2 ^ suc (emax f) * down e) (and_r (A && B && C) D t),
    )

-- what fits is q * 2 ^ j units of the smallest value, for a q of no more digits than the format keeps
in-units : (f : Format) (s : Bool) (m : ℕ) (e : ℤ) → T (fits f (fin s m e))
    → (q : ℕ) × (j : ℕ) × (q < 2 ^ prec f) × (q * 2 ^ j < 2 ^ (low f + suc (emax f))) × (m * up e * 2 ^ low f ≡ q * 2 ^ j * down e)
in-units f s zero e t = (0, 0, pow_pos (prec f), pow_pos (low f + suc (emax f)), rw (zero-mul (up e), zero-mul (2 ^ low f), zero-mul (down e)))
in-units f s (suc m) e t =
    let h = fits-says f s m e t in
    let k = shift (low f) e h.1 in
    let l = 2 ^ low f in
    let u = 2 ^ suc (emax f) in
    let small : suc m * 2 ^ k.0 * down e < 2 ^ (low f + suc (emax f)) * down e =
    rw (← k.1 (suc m), pow-add 2 (low f) (suc (emax f)), mul_comm l u, mul_right_comm u l (down e)) (mul-lt-mul_of_pos_right h.2 (pow_pos (low f))) in
    (suc m, k.0, h.0, lt_of_mul-lt-mul_right (down e) small, k.1 (suc m))

-- a fitting number is rounded to itself
pub round-itself : (f : Format) (s : Bool) (m : ℕ) (e : ℤ) → T (fits f (fin s m e)) → round f s (m * up e) (down e) ≡ fin s m e
round-itself f s m e t =
    let M = m * up e in
    let D = down e in
    let u = in-units f s m e t in
    value-unique f (round f s M D) (fin s m e) s M D (round-fits f s M D) t (round_exact f s M D u.0 u.1 (down_pos e) u.2 u.3 u.4) (refl, refl) (down_pos e)

-- a fraction that is a fitting number's value is rounded to that number
pub round-to : (f : Format) (x : Float) (s : Bool) (a c : ℕ) → T (fits f x) → 0 < c → HasValue x s a c → round f s a c ≡ x
round-to f (fin t m e) s a c p C v =
    round_same f s a c (m * up e) (down e) C (down_pos e) (sym v.1) ∙ ap (λ (b : Bool). round f b (m * up e) (down e)) (sym v.0) ∙ round-itself f t m e p
round-to f nan s a c p C v = elim v [ ]
round-to f (inf _) s a c p C v = elim v [ ]

-- ---- an operation sees only the values of its operands

sub-mul : (m n k : ℕ) → (m - n) * k ≡ m * k - n * k
sub-mul m n k = mul_comm (m - n) k ∙ mul-sub k m n ∙ ap₂ (λ (a b : ℕ). a - b) (mul_comm k m) (mul_comm k n)

-- A / C is a / c and B / C is b / c, so their sums and differences are equal too
add-cross : (A B C a b c : ℕ) → A * c ≡ a * C → B * c ≡ b * C → (A + B) * c ≡ (a + b) * C
add-cross A B C a b c e g = add-mul A B c ∙ ap₂ (λ (x y : ℕ). x + y) e g ∙ sym (add-mul a b C)

sub-cross : (A B C a b c : ℕ) → A * c ≡ a * C → B * c ≡ b * C → (A - B) * c ≡ (a - b) * C
sub-cross A B C a b c e g = sub-mul A B c ∙ ap₂ (λ (x y : ℕ). x - y) e g ∙ sym (sub-mul a b C)

-- g takes two signs, two numerators and their denominator, and sees only the values
abbrev ByValue : {R : Type 0} → (Bool → Bool → ℕ → ℕ → ℕ → R) → Type 0
ByValue g = (s t : Bool) (A B C a b c : ℕ) → 0 < C → 0 < c → A * c ≡ a * C → B * c ≡ b * C → g s t A B C ≡ g s t a b c

-- such a g of two finite numbers, by any two fractions with one denominator that they equal
by_value : {R : Type 0} (g : Bool → Bool → ℕ → ℕ → ℕ → R) → ByValue g → (u : Bool) (m : ℕ) (e : ℤ) (v : Bool) (n : ℕ) (d : ℤ) (s t : Bool) (a b c : ℕ)
    → HasValue (fin u m e) s a c → HasValue (fin v n d) t b c → 0 < c → g u v (m * up e * down d) (n * up d * down e) (down e * down d) ≡ g s t a b c
by_value g h u m e v n d s t a b c p q C =
    ap₂ (λ (x y : Bool). g x y (m * up e * down d) (n * up d * down e) (down e * down d)) p.0 q.0
    ∙ h s t (m * up e * down d) (n * up d * down e) (down e * down d) a b c (mul-pos (down_pos e) (down_pos d)) C
    (mul_right_comm (m * up e) (down d) c ∙ ap (λ (z : ℕ). z * down d) p.1 ∙ mul_assoc a (down e) (down d))
    (mul_right_comm (n * up d) (down e) c ∙ ap (λ (z : ℕ). z * down e) q.1 ∙ mul_assoc b (down d) (down e) ∙ ap (λ (z : ℕ). b * z) (mul_comm (down d) (down e)))

sum_same : (f : Format) → ByValue (λ s t A B C. sum f s A t B C)
unfolding sum
sum_same f s t A B C a b c P p e g =
    let less = ltb-same A B C a b c P p e g in
    let more = ltb-same B A C b a c P p g e in
    let together = round_same f s (A + B) C (a + b) c P p (add-cross A B C a b c e g) in
    let right = round_same f t (B - A) C (b - a) c P p (sub-cross B A C b a c g e) in
    let left : round f (s && ltb B A) (A - B) C ≡ round f (s && ltb b a) (a - b) c =
    ap (λ (z : Bool). round f (s && z) (A - B) C) more ∙ round_same f (s && ltb b a) (A - B) C (a - b) c P p (sub-cross A B C a b c e g) in
    λ i. cond (beq s t) (together i) (cond (less i) (right i) (left i))

nothing : (c C : ℕ) → 0 * c ≡ 0 * C
nothing c C = zero-mul c ∙ sym (zero-mul C)

level-same : ByValue (λ s t A B C. level s A t B)
level-same s t A B C a b c P p e g =
    let none = eqb_same A 0 C a 0 c P p e (nothing c C) in
    λ i. eqb_same A B C a b c P p e g i && (beq s t || none i)

below-same : ByValue (λ s t A B C. below s A t B)
below-same false false A B C a b c P p e g = ltb-same A B C a b c P p e g
below-same false true A B C a b c P p e g = refl
below-same true false A B C a b c P p e g = ltb-same 0 (A + B) C 0 (a + b) c P p (nothing c C) (add-cross A B C a b c e g)
below-same true true A B C a b c P p e g = ltb-same B A C b a c P p g e

-- ⊕, by any two fractions with one denominator that the operands equal
pub add_at : (f : Format) (x y : Float) (s t : Bool) (a b c : ℕ) → HasValue x s a c → HasValue y t b c → 0 < c → add f x y ≡ sum f s a t b c
unfolding add
add_at f (fin u m e) (fin v n d) s t a b c p q C = by_value (λ s t A B C. sum f s A t B C) (sum_same f) u m e v n d s t a b c p q C
add_at f nan y s t a b c p q C = elim p [ ]
add_at f (inf _) y s t a b c p q C = elim p [ ]
add_at f (fin u m e) nan s t a b c p q C = elim q [ ]
add_at f (fin u m e) (inf _) s t a b c p q C = elim q [ ]

-- ==, by any two fractions with one denominator that the operands equal
pub eq-at : (x y : Float) (s t : Bool) (a b c : ℕ) → HasValue x s a c → HasValue y t b c → 0 < c → eq x y ≡ level s a t b
unfolding eq
eq-at (fin u m e) (fin v n d) s t a b c p q C = by_value (λ s t A B C. level s A t B) level-same u m e v n d s t a b c p q C
eq-at nan y s t a b c p q C = elim p [ ]
eq-at (inf _) y s t a b c p q C = elim p [ ]
eq-at (fin u m e) nan s t a b c p q C = elim q [ ]
eq-at (fin u m e) (inf _) s t a b c p q C = elim q [ ]

-- <, by any two fractions with one denominator that the operands equal
pub lt_at : (x y : Float) (s t : Bool) (a b c : ℕ) → HasValue x s a c → HasValue y t b c → 0 < c → lt x y ≡ below s a t b
unfolding lt
lt_at (fin u m e) (fin v n d) s t a b c p q C = by_value (λ s t A B C. below s A t B) below-same u m e v n d s t a b c p q C
lt_at nan y s t a b c p q C = elim p [ ]
lt_at (inf _) y s t a b c p q C = elim p [ ]
lt_at (fin u m e) nan s t a b c p q C = elim q [ ]
lt_at (fin u m e) (inf _) s t a b c p q C = elim q [ ]

-- ⊗, by any two fractions that the operands equal
pub mul_at : (f : Format) (x y : Float) (s t : Bool) (a c b d : ℕ) → HasValue x s a c → HasValue y t b d → 0 < c → 0 < d → mul f x y ≡ round f (unlike s t) (a * b) (c * d)
unfolding mul
mul_at f (fin s' m e) (fin t' n g) s t a c b d v w C D =
    ap₂ (λ (p q : Bool). round f (unlike p q) (m * up e * (n * up g)) (down e * down g)) v.0 w.0
    ∙ round_same f (unlike s t) (m * up e * (n * up g)) (down e * down g) (a * b) (c * d) (mul-pos (down_pos e) (down_pos g)) (mul-pos C D)
    (mul-mul-mul_comm (m * up e) (n * up g) c d ∙ ap₂ (λ (x y : ℕ). x * y) v.1 w.1 ∙ mul-mul-mul_comm a (down e) b (down g))
mul_at f nan y s t a c b d v w C D = elim v [ ]
mul_at f (inf _) y s t a c b d v w C D = elim v [ ]
mul_at f (fin s' m e) nan s t a c b d v w C D = elim w [ ]
mul_at f (fin s' m e) (inf _) s t a c b d v w C D = elim w [ ]

-- ⊘ by a number that is not zero, by any two fractions that the operands equal
pub div-at : (f : Format) (x y : Float) (s t : Bool) (a c b d : ℕ) → HasValue x s a c → HasValue y t b d → 0 < c → 0 < d → 0 < b → div f x y ≡ round f (unlike s t) (a * d) (b * c)
unfolding div
div-at f (fin s' m e) (fin t' zero g) s t a c b d v w C D B = absurd (omega (arith, w.1, mul-pos B (down_pos g)))
div-at f (fin s' m e) (fin t' (suc n) g) s t a c b d v w C D B =
    let M = m * up e in
    let N = suc n * up g in
    rw (eqb-suc-zero n)
    (ap₂ (λ (p q : Bool). round f (unlike p q) (M * down g) (N * down e)) v.0 w.0
    ∙ round_same f (unlike s t) (M * down g) (N * down e) (a * d) (b * c) (mul-pos (mul-pos (zero-lt-suc n) (up_pos g)) (down_pos e)) (mul-pos B C)
    (ap (λ (z : ℕ). M * down g * z) (mul_comm b c) ∙ mul-mul-mul_comm M (down g) c b
    ∙ ap₂ (λ (x y : ℕ). x * y) v.1 (mul_comm (down g) b ∙ sym w.1)
    ∙ ap (λ (z : ℕ). a * down e * z) (mul_comm N d) ∙ mul-mul-mul_comm a (down e) d N ∙ ap (λ (z : ℕ). a * d * z) (mul_comm (down e) N)))
div-at f nan y s t a c b d v w C D B = elim v [ ]
div-at f (inf _) y s t a c b d v w C D B = elim v [ ]
div-at f (fin s' m e) nan s t a c b d v w C D B = elim w [ ]
div-at f (fin s' m e) (inf _) s t a c b d v w C D B = elim w [ ]

-- ---- the operands of ⊕ and ⊗ may be exchanged

unlike-swap : (f : Format) (A B C : ℕ) → cond (ltb A B) (round f false (B - A) C) (round f (ltb B A) (A - B) C) ≡ cond (ltb B A) (round f true (A - B) C) (round f false (B - A) C)
unlike-swap f A B C = go (ltb A B) (ltb B A) (ltb→lt A B) (ltb→lt B A) (nltb→le A B) (nltb→le B A)
  where
    go : (p q : Bool) → (T p → A < B) → (T q → B < A) → (T (not p) → B ≤ A) → (T (not q) → A ≤ B)
        → cond p (round f false (B - A) C) (round f q (A - B) C) ≡ cond q (round f true (A - B) C) (round f false (B - A) C)
    go true true h k i j = let l = h tt in let g = k tt in absurd (omega arith)
    go true false h k i j = refl
    go false true h k i j = refl
    go false false h k i j = let l = i tt in let g = j tt in ap (λ (z : ℕ). round f false z C) (omega arith)

-- ±a / c ⊕ ±b / c, exchanged
pub sum-swap : (f : Format) (s t : Bool) (A B C : ℕ) → sum f s A t B C ≡ sum f t B s A C
unfolding sum
sum-swap f true true A B C = ap (λ (z : ℕ). round f true z C) (add_comm A B)
sum-swap f true false A B C = unlike-swap f A B C
sum-swap f false true A B C = sym (unlike-swap f B A C)
sum-swap f false false A B C = ap (λ (z : ℕ). round f false z C) (add_comm A B)

-- two signs are alike in either order
pub beq-swap : (s t : Bool) → beq s t ≡ beq t s
beq-swap true true = refl
beq-swap true false = refl
beq-swap false true = refl
beq-swap false false = refl

-- the sign of a product in the other order
pub unlike-comm : (s t : Bool) → unlike s t ≡ unlike t s
unlike-comm s t = ap not (beq-swap s t)

-- x ⊕ y is y ⊕ x
pub add-swap : (f : Format) (x y : Float) → add f x y ≡ add f y x
unfolding add
add-swap f nan nan = refl
add-swap f nan (inf t) = refl
add-swap f nan (fin t n d) = refl
add-swap f (inf s) nan = refl
add-swap f (inf true) (inf true) = refl
add-swap f (inf true) (inf false) = refl
add-swap f (inf false) (inf true) = refl
add-swap f (inf false) (inf false) = refl
add-swap f (inf s) (fin t n d) = refl
add-swap f (fin s m e) nan = refl
add-swap f (fin s m e) (inf t) = refl
add-swap f (fin s m e) (fin t n d) =
    sum-swap f s t (m * up e * down d) (n * up d * down e) (down e * down d) ∙ ap (sum f t (n * up d * down e) s (m * up e * down d)) (mul_comm (down e) (down d))

-- x ⊗ y is y ⊗ x
pub mul-swap : (f : Format) (x y : Float) → mul f x y ≡ mul f y x
unfolding mul
mul-swap f nan nan = refl
mul-swap f nan (inf t) = refl
mul-swap f nan (fin t n d) = refl
mul-swap f (inf s) nan = refl
mul-swap f (inf s) (inf t) = ap inf (unlike-comm s t)
mul-swap f (inf s) (fin t n d) = ap (λ (z : Bool). cond (eqb n 0) nan (inf z)) (unlike-comm s t)
mul-swap f (fin s m e) nan = refl
mul-swap f (fin s m e) (inf t) = ap (λ (z : Bool). cond (eqb m 0) nan (inf z)) (unlike-comm s t)
mul-swap f (fin s m e) (fin t n d) = λ i. round f (unlike-comm s t i) (mul_comm (m * up e) (n * up d) i) (mul_comm (down e) (down d) i)
