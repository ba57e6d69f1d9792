-- Numbers that are whole: their order is that of the integers, their sums and differences are exact while they are small enough,
-- so that 1 taken from each of two powers, or added to each, keeps their order. Assumes nothing.
use Prim.Native.Nat.{ℕ, zero, suc, ◌+◌, ◌-◌, ◌*◌, ◌/◌, ◌%◌, ◌^◌, ◌≤◌, ◌<◌}
use native.Mathlib.Nat.{zero-lt-suc, zero-add, zero-mul, zero-div, mul-one, add-zero, mul_right_comm, mul-mod_left, mul-div_cancel, div-add-mod', eq_of_mul-eq-mul_right}
use native.Mathlib.Omega.{arith}
use mathlib.Core.Path.{◌≡◌, refl, sym, ap, ap₂, subst, ◌∙◌}
use mathlib.Core.Logic.{◌↔◌, inl, inr}
use mathlib.Core.Bool.{Bool, true, false, not, ◌&&◌, ◌||◌, cond, beq, true≢false, false≢true}
use lib.IntN.{ℤ, pos, negsuc, neg_ℤ, suc_ℤ, pred_ℤ, nat_abs, ◌+ℤ◌, ◌-ℤ◌, +ℤ_comm, +ℤ_one, -ℤ_one, neg_ℤ-+ℤ, pred-suc, pos-ne-negsuc}
use lib.Signed.{lt_z}
use lib.Dec.{T, leb, ltb, eqb, eqb→eq, leb→le, leb-suc-suc, lit≤}
use lib.Ieee.{Float, nan, inf, fin, Format, binary64, prec, up, down, below, round, sum, add, sub, neg, lt, eq, of_int, of_bits}
use lib.Ieee.Exact.{HasValue}
use lib.Ieee.Back.{round_whole}
use lib.Ieee.Fits.{down_pos, and_l, and_r, eq→eqb}
use lib.Ieee.Scale.{finite}
use borrow.Author.Tests.{eqb-true, ltb-true, ltb-false, lt-ltb, le-ltb, eq-eqb, le-leb}
use Rattle.std.specs.Prelude.{Some, None}
use Rattle.std.specs.declared.cmp.Ordering.TheVariants.{Less, Equal, Greater}
use Rattle.numbers.specs.Numbers.{is_whole, small_whole}
use Rattle.numbers.specs.Order.{cmp_num}
use Rattle.numbers.specs.Ops.{◌⊕◌, ◌⊖◌}
use Rattle.numbers.specs.Signs.{one64}
use Rattle.numbers.specs.Wholes.{signed, Means, Near, NearUp, Clash}
use Rattle.numbers.proofs.Bools.{T_of, like, no_part}
use Rattle.numbers.proofs.Values.{bits-1, value-finite, neg_value, add_at, lt_at, sum-swap}
use Rattle.numbers.proofs.Zeros.{eq_self}
use Rattle.numbers.proofs.Order.{eq-by-lt}

-- ---- integers

nat_abs-signed : (s : Bool) (a : ℕ) → nat_abs (signed s a) ≡ a
nat_abs-signed true zero = refl
nat_abs-signed true (suc a) = refl
nat_abs-signed false a = refl

ltZ-self : (z : ℤ) → lt_z z z ≡ false
ltZ-self (pos a) = le-ltb a a (omega arith)
ltZ-self (negsuc a) = le-ltb a a (omega arith)

lt_z-neither : (z w : ℤ) → lt_z z w ≡ false → lt_z w z ≡ false → z ≡ w
lt_z-neither (pos a) (pos b) h k = ap pos (omega (arith, ltb-false a b h, ltb-false b a k))
lt_z-neither (pos a) (negsuc b) h k = absurd (true≢false k)
lt_z-neither (negsuc a) (pos b) h k = absurd (true≢false h)
lt_z-neither (negsuc a) (negsuc b) h k = ap negsuc (omega (arith, ltb-false b a h, ltb-false a b k))

-- one less each
lt_z-pred : (z w : ℤ) → lt_z (pred_ℤ z) (pred_ℤ w) ≡ lt_z z w
lt_z-pred (pos zero) (pos zero) = refl
lt_z-pred (pos zero) (pos (suc b)) = sym (lt-ltb 0 (suc b) (omega arith))
lt_z-pred (pos (suc a)) (pos zero) = sym (le-ltb (suc a) 0 (omega arith))
lt_z-pred (pos (suc a)) (pos (suc b)) = sym (leb-suc-suc (suc a) b)
lt_z-pred (pos zero) (negsuc b) = le-ltb (suc b) 0 (omega arith)
lt_z-pred (pos (suc a)) (negsuc b) = refl
lt_z-pred (negsuc a) (pos zero) = lt-ltb 0 (suc a) (omega arith)
lt_z-pred (negsuc a) (pos (suc b)) = refl
lt_z-pred (negsuc a) (negsuc b) = leb-suc-suc (suc b) a

-- one more each
lt_z-suc : (z w : ℤ) → lt_z (suc_ℤ z) (suc_ℤ w) ≡ lt_z z w
lt_z-suc z w = sym (lt_z-pred (suc_ℤ z) (suc_ℤ w)) ∙ ap₂ lt_z (pred-suc z) (pred-suc w)

-- ---- the order of numbers that are whole

below-signed : (s t : Bool) (a b : ℕ) → below s a t b ≡ lt_z (signed s a) (signed t b)
below-signed false false a b = refl
below-signed false true a zero = sym (le-ltb a 0 (omega arith))
below-signed false true a (suc b) = refl
below-signed true false zero b = ap (ltb 0) (zero-add b)
below-signed true false (suc a) b = lt-ltb 0 (suc a + b) (omega arith)
below-signed true true zero zero = refl
below-signed true true zero (suc b) = le-ltb (suc b) 0 (omega arith)
below-signed true true (suc a) zero = lt-ltb 0 (suc a) (omega arith)
below-signed true true (suc a) (suc b) = leb-suc-suc (suc b) a

-- a whole number is finite
pub means-finite : {x : Float} {z : ℤ} → Means x z → T (finite x)
means-finite {x} m = value-finite x m.sign m.size 1 m.value

-- < of numbers that are whole is < of the integers
pub means-lt : {x y : Float} {z w : ℤ} → Means x z → Means y w → lt x y ≡ lt_z z w
means-lt {x} {y} m n = lt_at x y m.sign n.sign m.size n.size 1 m.value n.value (zero-lt-suc 0) ∙ below-signed m.sign n.sign m.size n.size ∙ ap₂ lt_z m.is n.is

-- numbers that are whole are equal where the integers are
pub means-eq : {x y : Float} {z w : ℤ} → Means x z → Means y w → (eq x y ≡ true) ↔ (z ≡ w)
means-eq {x} {y} {z} {w} m n = (λ h. go (lt_z z w) (lt_z w z) refl refl (sym is ∙ h), λ h. is ∙ rw (h, ltZ-self w))
  where
    is : eq x y ≡ not (lt_z z w || lt_z w z)
    is = eq-by-lt x y (means-finite m) (means-finite n) ∙ ap₂ (λ (a b : Bool). not (a || b)) (means-lt m n) (means-lt n m)

    go : (a b : Bool) → lt_z z w ≡ a → lt_z w z ≡ b → not (a || b) ≡ true → z ≡ w
    go true b h k e = absurd (false≢true e)
    go false true h k e = absurd (false≢true e)
    go false false h k e = lt_z-neither z w h k

-- a number is one whole number at most
pub means-unique : {x : Float} {z w : ℤ} → Means x z → Means x w → z ≡ w
means-unique {x} m n = (means-eq m n).0 (eq_self x (means-finite m))

-- ---- exact sums and differences

-- ±n, if it is small enough, is rounded to itself
rounded : (f : Format) (s : Bool) (n : ℕ) (z : ℤ) → signed s n ≡ z → nat_abs z ≤ 2 ^ prec f → Means (round f s n 1) z
rounded f s n z e h = record {
  sign = s;
  size = n;
  value = round_whole f s n (subst (λ (k : ℕ). k ≤ 2 ^ prec f) (ap nat_abs (sym e) ∙ nat_abs-signed s n) h);
  is = e;
}

-- an integer as a number is that whole number
pub means-of_int : (f : Format) (z : ℤ) → nat_abs z ≤ 2 ^ prec f → Means (of_int f z) z
unfolding of_int
means-of_int f (pos n) h = rounded f false n (pos n) refl h
means-of_int f (negsuc n) h = rounded f true (suc n) (negsuc n) refl h

-- a - b for a below b, and for any other
short : (a b : ℕ) → a < b → neg_ℤ (pos (b - a)) ≡ pos a +ℤ neg_ℤ (pos b)
short a zero h = absurd (omega arith)
short a (suc b) h = let k : suc b - a ≡ suc (suc b - suc a) = omega arith in rw (lt-ltb a (suc b) h, k)

long : (a b : ℕ) → b ≤ a → pos (a - b) ≡ pos a +ℤ neg_ℤ (pos b)
long a zero h = ap pos (omega arith)
long a (suc b) h = rw (le-ltb a (suc b) h)

difference : (f : Format) (a b : ℕ) → nat_abs (pos a +ℤ neg_ℤ (pos b)) ≤ 2 ^ prec f → Means (sum f false a true b 1) (pos a +ℤ neg_ℤ (pos b))
unfolding sum
difference f a b h = go (ltb a b) refl
  where
    go : (l : Bool) → ltb a b ≡ l → Means (cond l (round f true (b - a) 1) (round f false (a - b) 1)) (pos a +ℤ neg_ℤ (pos b))
    go true e = rounded f true (b - a) _ (short a b (ltb-true a b e)) h
    go false e = rounded f false (a - b) _ (long a b (ltb-false a b e)) h

sum-means : (f : Format) (s t : Bool) (a b : ℕ) → nat_abs (signed s a +ℤ signed t b) ≤ 2 ^ prec f → Means (sum f s a t b 1) (signed s a +ℤ signed t b)
sum-means f true true a b h = unfold sum in rounded f true (a + b) _ (neg_ℤ-+ℤ (pos a) (pos b)) h
sum-means f false false a b h = unfold sum in rounded f false (a + b) _ refl h
sum-means f false true a b h = difference f a b h
sum-means f true false a b h = rw (sum-swap f true false a b 1, +ℤ_comm (neg_ℤ (pos a)) (pos b)) (difference f b a (rw (+ℤ_comm (neg_ℤ (pos a)) (pos b)) at h))

-- x ⊕ y is the sum of two whole numbers, where that is small enough
pub means-add : (f : Format) {x y : Float} {z w : ℤ} → Means x z → Means y w → nat_abs (z +ℤ w) ≤ 2 ^ prec f → Means (add f x y) (z +ℤ w)
means-add f {x} {y} m n h =
    rw (add_at f x y m.sign n.sign m.size n.size 1 m.value n.value (zero-lt-suc 0), ← m.is, ← n.is)
    (sum-means f m.sign n.sign m.size n.size (rw (← m.is, ← n.is) at h))

-- -x is the negative of a whole number
pub means-neg : {x : Float} {z : ℤ} → Means x z → Means (neg x) (neg_ℤ z)
means-neg {x} m = record {
  sign = not m.sign;
  size = m.size;
  value = neg_value x m.sign m.size 1 m.value;
  is = turn m.sign m.size ∙ ap neg_ℤ m.is;
}
  where
    turn : (s : Bool) (a : ℕ) → signed (not s) a ≡ neg_ℤ (signed s a)
    turn true zero = refl
    turn true (suc a) = refl
    turn false a = refl

-- x ⊖ y is the difference of two whole numbers, where that is small enough
pub means-sub : (f : Format) {x y : Float} {z w : ℤ} → Means x z → Means y w → nat_abs (z -ℤ w) ≤ 2 ^ prec f → Means (sub f x y) (z -ℤ w)
unfolding sub
means-sub f m n h = means-add f m (means-neg n) h

-- m * 2^k with the sign s is a whole number
pub means-fin : (s : Bool) (m k : ℕ) → Means (fin s m (pos k)) (signed s (m * 2 ^ k))
means-fin s m k = record { sign = s; size = m * 2 ^ k; value = (refl, refl); is = refl }

-- 1 is 1
pub means-1 : Means one64 (pos 1)
means-1 = rw bits-1 (means-fin false 1 0)

near-pred : (z : ℤ) → Near z → nat_abs (pred_ℤ z) ≤ 2 ^ 53
near-pred (pos zero) h = lit≤ tt
near-pred (pos (suc n)) h = omega arith
near-pred (negsuc n) h = h

near-suc : (z : ℤ) → NearUp z → nat_abs (suc_ℤ z) ≤ 2 ^ 53
near-suc (pos n) h = h
near-suc (negsuc zero) h = omega arith
near-suc (negsuc (suc n)) h = omega arith

-- a step on the integers that keeps their order, taken by numbers that are whole
module _ (step : ℤ → ℤ) (keeps : (z w : ℤ) → lt_z (step z) (step w) ≡ lt_z z w) where
  step-lt : {x y x' y' : Float} {z w : ℤ} → Means x z → Means y w → Means x' (step z) → Means y' (step w) → lt x' y' ≡ lt x y
  step-lt {z} {w} m n m' n' = means-lt m' n' ∙ keeps z w ∙ sym (means-lt m n)

  step-eq : {x y x' y' : Float} {z w : ℤ} → Means x z → Means y w → Means x' (step z) → Means y' (step w) → eq x' y' ≡ eq x y
  step-eq {x} {y} {x'} {y'} m n m' n' =
      eq-by-lt x' y' (means-finite m') (means-finite n')
      ∙ ap₂ (λ (a b : Bool). not (a || b)) (step-lt m n m' n') (step-lt n m n' m')
      ∙ sym (eq-by-lt x y (means-finite m) (means-finite n))

  step-cmp : {x y x' y' : Float} {z w : ℤ} → Means x z → Means y w → Means x' (step z) → Means y' (step w) → cmp_num x' y' ≡ cmp_num x y
  step-cmp m n m' n' = ap₂ (λ (a b : Bool). cond a Less (cond b Greater Equal)) (step-lt m n m' n') (step-lt n m n' m')

-- ---- 1 less

-- x ⊖ 1 is one less
pub less-1 : {x : Float} {z : ℤ} → Means x z → Near z → Means (x ⊖ one64) (pred_ℤ z)
less-1 {x} {z} m h = rw (-ℤ_one z) at (means-sub binary64 m means-1 (rw (-ℤ_one z) (near-pred z h)))

-- 1 less each keeps <
pub less-1-lt : {x y : Float} {z w : ℤ} → Means x z → Means y w → Near z → Near w → lt (x ⊖ one64) (y ⊖ one64) ≡ lt x y
less-1-lt m n h k = step-lt pred_ℤ lt_z-pred m n (less-1 m h) (less-1 n k)

-- 1 less each keeps ==, so different powers stay different
pub less-1-eq : {x y : Float} {z w : ℤ} → Means x z → Means y w → Near z → Near w → eq (x ⊖ one64) (y ⊖ one64) ≡ eq x y
less-1-eq m n h k = step-eq pred_ℤ lt_z-pred m n (less-1 m h) (less-1 n k)

-- 1 less each keeps the order
pub less-1-cmp : {x y : Float} {z w : ℤ} → Means x z → Means y w → Near z → Near w → cmp_num (x ⊖ one64) (y ⊖ one64) ≡ cmp_num x y
less-1-cmp m n h k = step-cmp pred_ℤ lt_z-pred m n (less-1 m h) (less-1 n k)

-- ---- 1 more

-- x ⊕ 1 is one more
pub more-1 : {x : Float} {z : ℤ} → Means x z → NearUp z → Means (x ⊕ one64) (suc_ℤ z)
more-1 {x} {z} m h = rw (+ℤ_one z) at (means-add binary64 m means-1 (rw (+ℤ_one z) (near-suc z h)))

-- 1 more each keeps <
pub more-1-lt : {x y : Float} {z w : ℤ} → Means x z → Means y w → NearUp z → NearUp w → lt (x ⊕ one64) (y ⊕ one64) ≡ lt x y
more-1-lt m n h k = step-lt suc_ℤ lt_z-suc m n (more-1 m h) (more-1 n k)

-- 1 more each keeps ==, so different powers stay different
pub more-1-eq : {x y : Float} {z w : ℤ} → Means x z → Means y w → NearUp z → NearUp w → eq (x ⊕ one64) (y ⊕ one64) ≡ eq x y
more-1-eq m n h k = step-eq suc_ℤ lt_z-suc m n (more-1 m h) (more-1 n k)

-- 1 more each keeps the order
pub more-1-cmp : {x y : Float} {z w : ℤ} → Means x z → Means y w → NearUp z → NearUp w → cmp_num (x ⊕ one64) (y ⊕ one64) ≡ cmp_num x y
more-1-cmp m n h k = step-cmp suc_ℤ lt_z-suc m n (more-1 m h) (more-1 n k)

-- ---- beyond, whole numbers run together: the nearest two on either side

clash : (g : Float → Float) (s : Bool) (m k n l : ℕ) (r : Float) → g (fin s m (pos k)) ≡ r → g (fin s n (pos l)) ≡ r → Clash g (signed s (m * 2 ^ k)) (signed s (n * 2 ^ l))
clash g s m k n l r p q = (fin s m (pos k), fin s n (pos l), means-fin s m k, means-fin s n l, p ∙ sym q)

-- -2^53 and -2^53 + 1, less 1
pub less-1-clash-low : Clash (λ x. x ⊖ one64) (signed true (2 ^ 53)) (signed true (2 ^ 53 - 1))
unfolding sub of_bits
less-1-clash-low = clash _ true 1 53 9007199254740991 0 (fin true 1 (pos 53)) refl refl

-- 2^53 + 4 and 2^53 + 6, less 1
pub less-1-clash-high : Clash (λ x. x ⊖ one64) (pos (2 ^ 53 + 4)) (pos (2 ^ 53 + 6))
unfolding sub of_bits
less-1-clash-high = clash _ false 2251799813685249 2 4503599627370499 1 (fin false 2251799813685249 (pos 2)) refl refl

-- 2^53 and 2^53 - 1, and 1
pub more-1-clash-high : Clash (λ x. x ⊕ one64) (pos (2 ^ 53)) (pos (2 ^ 53 - 1))
unfolding add of_bits
more-1-clash-high = clash _ false 1 53 9007199254740991 0 (fin false 1 (pos 53)) refl refl

-- -2^53 - 4 and -2^53 - 6, and 1
pub more-1-clash-low : Clash (λ x. x ⊕ one64) (signed true (2 ^ 53 + 4)) (signed true (2 ^ 53 + 6))
unfolding add of_bits
more-1-clash-low = clash _ true 2251799813685249 2 4503599627370499 1 (fin true 2251799813685249 (pos 2)) refl refl

-- ---- which numbers are whole

-- a number that is whole, with nothing left over
whole-value : (s : Bool) (m : ℕ) (e : ℤ) → m * up e % down e ≡ 0 → HasValue (fin s m e) s (m * up e / down e) 1
whole-value s m e r = (refl, mul-one (m * up e) ∙ sym (div-add-mod' (m * up e) (down e)) ∙ ap (λ (k : ℕ). m * up e / down e * down e + k) r ∙ add-zero (m * up e / down e * down e))

-- what is whole is a whole number
pub whole-means : (x : Float) → is_whole x ≡ true → (z : ℤ) × Means x z
whole-means nan e = absurd (false≢true e)
whole-means (inf s) e = absurd (false≢true e)
whole-means (fin s m d) e =
    (signed s (m * up d / down d), record { sign = s; size = m * up d / down d; value = whole-value s m d (eqb-true (m * up d % down d) 0 e); is = refl })

-- the size of a whole number, with nothing left over
cut : (m : ℕ) (e : ℤ) (a : ℕ) → m * up e * 1 ≡ a * down e → (m * up e % down e ≡ 0) × (m * up e / down e ≡ a)
cut m e a h =
    let k = sym (mul-one (m * up e)) ∙ h in
    (ap (λ (n : ℕ). n % down e) k ∙ mul-mod_left a (down e), ap (λ (n : ℕ). n / down e) k ∙ mul-div_cancel a (down_pos e))

-- a whole number is whole
pub means-whole : {x : Float} {z : ℤ} → Means x z → is_whole x ≡ true
means-whole {x = nan} m = absurd m.value
means-whole {x = inf s} m = absurd m.value
means-whole {x = fin s k e} m = eq-eqb (k * up e % down e) 0 (cut k e m.size m.value.1).0

-- the answer of `small_whole`, taken apart
small-says : (b : Bool) (q n : ℕ) → cond b (Some q) None ≡ Some n → T b × (q ≡ n)
small-says true q n e = (tt, cc)
small-says false q n e = absurd (let z : ◌≡◌ {A = ℕ} 0 1 = cc in omega arith)

small_is : (r q : ℕ) (c : Bool) (n : ℕ) → r ≡ 0 → q ≡ n → T c → n ≤ 64 → cond (eqb r 0 && leb q 64 && c) (Some q) None ≡ Some n
small_is r q true n z e t h = rw (z, e, le-leb n 64 h)
small_is r q false n z e t h = elim t [ ]

-- not below 0, so its size is the number
unsigned : (s : Bool) (a d : ℕ) → T (not s || eqb a 0) → signed s (a / d) ≡ pos (a / d)
unsigned true a d t = rw (eqb→eq a 0 t, zero-div d)
unsigned false a d t = refl

-- -a is no natural number but 0
no-negative : (a n : ℕ) → neg_ℤ (pos a) ≡ pos n → a ≡ 0
no-negative zero n e = refl
no-negative (suc a) n e = absurd (pos-ne-negsuc n a (sym e))

not-below : (s : Bool) (M d n a : ℕ) → M * 1 ≡ a * d → signed s a ≡ pos n → T (not s || eqb M 0)
not-below false M d n a h k = tt
not-below true M d n a h k = eq→eqb (no_part M 1 (zero-lt-suc 0) (h ∙ ap (λ (b : ℕ). b * d) (no-negative a n k) ∙ zero-mul d))

-- `small_whole` finds n exactly where the number is n, for an n up to 64
pub small-whole : (x : Float) (n : ℕ) → (small_whole x ≡ Some n) ↔ ((n ≤ 64) × Means x (pos n))
unfolding small_whole
small-whole x n = (found x, λ h. is x h.0 h.1)
  where
    found : (x : Float) → small_whole x ≡ Some n → (n ≤ 64) × Means x (pos n)
    found nan e = absurd (small-says false 0 n e).0
    found (inf s) e = absurd (small-says false 0 n e).0
    found (fin s m d) e =
        let q = m * up d / down d in
        let A = eqb (m * up d % down d) 0 in
        let B = leb q 64 in
        let C = not s || eqb (m * up d) 0 in
        let h = small-says (A && B && C) q n e in
        let ab = and_l (A && B) C h.0 in (
          rw h.1 at (leb→le q 64 (and_r A B ab)),
          record { sign = s; size = q; value = whole-value s m d (eqb→eq (m * up d % down d) 0 (and_l A B ab)); is = unsigned s (m * up d) (down d) (and_r (A && B) C h.0) ∙ ap pos h.1 },
        )

    is : (x : Float) → n ≤ 64 → Means x (pos n) → small_whole x ≡ Some n
    is nan h k = absurd k.value
    is (inf s) h k = absurd k.value
    is (fin s m d) h k =
        let v = k.value in
        let c = cut m d k.size v.1 in
        let a : k.size ≡ n = sym (nat_abs-signed k.sign k.size) ∙ ap nat_abs k.is in
        small_is (m * up d % down d) (m * up d / down d) (not s || eqb (m * up d) 0) n c.0 (c.1 ∙ a)
        (not-below s (m * up d) (down d) n k.size v.1 (ap (λ (t : Bool). signed t k.size) v.0 ∙ k.is)) h

signed-zero : (s : Bool) → signed s 0 ≡ pos 0
signed-zero true = refl
signed-zero false = refl

-- equal numbers are the same whole number
pub eq-means : (x y : Float) {z : ℤ} → eq x y ≡ true → Means y z → Means x z
unfolding eq
eq-means x y {z} e k = go x y k.sign k.size (T_of e) k.value k.is
  where
    go : (x y : Float) (t : Bool) (b : ℕ) → T (eq x y) → HasValue y t b 1 → signed t b ≡ z → Means x z
    go (inf s) (fin u n d) t b h v k = absurd h
    go (fin s m e) (fin u n d) t b h v k =
        let a = m * up e * down d in
        let c = n * up d * down e in
        let same = eqb→eq a c (and_l (eqb a c) (beq s u || eqb a 0) h) in
        let size : m * up e * 1 ≡ b * down e =
        eq_of_mul-eq-mul_right (down d) (down_pos d) (m * up e * 1) (b * down e)
        (ap (λ (i : ℕ). i * down d) (mul-one (m * up e)) ∙ same ∙ ap (λ (i : ℕ). i * down e) (sym (mul-one (n * up d)) ∙ v.1) ∙ mul_right_comm b (down d) (down e)) in
        let nothing : T (eqb a 0) → b ≡ 0 =
        λ w. no_part b (down e) (down_pos e) (sym size ∙ mul-one (m * up e) ∙ no_part (m * up e) (down d) (down_pos d) (eqb→eq a 0 w)) in
        record {
          sign = s;
          size = b;
          value = (refl, size);
          is = elim (like s u (eqb a 0) (and_r (eqb a c) (beq s u || eqb a 0) h)) [
            | inl g ↦ ap (λ (r : Bool). signed r b) (g ∙ v.0) ∙ k
            | inr w ↦ rw (nothing w, signed-zero s) (sym (signed-zero t) ∙ ap (signed t) (sym (nothing w)) ∙ k)
          ];
        }
    go nan _ t b h v k = elim h [ ]
    go (inf s) nan t b h v k = elim h [ ]
    go (inf s) (inf _) t b h v k = elim v [ ]
    go (fin s m e) nan t b h v k = elim h [ ]
    go (fin s m e) (inf _) t b h v k = elim h [ ]

-- x == n exactly where x is n, for a whole n that is small enough
pub is-int : (f : Format) (x : Float) (z : ℤ) → nat_abs z ≤ 2 ^ prec f → (eq x (of_int f z) ≡ true) ↔ Means x z
is-int f x z h = (λ e. eq-means x (of_int f z) e (means-of_int f z h), λ m. (means-eq m (means-of_int f z h)).1 refl)
