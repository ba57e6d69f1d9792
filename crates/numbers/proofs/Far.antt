-- 2^52 added and taken away again gives a number below 2^52 back exactly when it is whole; from 2^52 up every number of the format is whole.
-- Assumes nothing.
use Prim.Native.Nat.compare
use Prim.Native.Nat.{Ordering, ℕ, zero, suc, ◌+◌, ◌-◌, ◌*◌, ◌/◌, ◌%◌, ◌^◌, ◌≤◌, ◌<◌, compare}
use mathlib.Core.Path.{◌≡◌, refl, sym, ap, subst, ◌∙◌}
use mathlib.Core.Logic.{◌⊎◌, inl, inr}
use mathlib.Core.Bool.{Bool, true, false, not, ◌&&◌, ◌||◌, beq, true≢false, false≢true}
use native.Mathlib.Omega.{arith}
use native.Mathlib.Nat.{mul_assoc, mul_comm, mul_right_comm, mul-one, mul-pos, add-mul, mul-le-mul_right, mul-lt-mul_of_pos_right, le_of_mul-le-mul_right, le-div_iff_mul-le, div-lt_iff_lt-mul, mul-div_cancel, mul-mod_left, eq_of_mul-eq-mul_right, div-add-mod', lt_of_lt_of_le, le_trans, lt_of_not-le, not-le_of_lt, lt_of_le_of_lt, le_of_eq, le_antisymm, mul-sub, lt_irrefl, add-sub_cancel, zero-mul, mod-one, eq-or-lt_of_le}
use borrow.Author.Tests.{le-ltb, lt-ltb, ltb-false, ltb-true, leb-true, leb-false, le-leb, lt-leb, eq-eqb, ne_eqb}
use lib.Dec.{T, leb, ltb, eqb, ltb→lt, eqb→eq, lit<}
use lib.Pow.{pow-add, pow_pos, pow_mono}
use lib.IntN.{ℤ, pos, negsuc}
use lib.Ieee.{Float, nan, inf, fin, binary64, low, up, down, size, units, round, add, sub, neg, sum, lt, le, eq, below, level, fits, of_bits}
use lib.Ieee.Digits.{size-lt, size-le}
use lib.Ieee.Exact.{HasValue, units_val}
use lib.Ieee.Fits.{core, round_is, nearest-le, down_pos, eq→eqb, and_l, and_r, and_i}
use lib.Ieee.Nearest.{closest, closest_same, nearest-ge}
use lib.Ieee.Scale.{finite, round_same}
use lib.Ieee.Back.{round_whole, whole_unique}
use Rattle.numbers.specs.Numbers.{is_whole}
use Rattle.numbers.proofs.Bools.{bool-ext, eqb-cancel}

no_less : (n j : ℕ) → 2 ^ j ≤ n → j < size n
no_less n j h = lt_of_not-le (λ (g : size n ≤ j). not-le_of_lt (lt_of_lt_of_le (size-lt n) (pow_mono g)) h)

-- ---- a fraction from 2 ^ p up and below 2 ^ (p + 1) is rounded to a whole number, where the format keeps p + 1 digits
module _ (l p N D : ℕ) (D⁺ : 0 < D) (least : 2 ^ p * D ≤ N) (most : N < 2 ^ suc p * D) where
  digits : size (N * 2 ^ l / D) ≡ suc p + l
  digits =
      let above : N * 2 ^ l / D < 2 ^ (suc p + l) =
      (div-lt_iff_lt-mul D⁺).1 (subst (λ (k : ℕ). N * 2 ^ l < k) (mul_right_comm (2 ^ suc p) D (2 ^ l) ∙ ap (λ (k : ℕ). k * D) (sym (pow-add 2 (suc p) l)))
      (mul-lt-mul_of_pos_right most (pow_pos l))) in
      let under : 2 ^ (p + l) ≤ N * 2 ^ l / D =
      (le-div_iff_mul-le D⁺).1 (subst (λ (k : ℕ). k ≤ N * 2 ^ l) (mul_right_comm (2 ^ p) D (2 ^ l) ∙ ap (λ (k : ℕ). k * D) (sym (pow-add 2 p l))) (mul-le-mul_right (2 ^ l) least)) in
      let most-digits = size-le (N * 2 ^ l / D) (suc p + l) above in
      let least-digits = no_less (N * 2 ^ l / D) (p + l) under in
      omega arith

rescale : (x : Float) (s : Bool) (q t : ℕ) → 0 < t → HasValue x s (q * t) t → HasValue x s q 1
rescale nan s q t T⁺ h = h
rescale (inf u) s q t T⁺ h = h
rescale (fin u m e) s q t T⁺ h =
    (h.0, mul-one (m * up e) ∙ eq_of_mul-eq-mul_right t T⁺ (m * up e) (q * down e) (h.1 ∙ mul_right_comm q t (down e)))

-- the nearest whole number to a fraction below 2 ^ 53 is at most that
closest-most : (N D M : ℕ) → 0 < D → N < M * D → closest N D ≤ M
closest-most N D M D⁺ h = le_trans (nearest-le (N / D) (compare (N % D * 2) D)) ((div-lt_iff_lt-mul D⁺).1 h)

pub rounds-whole : (s : Bool) (N D : ℕ) → 0 < D → 2 ^ 52 * D ≤ N → N < 2 ^ 53 * D → HasValue (round binary64 s N D) s (closest N D) 1
rounds-whole s N D D⁺ least most =
    let l = low binary64 in
    let same : closest (N * 2 ^ l) (D * 2 ^ l) ≡ closest N D =
    closest_same (N * 2 ^ l) (D * 2 ^ l) N D (mul-pos D⁺ (pow_pos l)) D⁺ (mul_assoc N (2 ^ l) D ∙ ap (λ (k : ℕ). N * k) (mul_comm (2 ^ l) D)) in
    let kept : size (N * 2 ^ l / D) - 53 ≡ l = let d = digits l 52 N D D⁺ least most in omega arith in
    subst (λ (z : Float). HasValue z s (closest N D) 1)
    (sym (round_is binary64 s N D ∙ ap (core binary64 s (N * 2 ^ l) D) kept ∙ ap (λ (q : ℕ). units binary64 s q l) same))
    (rescale (units binary64 s (closest N D) l) s (closest N D) (2 ^ l) (pow_pos l)
    (units_val binary64 s (closest N D) l (below_top (closest N D) l (closest-most N D (2 ^ 53) D⁺ most))))
  where
    below_top : (q l : ℕ) → q ≤ 2 ^ 53 → q * 2 ^ l < 2 ^ (l + 1024)
    below_top q l h =
        subst (λ (k : ℕ). q * 2 ^ l < k) (mul_comm (2 ^ 1024) (2 ^ l) ∙ sym (pow-add 2 l 1024))
        (mul-lt-mul_of_pos_right (lt_of_le_of_lt h (lit< tt)) (pow_pos l))

-- ---- taking 2 ^ 52 away again, exactly
sum_less : (s : Bool) (a b c : ℕ) → b ≤ a → sum binary64 s a (not s) b c ≡ round binary64 (s && ltb b a) (a - b) c
unfolding sum
sum_less true a b c h = rw (le-ltb a b h)
sum_less false a b c h = rw (le-ltb a b h)

-- the sign of what is left: s, unless nothing is
sign-left : (s b : Bool) {Q : Type 0} → (b ≡ false → Q) → Q ⊎ (s && b ≡ s)
sign-left true true k = inr refl
sign-left false true k = inr refl
sign-left true false k = inl (k refl)
sign-left false false k = inr refl

module _ (s : Bool) (a q E : ℕ) (E⁺ : 0 < E) (v : a ≡ q * E) (least : 2 ^ 52 ≤ q) (most : q ≤ 2 ^ 53) where
  no_more : 4503599627370496 * E ≤ a
  no_more = le_trans (mul-le-mul_right E least) (le_of_eq (sym v))

  left : (a - 4503599627370496 * E) * 1 ≡ (q - 4503599627370496) * (E * 1)
  left = omega (arith, v, mul-sub E q 4503599627370496, mul_comm E q, mul_comm E (q - 4503599627370496))

  less-far : HasValue (sum binary64 s a (not s) (4503599627370496 * E) (E * 1)) (s && ltb (4503599627370496 * E) a) (q - 4503599627370496) 1
  less-far =
      rw (
        sum_less s a (4503599627370496 * E) (E * 1) no_more,
        round_same binary64 (s && ltb (4503599627370496 * E) a) (a - 4503599627370496 * E) (E * 1) (q - 4503599627370496) 1 (omega arith) (lit< tt) left,
      )
      (round_whole binary64 (s && ltb (4503599627370496 * E) a) (q - 4503599627370496) (omega arith))

  far-sign : (q ≡ 4503599627370496) ⊎ (s && ltb (4503599627370496 * E) a ≡ s)
  far-sign =
      sign-left s (ltb (4503599627370496 * E) a)
      (λ h. le_antisymm (le_of_mul-le-mul_right (subst (λ (k : ℕ). k ≤ 4503599627370496 * E) v (ltb-false (4503599627370496 * E) a h)) E⁺) least)

-- ---- the round trip. M / E is the number's magnitude
compare-zero : (E : ℕ) → 0 < E → compare 0 E ≡ Ordering.lt
compare-zero zero h = absurd (lt_irrefl 0 h)
compare-zero (suc E) h = compare.zero-suc E

closest-exact : (k E : ℕ) → 0 < E → closest (k * E) E ≡ k
closest-exact k E E⁺ = rw (mul-div_cancel k E⁺, mul-mod_left k E, compare-zero E E⁺)

module _ (M E : ℕ) (E⁺ : 0 < E) where
  closest-least : 2 ^ 52 ≤ closest (M + 4503599627370496 * E) E
  closest-least = le_trans ((le-div_iff_mul-le E⁺).1 (omega arith)) (nearest-ge ((M + 4503599627370496 * E) / E) (compare ((M + 4503599627370496 * E) % E * 2) E))

  -- a whole number comes back
  whole_back : M % E ≡ 0 → (closest (M + 4503599627370496 * E) E - 4503599627370496) * E ≡ M
  whole_back h =
      let whole : M ≡ M / E * E = omega (arith, div-add-mod' M E) in
      let near : closest (M + 4503599627370496 * E) E ≡ M / E + 4503599627370496 =
      ap (λ (k : ℕ). closest k E) (ap (λ (k : ℕ). k + 4503599627370496 * E) whole ∙ sym (add-mul (M / E) 4503599627370496 E)) ∙ closest-exact (M / E + 4503599627370496) E E⁺ in
      ap (λ (k : ℕ). (k - 4503599627370496) * E) near ∙ ap (λ (k : ℕ). k * E) (add-sub_cancel (M / E) 4503599627370496) ∙ sym whole

-- a number of value r beside one of value M / E
eq-value : (z : Float) (t : Bool) (r : ℕ) (s : Bool) (m : ℕ) (e : ℤ) → HasValue z t r 1
    → eq z (fin s m e) ≡ (eqb (r * down e) (m * up e) && (beq t s || eqb r 0))
unfolding eq
eq-value nan t r s m e h = absurd h
eq-value (inf u) t r s m e h = absurd h
eq-value (fin u n d) t r s m e h =
    let value : n * up d ≡ r * down d = sym (mul-one (n * up d)) ∙ h.1 in
    rw (h.0, value, mul_right_comm r (down d) (down e), eqb-cancel (r * down e) (m * up e) (down d) (down_pos d), mul_assoc r (down e) (down d))
    (ap (λ (b : Bool). eqb (r * down e) (m * up e) && (beq t s || b))
    (ap (eqb (r * (down e * down d))) (sym (zero-mul (down e * down d))) ∙ eqb-cancel r 0 (down e * down d) (mul-pos (down_pos e) (down_pos d))))

-- what comes back is the number exactly when it is whole
same-or-none : (t s : Bool) (r : ℕ) → (r ≡ 0) ⊎ (t ≡ s) → beq t s || eqb r 0 ≡ true
same-or-none t s r (inl z) = ap (λ (k : ℕ). beq t s || eqb k 0) z ∙ or-true (beq t s)
  where
    or-true : (b : Bool) → b || true ≡ true
    or-true true = refl
    or-true false = refl
same-or-none t s r (inr p) = ap (λ (b : Bool). beq b s || eqb r 0) p ∙ beq-self s
  where
    beq-self : (s : Bool) → beq s s || eqb r 0 ≡ true
    beq-self true = refl
    beq-self false = refl

trip : (r M E : ℕ) (b : Bool) → b ≡ true → (M % E ≡ 0 → r * E ≡ M) → eqb (r * E) M && b ≡ eqb (M % E) 0
trip r M E b y k =
    rw y (bool-ext (eqb (r * E) M && true) (eqb (M % E) 0)
    (λ t. eq→eqb (ap (λ (n : ℕ). n % E) (sym (eqb→eq (r * E) M (and_l (eqb (r * E) M) true t))) ∙ mul-mod_left r E))
    (λ t. and_i (eqb (r * E) M) true (eq→eqb (k (eqb→eq (M % E) 0 t))) tt))

-- the sum of two numbers of one sign
sum_more : (s : Bool) (a b c : ℕ) → sum binary64 s a s b c ≡ round binary64 s (a + b) c
unfolding sum
sum_more true a b c = refl
sum_more false a b c = refl

module _ (s : Bool) (m : ℕ) (e : ℤ) (below : m * up e < 2 ^ 52 * down e) where
  abbrev q : ℕ
  q = closest (m * up e + 4503599627370496 * down e) (down e)

  small : q ≤ 2 ^ 53
  small = closest-most (m * up e + 4503599627370496 * down e) (down e) (2 ^ 53) (down_pos e) (omega arith)

  from : (u : Bool) (n : ℕ) (d : ℤ) → u ≡ s → n * up d * 1 ≡ q * down d → eq (add binary64 (fin u n d) (fin (not s) 1 (pos 52))) (fin s m e) ≡ eqb (m * up e % down e) 0
  unfolding add
  from u n d p v =
      let least = closest-least (m * up e) (down e) (down_pos e) in
      let t = s && ltb (4503599627370496 * down d) (n * up d * 1) in
      rw p
      (eq-value (sum binary64 s (n * up d * 1) (not s) (4503599627370496 * down d) (down d * 1)) t (q - 4503599627370496) s m e (less-far s (n * up d * 1) q (down d) (down_pos d) v least small)
      ∙ trip (q - 4503599627370496) (m * up e) (down e) (beq t s || eqb (q - 4503599627370496) 0)
      (same-or-none t s (q - 4503599627370496) (none_left (far-sign s (n * up d * 1) q (down d) (down_pos d) v least small)))
      (whole_back (m * up e) (down e) (down_pos e)))
    where
      none_left : {P : Type 0} → (q ≡ 4503599627370496) ⊎ P → (q - 4503599627370496 ≡ 0) ⊎ P
      none_left (inl z) = inl (omega arith)
      none_left (inr r) = inr r

  from-value : (y : Float) → HasValue y s q 1 → eq (add binary64 y (fin (not s) 1 (pos 52))) (fin s m e) ≡ eqb (m * up e % down e) 0
  from-value nan h = absurd h
  from-value (inf u) h = absurd h
  from-value (fin u n d) h = from u n d h.0 h.1

  pub there_and_back : eq (add binary64 (add binary64 (fin s m e) (fin s 1 (pos 52))) (fin (not s) 1 (pos 52))) (fin s m e) ≡ eqb (m * up e % down e) 0
  unfolding add
  there_and_back =
      rw (sum_more s (m * up e * 1) (4503599627370496 * down e) (down e * 1), mul-one (m * up e), mul-one (down e))
      (from-value (round binary64 s (m * up e + 4503599627370496 * down e) (down e))
      (rounds-whole s (m * up e + 4503599627370496 * down e) (down e) (down_pos e) (omega arith) (omega arith)))

-- ---- the three ways through the code. `far` is 2 ^ 52
abbrev pub far : Float
far = of_bits binary64 4841369599423283200

far-is : far ≡ fin false 1 (pos 52)
unfolding of_bits
far-is = refl

-- from 2 ^ 52 up a number of the format has no digits below the point
no-digits : (s : Bool) (m : ℕ) (e : ℤ) → T (fits binary64 (fin s m e)) → 4503599627370496 * down e ≤ m * up e → m * up e % down e ≡ 0
unfolding fits
no-digits s zero e f h = absurd (lt_irrefl 0 (lt_of_lt_of_le (down_pos e) (omega (arith, zero-mul (up e)))))
no-digits s (suc m) (pos k) f h = mod-one (suc m * 2 ^ k)
no-digits s (suc m) (negsuc k) f h =
    let odd = eqb (suc m % 2) 1 in
    let short = ltb (suc m) (2 ^ 53) in
    let fine = leb (2 ^ suc k) (2 ^ 1074) in
    let few : suc m < 2 ^ 53 = ltb→lt (suc m) (2 ^ 53) (and_r odd short (and_l (odd && short) fine (and_l (odd && short && fine) (ltb (suc m * 1) (2 ^ 1024 * 2 ^ suc k)) f))) in
    let two : 2 ^ 1 ≤ 2 ^ suc k = pow_mono {i = 1} {j = suc k} (omega arith) in
    absurd (omega arith)

-- the code's test of a magnitude a / c from 2 ^ 52 up, b being 2 ^ 52 * c
far-test : (s : Bool) (a b : ℕ) → (below s a true b || level s a true b) || (below false b s a || level false b s a) ≡ leb b a
far-test s a b = by-order (ltb b a) refl
  where
    more : (s : Bool) → b < a → (below s a true b || level s a true b) || (below false b s a || level false b s a) ≡ leb b a
    more true h = rw (lt-ltb b a h, le-leb b a (omega arith))
    more false h = rw (lt-ltb b a h, le-leb b a (omega arith), ne_eqb a b (λ p. omega arith))

    alike : (s : Bool) → a ≡ b → (below s a true b || level s a true b) || (below false b s a || level false b s a) ≡ leb b a
    alike true h = rw (h, le-ltb b b (omega arith), eq-eqb b b refl, le-leb b b (omega arith))
    alike false h = rw (h, le-ltb b b (omega arith), eq-eqb b b refl, le-leb b b (omega arith)) (either (eqb b 0))
      where
        either : (z : Bool) → z || true ≡ true
        either true = refl
        either false = refl

    less : (s : Bool) → a < b → (below s a true b || level s a true b) || (below false b s a || level false b s a) ≡ leb b a
    less true h = rw (le-ltb b a (omega arith), ne_eqb a b (λ p. omega arith), ne_eqb b a (λ p. omega arith), lt-leb b a h)
    less false h = rw (le-ltb b a (omega arith), ne_eqb a b (λ p. omega arith), ne_eqb b a (λ p. omega arith), lt-leb b a h)

    by-order : (l : Bool) → ltb b a ≡ l → (below s a true b || level s a true b) || (below false b s a || level false b s a) ≡ leb b a
    by-order true h = more s (ltb-true b a h)
    by-order false h = elim (eq-or-lt_of_le (ltb-false b a h)) [ inl p ↦ alike s p | inr p ↦ less s p ]

far-fin : (s : Bool) (m : ℕ) (e : ℤ) → le (fin s m e) (neg far) || le far (fin s m e) ≡ leb (4503599627370496 * down e) (m * up e)
unfolding le lt eq neg of_bits
far-fin s m e = far-test s (m * up e * 1) (4503599627370496 * down e) ∙ ap (leb (4503599627370496 * down e)) (mul-one (m * up e))

near : (s : Bool) (m : ℕ) (e : ℤ) → le (fin s m e) (neg far) || le far (fin s m e) ≡ false → m * up e < 4503599627370496 * down e
near s m e h = leb-false (4503599627370496 * down e) (m * up e) (sym (far-fin s m e) ∙ h)

pub far-whole : (x : Float) → T (fits binary64 x) → le x (neg far) || le far x ≡ true → finite x ≡ is_whole x
far-whole nan f h = refl
far-whole (inf s) f h = refl
far-whole (fin s m e) f h =
    sym (eq-eqb (m * up e % down e) 0 (no-digits s m e f (leb-true (4503599627370496 * down e) (m * up e) (sym (far-fin s m e) ∙ h))))

-- the minus zero, whose sum with 2 ^ 52 is that of two signs
minus-zero : (x : Float) → x ≡ fin true 0 (pos 0) → eq (sub binary64 (add binary64 x far) far) x ≡ is_whole x
unfolding eq sub add of_bits
minus-zero x p = rw p

not-positive : (m : ℕ) (e : ℤ) → ltb 0 (m * up e * 1 + 0 * down e) ≡ false → m * up e ≡ 0
not-positive m e h = let l = ltb-false 0 (m * up e * 1 + 0 * down e) h in omega arith

pub below-zero : (x : Float) → le x (neg far) || le far x ≡ false → lt x (of_bits binary64 0) ≡ true → eq (add binary64 (sub binary64 x far) far) x ≡ is_whole x
unfolding le lt eq neg of_bits sub
below-zero nan h l = absurd (false≢true l)
below-zero (inf true) h l = absurd (true≢false h)
below-zero (inf false) h l = absurd (false≢true l)
below-zero (fin false m e) h l = absurd (not-lt-zero (ltb-true (m * up e * 1) (0 * down e) l))
  where
    not-lt-zero : {n : ℕ} → n < 0 * down e → ⊥
    not-lt-zero h = omega (arith, zero-mul (down e), h)
below-zero (fin true m e) h l = there_and_back true m e (near true m e h)

pub from_zero : (x : Float) → T (fits binary64 x) → le x (neg far) || le far x ≡ false → lt x (of_bits binary64 0) ≡ false → eq (sub binary64 (add binary64 x far) far) x ≡ is_whole x
unfolding le lt eq neg of_bits sub add fits
from_zero nan f h l = refl
from_zero (inf true) f h l = absurd (true≢false l)
from_zero (inf false) f h l = absurd (true≢false h)
from_zero (fin false m e) f h l = there_and_back false m e (near false m e h)
from_zero (fin true m e) f h l =
    minus-zero (fin true m e) (whole_unique binary64 (fin true m e) (fin true 0 (pos 0)) true 0 f tt (refl, omega (arith, not-positive m e l)) (refl, refl))
