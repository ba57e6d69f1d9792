-- The tests of `small_whole` and of `below_epsilon` say what the definitions say. Assumes nothing.
use Prim.Native.Nat.{ℕ, zero, suc, ◌+◌, ◌*◌, ◌/◌, ◌%◌, ◌^◌, ◌≤◌, ◌<◌}
use mathlib.Core.Path.{◌≡◌, refl, sym, ap, ◌∙◌}
use mathlib.Core.Logic.{inl, inr}
use mathlib.Core.Bool.{Bool, true, false, not, ◌&&◌, ◌||◌, beq, cond, false≢true}
use native.Mathlib.Omega.{arith}
use native.Mathlib.Nat.{le_trans, le_of_eq, le_of_mul-le-mul_right, div-mul-le_self, div-add-mod', mul-le-mul_right, mul-one, zero-mul, zero-div, zero-mod, le_of_lt, eq-or-lt_of_le, lt_of_le_of_lt}
use borrow.Author.Tests.{lt-ltb, eq-eqb, eqb-true, eqb-false, le-leb}
use lib.Dec.{T, leb, ltb, eqb, leb→le, le→leb, ltb→lt, lt→ltb, eqb→eq, lit<, lit≤}
use lib.IntN.{ℤ}
use lib.Ieee.{Float, nan, inf, fin, binary64, up, down, lt, le, eq, neg, below, level, of_bits, in_unsigned, to_unsigned, whole}
use lib.Ieee.Fits.{down_pos, eq→eqb, and_i, and_l, and_r}
use lib.Ieee.Casts.{to_unsigned_cut}
use Rattle.std.specs.Prelude.{Option, Some, None}
use Rattle.numbers.specs.Constants.{epsilon}
use Rattle.numbers.specs.Numbers.{is_whole, small_whole, below_epsilon}
use Rattle.numbers.proofs.Bools.{bool-ext, and-true, and-false, or_cases, or_left, or_right}

abbrev zero64 : Float
zero64 = of_bits binary64 0

abbrev sixty-four : Float
sixty-four = of_bits binary64 4634204016564240384

-- a number equal to 0 has no digits, and one that isn't has some
no-digits : (s : Bool) (m : ℕ) (e : ℤ) → eq (fin s m e) zero64 ≡ eqb (m * up e) 0
unfolding eq of_bits
no-digits s m e = bool-ext _ _ (λ t. eq→eqb {a = m * up e} {b = 0} (digits t)) (λ t. back (eqb→eq (m * up e) 0 t))
  where
    digits : T (level s (m * up e * 1) false (0 * down e)) → m * up e ≡ 0
    digits t = let z = eqb→eq (m * up e * 1) (0 * down e) (and_l (eqb (m * up e * 1) (0 * down e)) (beq s false || eqb (m * up e * 1) 0) t) in omega (arith, zero-mul (down e))

    either : (b : Bool) → T (b || true)
    either true = tt
    either false = tt

    back : m * up e ≡ 0 → T (level s (m * up e * 1) false (0 * down e))
    back z = rw (z, zero-mul (down e)) (either (beq s false))

-- both zeros are the whole number 0
pub small-zero : (x : Float) → eq x zero64 ≡ true → small_whole x ≡ Some 0
unfolding eq small_whole of_bits
small-zero nan h = absurd (false≢true h)
small-zero (inf s) h = absurd (false≢true h)
small-zero (fin s m e) h =
    rw (eqb-true (m * up e) 0 (sym (no-digits s m e) ∙ h), zero-mod (down e), zero-div (down e)) (either s)
  where
    either : (s : Bool) → cond {A = Option ℕ} (not s || true) (Some 0) None ≡ Some 0
    either true = refl
    either false = refl

-- what the code tests, and the whole part of a number
abbrev pub tested : Float → Bool
tested x = is_whole x && lt zero64 x && le x sixty-four

-- a comparison of two numbers that are not negative
at_most : (a b : ℕ) → below false a false b || level false a false b ≡ leb a b
at_most a b =
    bool-ext (ltb a b || (eqb a b && true)) (leb a b)
    (λ t. elim (or_cases (ltb a b) (eqb a b && true) t) [ inl l ↦ le→leb a b (le_of_lt (ltb→lt a b l)) | inr l ↦ le→leb a b (le_of_eq (eqb→eq a b (and_l (eqb a b) true l))) ])
    (λ t. elim (eq-or-lt_of_le (leb→le a b t)) [ inl l ↦ or_right (ltb a b) (eqb a b && true) (and_i (eqb a b) true (eq→eqb l) tt) | inr l ↦ or_left (ltb a b) (eqb a b && true) (lt→ltb a b l) ])

-- the code's test of a number with a minus sign, and of one without
tested-minus : (m : ℕ) (e : ℤ) → tested (fin true m e) ≡ false
unfolding lt of_bits
tested-minus m e = rw (and-false (eqb (m * up e % down e) 0))

tested-plus : (m : ℕ) (e : ℤ) → tested (fin false m e) ≡ (eqb (m * up e % down e) 0 && ltb 0 (m * up e) && leb (m * up e) (64 * down e))
unfolding lt le eq of_bits
tested-plus m e = rw (at_most (m * up e * 1) (64 * down e), mul-one (m * up e), zero-mul (down e))

-- M / E, whole, against 64
whole-most : (M E : ℕ) → 0 < E → M % E ≡ 0 → M ≤ 64 * E → M / E ≤ 64
whole-most M E E⁺ w h = le_of_mul-le-mul_right (le_trans (div-mul-le_self M E) h) E⁺

most-whole : (M E : ℕ) → M % E ≡ 0 → M / E ≤ 64 → M ≤ 64 * E
most-whole M E w h = le_trans (omega (arith, div-add-mod' M E)) (mul-le-mul_right E h)

-- what the code's test says
record Passed (m : ℕ) (e : ℤ) : Type 0 where
  whole_part : m * up e % down e ≡ 0
  above : 0 < m * up e
  most : m * up e / down e ≤ 64

passed : (m : ℕ) (e : ℤ) → T (eqb (m * up e % down e) 0 && ltb 0 (m * up e) && leb (m * up e) (64 * down e)) → Passed m e
passed m e t =
    let w = eqb (m * up e % down e) 0 in
    let p = ltb 0 (m * up e) in
    let i = and_l (w && p) (leb (m * up e) (64 * down e)) t in
    let z = eqb→eq (m * up e % down e) 0 (and_l w p i) in
    record {
      whole_part = z;
      above = ltb→lt 0 (m * up e) (and_r w p i);
      most = whole-most (m * up e) (down e) (down_pos e) z (leb→le (m * up e) (64 * down e) (and_r (w && p) (leb (m * up e) (64 * down e)) t));
    }

-- the code's test and the definition's agree on what is not 0
small_same : (s : Bool) (m : ℕ) (e : ℤ) → eq (fin s m e) zero64 ≡ false
    → tested (fin s m e) ≡ (is_whole (fin s m e) && leb (m * up e / down e) 64 && (not s || eqb (m * up e) 0))
small_same true m e z = rw (tested-minus m e, sym (no-digits true m e) ∙ z, and-false (eqb (m * up e % down e) 0 && leb (m * up e / down e) 64))
small_same false m e z =
    let w = eqb (m * up e % down e) 0 in
    let above : 0 < m * up e = pos-of-ne (m * up e) (eqb-false (m * up e) 0 (sym (no-digits false m e) ∙ z)) in
    tested-plus m e
    ∙ bool-ext (w && ltb 0 (m * up e) && leb (m * up e) (64 * down e)) (w && leb (m * up e / down e) 64 && true)
    (λ t. let p = passed m e t in and_i (w && leb (m * up e / down e) 64) true (and_i w (leb (m * up e / down e) 64) (eq→eqb p.whole_part) (le→leb (m * up e / down e) 64 p.most)) tt)
    (λ t.
    let i = and_l (w && leb (m * up e / down e) 64) true t in
    let y = and_l w (leb (m * up e / down e) 64) i in
    and_i (w && ltb 0 (m * up e)) (leb (m * up e) (64 * down e)) (and_i w (ltb 0 (m * up e)) y (lt→ltb 0 (m * up e) above))
    (le→leb (m * up e) (64 * down e) (most-whole (m * up e) (down e) (eqb→eq (m * up e % down e) 0 y) (leb→le (m * up e / down e) 64 (and_r w (leb (m * up e / down e) 64) i)))))
  where
    pos-of-ne : (n : ℕ) → (n ≡ 0 → ⊥) → 0 < n
    pos-of-ne zero h = absurd (h refl)
    pos-of-ne (suc n) h = omega arith

pub small-other : (x : Float) → eq x zero64 ≡ false → tested x ≡ false → None ≡ small_whole x
unfolding small_whole
small-other nan z h = refl
small-other (inf s) z h = refl
small-other (fin s m e) z h = rw (sym (small_same s m e z) ∙ h)

pub small-cast : (x : Float) → tested x ≡ true → T (in_unsigned binary64 64 x)
unfolding in_unsigned whole
small-cast nan h = absurd (false≢true h)
small-cast (inf s) h = absurd (false≢true h)
small-cast (fin true m e) h = absurd (false≢true (sym (tested-minus m e) ∙ h))
small-cast (fin false m e) h =
    let p = passed m e (rw (sym (tested-plus m e) ∙ h) tt) in
    rw (eq-eqb (m * up e % down e) 0 p.whole_part, le-leb (m * up e / down e) (2 ^ 53) (le_trans p.most (lit≤ tt)))
    (lt→ltb (m * up e / down e) (2 ^ 64) (lt_of_le_of_lt p.most (lit< tt)))

pub small_is : (x : Float) → eq x zero64 ≡ false → tested x ≡ true → Some (to_unsigned 64 x) ≡ small_whole x
unfolding small_whole
small_is nan z h = absurd (false≢true h)
small_is (inf s) z h = absurd (false≢true h)
small_is (fin s m e) z h = rw (sym (small_same s m e z) ∙ h) (ap Some (to_unsigned_cut binary64 64 s m e (small-cast (fin s m e) h)))

-- |x| < 2^-52, asked on both sides of 0
pub epsilon-test : (x : Float) → lt (neg epsilon) x && lt x epsilon ≡ below_epsilon x
unfolding lt neg of_bits below_epsilon
epsilon-test nan = refl
epsilon-test (inf true) = refl
epsilon-test (inf false) = refl
epsilon-test (fin true m e) = rw (lt-ltb 0 (m * up e * 4503599627370496 + 1 * down e) (omega (arith, down_pos e))) (and-true (ltb (m * up e * 4503599627370496) (1 * down e)))
epsilon-test (fin false m e) = rw (lt-ltb 0 (1 * down e + m * up e * 4503599627370496) (omega (arith, down_pos e)))
