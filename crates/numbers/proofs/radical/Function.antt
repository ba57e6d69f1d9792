-- The function `root` gives the nearest number. Assumes nothing.
use Prim.Native.Nat.{ℕ, zero, suc, ◌+◌, ◌-◌, ◌*◌, ◌/◌, ◌^◌, ◌≤◌, ◌<◌}
use native.Mathlib.Omega.{arith}
use native.Mathlib.Nat.{mul-le-mul_right, le_of_mul-le-mul_right, lt_of_mul-lt-mul_right, le_trans, le_of_lt, not-le_of_lt, lt_of_lt_of_le, lt_of_le_of_lt, mul_assoc, mul-pos, mul-div_cancel}
use mathlib.Core.Path.{◌≡◌, refl, sym, ap, ◌∙◌, subst}
use mathlib.Core.Bool.{Bool, true, false, cond}
use borrow.Author.Tests.{ltb-true, ltb-false}
use lib.Dec.{T, ltb}
use lib.Pow.{pow-add, pow_pos, pow-lt, pow_mono, shl_lt}
use lib.Ieee.{Float, nan, inf, fin, binary64, down, fits, size, units, odd, lt, to_bits}
use lib.Ieee.Scale.{finite}
use lib.Ieee.Digits.{size-lt, size_reaches, size-le}
use lib.Ieee.Exact.{units_val}
use lib.Ieee.Fits.{odd-fits, cond-fits, inf-fits, down_pos}
use Rattle.numbers.specs.Signs.{zero64, Zero}
use Rattle.numbers.specs.Radical.Contract.Steps.{units_of}
use Rattle.numbers.specs.Radical.Root.{Counts, IsRoot, whole_root, round_root, dropped, root_of, root}
use Rattle.numbers.proofs.radical.Squares.{by-order, split, Largest, rest, long, short, whole-root}
use Rattle.numbers.proofs.radical.Counting.{Short, short-count, counts_some, counts-none}
use Rattle.numbers.proofs.radical.Nearest.{Cut, middle, low-side, high-side, nearest-down, nearest-up}
use Rattle.numbers.proofs.radical.Patterns.{positive-bits, number-count, units_small}

-- ---- how many digits n * 2 ^ l has, and how many are dropped; l is 1074, which is better not written out here

module _ (n l : ℕ) (some : 0 < n) (w : Short n) (lo : l ≡ 1074) where
  abbrev k : ℕ
  k = dropped n

  counted : 0 < size n
  counted = go (size n) (size-lt n)
    where
      go : (z : ℕ) → n < 2 ^ z → 0 < z
      go zero h = absurd (omega arith)
      go (suc z) h = omega arith

  least : 2 ^ (size n - 1) ≤ n
  least = size_reaches n (size n - 1) (omega (arith, counted))

  most : size n ≤ 53 + w.i
  most = size-le n (53 + w.i) (subst (λ (z : ℕ). z < 2 ^ (53 + w.i)) (sym w.is) (shl_lt 53 w.i w.few))

  -- twice what is dropped, and 105 or 106, are the digits of n times 2 ^ l
  even-low : k + k + 104 ≤ size n - 1 + l
  even-low = omega (arith, counted, lo)

  even-high : size n + l ≤ k + k + 106
  even-high = omega (arith, counted, lo)

  abbrev kept : ℕ
  kept = w.m * 2 ^ (w.i + l - (k + k))

  exactly : n * 2 ^ l ≡ kept * (2 ^ k * 2 ^ k)
  exactly =
      ap (λ (z : ℕ). z * 2 ^ l) w.is
      ∙ mul_assoc w.m (2 ^ w.i) (2 ^ l)
      ∙ ap (λ (z : ℕ). w.m * z)
      (sym (pow-add 2 w.i l) ∙ split (w.i + l) (k + k) (omega (arith, even-low, most, lo)) ∙ ap (λ (z : ℕ). 2 ^ (w.i + l - (k + k)) * z) (pow-add 2 k k))
      ∙ sym (mul_assoc w.m (2 ^ (w.i + l - (k + k))) (2 ^ k * 2 ^ k))

  divided : n * 2 ^ l / (2 ^ k * 2 ^ k) ≡ kept
  divided = ap (λ (z : ℕ). z / (2 ^ k * 2 ^ k)) exactly ∙ mul-div_cancel kept (mul-pos (pow_pos k) (pow_pos k))

  apart : (j : ℕ) → 2 ^ (j + (k + k)) ≡ 2 ^ j * (2 ^ k * 2 ^ k)
  apart j = pow-add 2 j (k + k) ∙ ap (λ (z : ℕ). 2 ^ j * z) (pow-add 2 k k)

  at_least : 2 ^ 104 ≤ kept
  at_least =
      let a : 2 ^ (104 + (k + k)) ≤ 2 ^ (size n - 1 + l) = pow_mono (omega (arith, even-low)) in
      let b : 2 ^ (size n - 1 + l) ≤ n * 2 ^ l = rw (pow-add 2 (size n - 1) l) (mul-le-mul_right (2 ^ l) least) in
      let c : 2 ^ (104 + (k + k)) ≤ n * 2 ^ l = le_trans a b in
      le_of_mul-le-mul_right {k = 2 ^ k * 2 ^ k} (rw (apart 104, exactly) at c) (mul-pos (pow_pos k) (pow_pos k))

  at_most : kept < 2 ^ 106
  at_most =
      let a : n * 2 ^ l < 2 ^ (106 + (k + k)) = lt_of_lt_of_le (shl_lt (size n) l (size-lt n)) (pow_mono (omega (arith, even-high))) in
      lt_of_mul-lt-mul_right (2 ^ k * 2 ^ k) (rw (apart 106, exactly) at a)

-- ---- rounding

units-count : (q k : ℕ) → q ≤ 2 ^ 53 → k < 2000 → Counts (units binary64 false q k) (q * 2 ^ k)
unfolding units
units-count q k h b = record {
  holds = cond-fits binary64 (ltb (q * 2 ^ k) (2 ^ 2098)) (odd 54 false q k 1074) (inf false) (odd-fits binary64 54 false q k (omega arith) h small) (inf-fits binary64 false);
  value = units_val binary64 false q k small;
}
  where
    small : q * 2 ^ k < 2 ^ 2098
    small = lt_of_le_of_lt (mul-le-mul_right (2 ^ k) h) (subst (λ (z : ℕ). z < 2 ^ 2098) (pow-add 2 53 k) (pow-lt {i = 53 + k} {j = 2098} (omega arith)))

-- by the side of the middle that the definition asks for
module _ (v : Float) (n : ℕ) (c : Counts v n) {M q rem k : ℕ} (cut : Cut (n * 2 ^ 1074) M q rem k) (few : q < 2 ^ 53) (low : k < 2000) where
  picked : IsRoot v (units binary64 false (round_root (n * 2 ^ 1074) k q) k)
  picked = go (ltb (middle q k) (4 * (n * 2 ^ 1074))) refl
    where
      go : (t : Bool) → ltb (middle q k) (4 * (n * 2 ^ 1074)) ≡ t → IsRoot v (units binary64 false (cond t (q + 1) q) k)
      go true e = by-order rem q
          (λ l. absurd (not-le_of_lt (low-side cut l) (le_of_lt (ltb-true _ _ e))))
          (λ l. nearest-up v (units binary64 false (q + 1) k) n c cut l (units-count (q + 1) k (omega arith) low))
      go false e = by-order rem q
          (λ l. nearest-down v (units binary64 false q k) n c cut l (units-count q k (omega arith) low))
          (λ l. absurd (not-le_of_lt (high-side cut l) (ltb-false _ _ e)))

small-drop : (n : ℕ) → n < 2 ^ 2098 → dropped n < 2000
small-drop n h = let s = size-le n 2098 h in omega arith

pub root-of : (v : Float) (n : ℕ) → Counts v n → 0 < n → n < 2 ^ 2098 → IsRoot v (root_of n)
unfolding root_of
root-of v n c some small =
    let w = short-count v n c in
    let M = kept n 1074 some w refl in
    let q = whole_root 53 M in
    let r : Largest M q = whole-root 53 M (at_most n 1074 some w refl) in
    let cut : Cut (n * 2 ^ 1074) M q (M - q * q) (dropped n) =
    record { whole = exactly n 1074 some w refl; square = (rest r).0; left = (rest r).1; long = long M q r (at_least n 1074 some w refl) } in
    subst (λ (z : ℕ). IsRoot v (units binary64 false (round_root (n * 2 ^ 1074) (dropped n) (whole_root 53 z)) (dropped n))) (sym (divided n 1074 some w refl))
    (picked v n c cut (short M q r (at_most n 1074 some w refl)) (small-drop n small))

-- ---- of every number above zero

root_is : (v : Float) (n : ℕ) → Counts v n → 0 < n → root v ≡ root_of n
unfolding root
root_is nan n c some = absurd c.value
root_is (inf s) n c some = absurd c.value
root_is (fin s zero e) n c some = absurd (omega (arith, some, counts-none s n e c))
root_is (fin s (suc m) e) n c some = ap root_of (ap (λ (z : ℕ). z / down e) c.value.1 ∙ mul-div_cancel n (down_pos e))

pub root-nearest : (v : Float) → T (fits binary64 v) → T (finite v) → lt v zero64 ≡ false → (Zero v → ⊥) → IsRoot v (root v)
root-nearest v fv f l z =
    let b = positive-bits v fv f l z in
    let n = units_of (to_bits binary64 v) in
    let c = number-count v fv b.1 in
    let some = counts_some v n c z in
    subst (IsRoot v) (sym (root_is v n c some)) (root-of v n c some (units_small (to_bits binary64 v) b.1))
