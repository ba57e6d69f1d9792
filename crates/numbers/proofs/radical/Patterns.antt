-- The number that a pattern of bits stands for, in units of the smallest one. Assumes nothing.
use Prim.Native.Nat.{ℕ, zero, suc, ◌+◌, ◌-◌, ◌*◌, ◌/◌, ◌%◌, ◌^◌, ◌≤◌, ◌<◌}
use native.Mathlib.Omega.{arith}
use native.Mathlib.Nat.{mod-eq_of_lt, mul-one, lt_of_lt_of_le}
use mathlib.Core.Path.{◌≡◌, refl, sym, ap, ◌∙◌, subst}
use mathlib.Core.Bool.{Bool, true, false, not}
use borrow.Author.Tests.{le-ltb, lt-leb, ne_eqb, eqb-false, ltb-false, leb-false, not-true}
use lib.Dec.{T, leb, ltb}
use lib.Pow.{pow_mono, shl_lt}
use lib.Ieee.{Float, is_nan, nan_bits, nan, inf, fin, up, down, binary64, odd, of_fields, of_bits, to_bits, fits, lt, eq, le}
use lib.Ieee.Bits.{is_true, nan_bits_above, of_bits-fits, of_bits-to_bits}
use lib.Ieee.Exact.{HasValue, odd_sign}
use lib.Ieee.Scale.{finite}
use Rattle.numbers.specs.Signs.{zero64, Zero}
use Rattle.numbers.proofs.Bits.{finite-bits, zero_bits}
use Rattle.numbers.proofs.Zeros.{zero_of}
use Rattle.numbers.specs.Radical.Root.{Counts}
use Rattle.numbers.specs.Radical.Contract.Steps.{by_field, units_of}

field-value : (s : Bool) (x t : ℕ) → x < 2047 → HasValue (of_fields binary64 s x t) s (by_field x t) (2 ^ 1074)
unfolding of_fields
field-value s zero t h = subst (λ (n : ℕ). HasValue (odd 53 s t 0 1074) s n (2 ^ 1074)) (mul-one t) (odd_sign 53 s t 0 1074)
field-value s (suc x) t h = rw (ne_eqb (suc x) 2047 (λ e. omega arith)) (odd_sign 53 s (2 ^ 52 + t) x 1074)

bits-value : (b : ℕ) → b % 2 ^ 63 / 2 ^ 52 < 2047 → HasValue (of_bits binary64 b) (leb (2 ^ 63) b) (units_of (b % 2 ^ 63)) (2 ^ 1074)
unfolding of_bits units_of
bits-value b h =
    let e : b % 2 ^ 63 % 2 ^ 52 ≡ b % 2 ^ 52 = omega arith in
    rw e (field-value (leb (2 ^ 63) b) (b % 2 ^ 63 / 2 ^ 52) (b % 2 ^ 52) h)

pub bits-count : (b : ℕ) → b < 2047 * 2 ^ 52 → Counts (of_bits binary64 b) (units_of b)
bits-count b h =
    let l : leb (2 ^ 63) b ≡ false = lt-leb (2 ^ 63) b (omega arith) in
    let m : b % 2 ^ 63 ≡ b = mod-eq_of_lt (omega arith) in
    record { holds = of_bits-fits binary64 b; value = rw (l, m) at (bits-value b (omega arith)) }

pub units_small : (b : ℕ) → b < 2047 * 2 ^ 52 → units_of b < 2 ^ 2098
unfolding units_of
units_small b h = go (b / 2 ^ 52) (b % 2 ^ 52) (omega arith) (omega arith)
  where
    go : (f t : ℕ) → f < 2047 → t < 2 ^ 52 → by_field f t < 2 ^ 2098
    go zero t h l = lt_of_lt_of_le l (pow_mono {i = 52} {j = 2098} (omega arith))
    go (suc x) t h l = lt_of_lt_of_le (shl_lt 53 x (omega arith)) (pow_mono {i = 53 + x} {j = 2098} (omega arith))

-- ---- a number above zero

field-small : (b : ℕ) → T (finite (of_bits binary64 b)) → b % 2 ^ 63 / 2 ^ 52 < 2047
field-small b f =
    let n : b % 2 ^ 63 / 2 ^ 52 ≡ 2047 → ⊥ = eqb-false (b % 2 ^ 63 / 2 ^ 52) 2047 (not-true _ (sym (finite-bits b) ∙ is_true (finite (of_bits binary64 b)) f)) in
    omega arith

negative : (v : Float) (n c : ℕ) → HasValue v true n c → lt v zero64 ≡ false → Zero v
unfolding lt of_bits
negative (fin false m e) n c h l = absurd (subst T (sym h.0) tt)
negative (fin true m e) n c h l = go (m * up e) l
  where
    go : (k : ℕ) → ltb 0 (k * 1 + 0 * down e) ≡ false → k ≡ 0
    go k i = omega (arith, ltb-false 0 (k * 1 + 0 * down e) i)
negative nan n c h l = elim h [ ]
negative (inf _) n c h l = elim h [ ]

bits_above : (b : ℕ) (s : Bool) → leb (2 ^ 63) b ≡ s → T (finite (of_bits binary64 b)) → lt (of_bits binary64 b) zero64 ≡ false → (Zero (of_bits binary64 b) → ⊥)
    → (0 < b) × (b < 2047 * 2 ^ 52)
bits_above b true e f l z = absurd (z (negative (of_bits binary64 b) (units_of (b % 2 ^ 63)) (2 ^ 1074) (rw e at (bits-value b (field-small b f))) l))
bits_above b false e f l z = let low = leb-false (2 ^ 63) b e in (some b refl, omega (arith, field-small b f))
  where
    some : (k : ℕ) → b ≡ k → 0 < b
    some zero i = absurd (z (subst (λ (k : ℕ). Zero (of_bits binary64 k)) (sym i) (zero_of (of_bits binary64 0) false zero_bits)))
    some (suc k) i = omega (arith, i)

pub positive-bits : (x : Float) → T (fits binary64 x) → T (finite x) → lt x zero64 ≡ false → (Zero x → ⊥) → (0 < to_bits binary64 x) × (to_bits binary64 x < 2047 * 2 ^ 52)
positive-bits x fx f l z =
    let e = of_bits-to_bits binary64 x fx in
    let b = to_bits binary64 x in
    bits_above b (leb (2 ^ 63) b) refl (subst (λ (y : Float). T (finite y)) (sym e) f) (ap (λ (y : Float). lt y zero64) e ∙ l) (λ w. z (subst Zero e w))

-- a number is as many of the smallest ones as its bits say
pub number-count : (x : Float) → T (fits binary64 x) → to_bits binary64 x < 2047 * 2 ^ 52 → Counts x (units_of (to_bits binary64 x))
number-count x fx h = subst (λ (y : Float). Counts y (units_of (to_bits binary64 x))) (of_bits-to_bits binary64 x fx) (bits-count (to_bits binary64 x) h)

-- ---- the bits of q * 2 ^ k

pub units_of_lem : (k q : ℕ) → 2 ^ 52 ≤ q → q < 2 ^ 53 → units_of (k * 2 ^ 52 + q) ≡ q * 2 ^ k
unfolding units_of
units_of_lem k q h l =
    let d : (k * 2 ^ 52 + q) / 2 ^ 52 ≡ suc k = omega arith in
    let r : (k * 2 ^ 52 + q) % 2 ^ 52 ≡ q - 2 ^ 52 = omega arith in
    let s : 2 ^ 52 + (q - 2 ^ 52) ≡ q = omega arith in
    (λ i. by_field (d i) (r i)) ∙ ap (λ (z : ℕ). z * 2 ^ k) s

-- ---- no NaNs

pub le-no-nan : (x y : Float) → le x y ≡ true → T (not (is_nan y))
unfolding le lt eq is_nan
le-no-nan nan nan e = absurd (subst T (sym e) tt)
le-no-nan (inf s) nan e = absurd (subst T (sym e) tt)
le-no-nan (fin s m d) nan e = absurd (subst T (sym e) tt)
le-no-nan x (inf s) e = tt
le-no-nan x (fin s m d) e = tt

pub no-nan-bits : (b : ℕ) → b < 2047 * 2 ^ 52 → T (not (nan_bits binary64 b))
no-nan-bits b h =
    let m : b % 2 ^ 63 ≡ b = mod-eq_of_lt (omega arith) in
    let e : nan_bits binary64 b ≡ false = nan_bits_above binary64 b ∙ ap (ltb (2047 * 2 ^ 52)) m ∙ le-ltb (2047 * 2 ^ 52) b (omega arith) in
    subst (λ (t : Bool). T (not t)) (sym e) tt
