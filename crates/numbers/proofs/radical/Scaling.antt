-- Digits moved up, taken once or twice, and put together again as the bits of a root. Assumes nothing.
use Prim.Native.Nat.{ℕ, zero, suc, ◌+◌, ◌-◌, ◌*◌, ◌/◌, ◌%◌, ◌^◌, ◌≤◌, ◌<◌}
use native.Mathlib.Omega.{arith}
use native.Mathlib.Nat.{mul-le-mul_left, mul-le-mul_right, lt_of_le_of_lt, mul_assoc, mul-one, one-mul, pow-succ'}
use mathlib.Core.Logic.{⊎_elim}
use mathlib.Core.Path.{◌≡◌, sym, ap, ◌∙◌, subst}
use lib.Pow.{pow-add, shl_lt}
use lib.Ieee.{Float, binary64, of_bits}
use Rattle.numbers.specs.Radical.Root.{Counts, IsRoot}
use Rattle.numbers.specs.Radical.Contract.Steps.{by_field, units_of, Rounds}
use Rattle.numbers.proofs.radical.Squares.{pow-back, sq-back, largest, short}
use Rattle.numbers.proofs.radical.Nearest.{Cut, nearest-down, nearest-up}
use Rattle.numbers.proofs.radical.Patterns.{bits-count, units_of_lem}

-- a number of fewer than j digits needs the higher power
pub above : (d p m n j : ℕ) → d * 2 ^ p ≡ m * 2 ^ n → 0 < m → d < 2 ^ j → n < j + p
above d p m n j e pos h =
    let least : 2 ^ n ≤ m * 2 ^ n = subst (λ (z : ℕ). z ≤ m * 2 ^ n) (one-mul (2 ^ n)) (mul-le-mul_right (2 ^ n) pos) in
    pow-back n (j + p) (lt_of_le_of_lt (rw (← e) at least) (shl_lt j p h))

pub doubled : (d p q N : ℕ) → p ≡ suc q → d * 2 ^ p ≡ N → d * 2 * 2 ^ q ≡ N
doubled d p q N e h = mul_assoc d 2 (2 ^ q) ∙ ap (λ (z : ℕ). d * z) (sym (pow-succ' 2 q)) ∙ ap (λ (z : ℕ). d * 2 ^ z) (sym e) ∙ h

-- ---- by the exponent's field

pub units-none : (b : ℕ) → b / 2 ^ 52 ≡ 0 → units_of b ≡ b % 2 ^ 52
unfolding units_of
units-none b e = ap (λ (f : ℕ). by_field f (b % 2 ^ 52)) e

module _ (l : ℕ) where
  joined : (n x p : ℕ) → p ≡ x + l → n * 2 ^ p ≡ n * 2 ^ x * 2 ^ l
  joined n x p e = ap (λ (k : ℕ). n * 2 ^ k) e ∙ ap (λ (k : ℕ). n * k) (pow-add 2 x l) ∙ sym (mul_assoc n (2 ^ x) (2 ^ l))

  by_field_lem : (t f p : ℕ) → 0 < f → p + 1 ≡ f + l → (2 ^ 52 + t) * 2 ^ p ≡ by_field f t * 2 ^ l
  by_field_lem t zero p h e = absurd (omega arith)
  by_field_lem t (suc x) p h e = joined (2 ^ 52 + t) x p (omega arith)

pub units-some : (b p : ℕ) → 0 < b / 2 ^ 52 → p + 1 ≡ b / 2 ^ 52 + 1074 → (2 ^ 52 + b % 2 ^ 52) * 2 ^ p ≡ units_of b * 2 ^ 1074
unfolding units_of
units-some b p h e = by_field_lem 1074 (b % 2 ^ 52) (b / 2 ^ 52) p h e

-- ---- the digits once or twice

pub times-least : (d odd : ℕ) → 2 ^ 52 ≤ d → 2 ^ 52 ≤ d * (odd + 1)
times-least d odd h = let l : d * 1 ≤ d * (odd + 1) = mul-le-mul_left d (omega arith) in omega arith

pub times-most : (d odd : ℕ) → d < 2 ^ 53 → odd < 2 → d * (odd + 1) ≤ 2 ^ 54 - 2
times-most d odd h l = let u : d * (odd + 1) ≤ d * 2 = mul-le-mul_left d (omega arith) in omega arith

-- the digits taken twice make an odd power even
pub evened : (d p k odd N : ℕ) → odd < 2 → p ≡ 52 + odd + (k + k) → d * 2 ^ p ≡ N → N ≡ d * (odd + 1) * 2 ^ 52 * (2 ^ k * 2 ^ k)
evened d p k odd N h e i =
    sym i
    ∙ ap (λ (z : ℕ). d * 2 ^ z) e
    ∙ ap (λ (z : ℕ). d * z) (pow-add 2 (52 + odd) (k + k) ∙ ap (λ (z : ℕ). 2 ^ (52 + odd) * z) (pow-add 2 k k))
    ∙ sym (mul_assoc d (2 ^ (52 + odd)) (2 ^ k * 2 ^ k))
    ∙ ap (λ (z : ℕ). z * (2 ^ k * 2 ^ k)) (twice odd h)
  where
    twice : (o : ℕ) → o < 2 → d * 2 ^ (52 + o) ≡ d * (o + 1) * 2 ^ 52
    twice zero h = ap (λ (z : ℕ). z * 2 ^ 52) (sym (mul-one d))
    twice (suc zero) h = omega arith
    twice (suc (suc o)) h = absurd (omega arith)

-- a root that is rounded up has no more than 53 digits
pub no_more : (m q rem : ℕ) → q * q + rem ≡ m * 2 ^ 52 → rem ≤ 2 * q → m ≤ 2 ^ 54 - 2 → q < rem → q + 1 < 2 ^ 53
no_more m q rem square left h r =
    let s : q < 2 ^ 53 = short (m * 2 ^ 52) q (largest (m * 2 ^ 52) q rem square left) (omega arith) in
    sq-back (q + 1) (2 ^ 53) (omega arith)

-- ---- the bits of a root

pub rooted : (x : Float) (n m k bits : ℕ) → Counts x n → n * 2 ^ 1074 ≡ m * 2 ^ 52 * (2 ^ k * 2 ^ k) → Rounds m k bits → IsRoot x (of_bits binary64 bits)
rooted x n m k bits c w r = ⊎_elim
    (λ g. nearest-down x (of_bits binary64 bits) n c cut g.0 (counted r.q r.long g.1 g.2))
    (λ g. nearest-up x (of_bits binary64 bits) n c cut g.0 (counted (r.q + 1) (omega (arith, r.long)) g.1 g.2))
    r.gives
  where
    cut : Cut (n * 2 ^ 1074) (m * 2 ^ 52) r.q r.rem k
    cut = record { whole = w; square = r.square; left = r.left; long = r.long }

    counted : (a : ℕ) → 2 ^ 52 ≤ a → bits ≡ k * 2 ^ 52 + a → a < 2 ^ 53 → Counts (of_bits binary64 bits) (a * 2 ^ k)
    counted a h e l = subst (λ (z : ℕ). Counts (of_bits binary64 bits) z) (ap units_of e ∙ units_of_lem k a h l) (bits-count bits r.fits)
