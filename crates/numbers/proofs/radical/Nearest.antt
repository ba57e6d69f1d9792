-- A root in whole numbers, rounded by what is left, is the nearest number. Assumes nothing.
use Prim.Native.Nat.{ℕ, ◌+◌, ◌*◌, ◌^◌, ◌≤◌, ◌<◌}
use native.Mathlib.Omega.{arith}
use native.Mathlib.Nat.{mul-pos, mul-lt-mul_of_pos_left, mul-le-mul_left, mul-le-mul_right, mul-lt-mul_of_pos_right, lt_of_mul-lt-mul_right, le_trans, lt_of_lt_of_le, lt_of_le_of_lt, mul_assoc}
use mathlib.Core.Path.{◌≡◌}
use lib.Pow.{pow-add, pow_pos}
use lib.Ieee.{Float}
use Rattle.numbers.specs.Radical.Root.{Counts, IsRoot}
use Rattle.numbers.proofs.radical.Squares.{by-order, sq-le, sq-lt, square-of}
use Rattle.numbers.proofs.radical.Counting.{multiple}

-- q is the root of M in whole numbers, of at least 53 digits, rem is left, and N is M times 4 ^ k
pub record Cut (N M q rem k : ℕ) : Type 0 where
  pub whole : N ≡ M * (2 ^ k * 2 ^ k)
  pub square : q * q + rem ≡ M
  pub left : rem ≤ 2 * q
  pub long : 2 ^ 52 ≤ q

-- the square of the middle of q and q + 1, in units of 2 ^ k, taken four times
abbrev pub middle : ℕ → ℕ → ℕ
middle q k = (2 * q + 1) * 2 ^ k * ((2 * q + 1) * 2 ^ k)

module _ {N M q rem k : ℕ} (cut : Cut N M q rem k) where
  scaled : (x y : ℕ) → x < y → x * (2 ^ k * 2 ^ k) < y * (2 ^ k * 2 ^ k)
  scaled x y h = mul-lt-mul_of_pos_right h (mul-pos (pow_pos k) (pow_pos k))

  high : 2 ^ (52 + k) ≤ q * 2 ^ k
  high = rw (pow-add 2 52 k) (mul-le-mul_right (2 ^ k) cut.long)

  -- what is left tells on which side of the middle the root lies: never on it, since 4 * M is even and the middle's square is odd
  pub low-side : rem ≤ q → 4 * N < middle q k
  low-side h = rw (square-of (2 * q + 1) (2 ^ k), cut.whole, ← mul_assoc 4 M (2 ^ k * 2 ^ k)) (scaled (4 * M) ((2 * q + 1) * (2 * q + 1)) (omega (arith, cut.square)))

  pub high-side : q < rem → middle q k < 4 * N
  high-side h = rw (square-of (2 * q + 1) (2 ^ k), cut.whole, ← mul_assoc 4 M (2 ^ k * 2 ^ k)) (scaled ((2 * q + 1) * (2 * q + 1)) (4 * M) (omega (arith, cut.square)))

  -- the root itself lies from q up and below q + 1
  from : 4 * (q * 2 ^ k * (q * 2 ^ k)) ≤ 4 * N
  from = mul-le-mul_left 4 (rw (square-of q (2 ^ k), cut.whole) (mul-le-mul_right (2 ^ k * 2 ^ k) (omega (arith, cut.square))))

  under : 4 * N < 4 * ((q + 1) * 2 ^ k * ((q + 1) * 2 ^ k))
  under = mul-lt-mul_of_pos_left (rw (square-of (q + 1) (2 ^ k), cut.whole) (scaled M ((q + 1) * (q + 1)) (omega (arith, cut.square, cut.left)))) (omega arith)

  -- ---- rounded down
  down-below : (b : ℕ) → b < q * 2 ^ k → (q * 2 ^ k + b) * (q * 2 ^ k + b) < 4 * N
  down-below b h = lt_of_lt_of_le (sq-lt {x = q * 2 ^ k + b} {y = 2 * (q * 2 ^ k)} (omega arith)) (le_trans (omega arith) from)

  next : (y : Float) (b : ℕ) → Counts y b → q * 2 ^ k < b → (q + 1) * 2 ^ k ≤ b
  next y b c h =
      let m = multiple y b k c (le_trans high (omega arith)) in
      let l : q < m.0 = lt_of_mul-lt-mul_right (2 ^ k) (rw m.1 at h) in
      rw m.1 (mul-le-mul_right (2 ^ k) (omega arith))

  down-above : rem ≤ q → (y : Float) (b : ℕ) → Counts y b → q * 2 ^ k < b → 4 * N < (q * 2 ^ k + b) * (q * 2 ^ k + b)
  down-above r y b c h = let n = next y b c h in lt_of_lt_of_le (low-side r) (sq-le {x = (2 * q + 1) * 2 ^ k} {y = q * 2 ^ k + b} (omega arith))

  -- ---- rounded up
  up_above : (b : ℕ) → (q + 1) * 2 ^ k < b → 4 * N < ((q + 1) * 2 ^ k + b) * ((q + 1) * 2 ^ k + b)
  up_above b h = lt_of_lt_of_le under (le_trans (omega arith) (sq-le {x = 2 * ((q + 1) * 2 ^ k)} {y = (q + 1) * 2 ^ k + b} (omega arith)))

  last : (y : Float) (b : ℕ) → Counts y b → b < (q + 1) * 2 ^ k → b ≤ q * 2 ^ k
  last y b c h = by-order (2 ^ (52 + k)) b
      (λ high-too.
      let m = multiple y b k c high-too in
      let l : m.0 < q + 1 = lt_of_mul-lt-mul_right (2 ^ k) (rw m.1 at h) in
      rw m.1 (mul-le-mul_right (2 ^ k) (omega arith)))
      (λ low. le_trans (omega arith) high)

  up-below : q < rem → (y : Float) (b : ℕ) → Counts y b → b < (q + 1) * 2 ^ k → ((q + 1) * 2 ^ k + b) * ((q + 1) * 2 ^ k + b) < 4 * N
  up-below r y b c h = let n = last y b c h in lt_of_le_of_lt (sq-le {x = (q + 1) * 2 ^ k + b} {y = (2 * q + 1) * 2 ^ k} (omega arith)) (high-side r)

-- ---- the nearest number

module _ (v r : Float) (n : ℕ) (of : Counts v n) {M q rem k : ℕ} (cut : Cut (n * 2 ^ 1074) M q rem k) where
  pub nearest-down : rem ≤ q → Counts r (q * 2 ^ k) → IsRoot v r
  nearest-down h c = record { n = n; a = q * 2 ^ k; of = of; is = c; below = λ y b d l. down-below cut b l; above = λ y b d l. down-above cut h y b d l }

  pub nearest-up : q < rem → Counts r ((q + 1) * 2 ^ k) → IsRoot v r
  nearest-up h c = record { n = n; a = (q + 1) * 2 ^ k; of = of; is = c; below = λ y b d l. up-below cut h y b d l; above = λ y b d l. up_above cut b l }
