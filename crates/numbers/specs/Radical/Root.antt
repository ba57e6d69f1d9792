-- The square root of a binary64 number: the number nearest to the exact root. Which one that is, is said with whole numbers and squares alone.
use Rattle.std.specs.Prelude.{ℕ, zero, suc, ◌+◌, ◌-◌, ◌*◌, ◌/◌, ◌^◌, ◌≤◌, ◌<◌, false, cond, T, leb, ltb, Float}
use Rattle.std.specs.Float.{nan, inf, fin, binary64}
use Rattle.std.specs.Float.Ieee.{fits, up, down, size, units}
use Rattle.std.specs.Float.Ieee.Exact.{HasValue}

-- ---- the statement

-- y is a finite binary64 number from +0 up: b times the smallest one, which is 2 ^ -1074
pub record Counts (y : Float) (b : ℕ) : Type 0 where
  pub holds : T (fits binary64 y)
  pub value : HasValue y false b (2 ^ 1074)

-- r is nearer to the root of v than any other number y from 0 up. Of the smallest numbers v is n, r is a and y is b, so the root of v is that of
-- n * 2 ^ 1074. It lies strictly on r's side of the middle between r and y, which is (a + b) / 2: said of the squares of both, taken four times.
pub record IsRoot (v r : Float) : Type 0 where
  pub n : ℕ
  pub a : ℕ
  pub of : Counts v n
  pub is : Counts r a
  pub below : (y : Float) (b : ℕ) → Counts y b → b < a → (a + b) * (a + b) < 4 * (n * 2 ^ 1074)
  pub above : (y : Float) (b : ℕ) → Counts y b → a < b → 4 * (n * 2 ^ 1074) < (a + b) * (a + b)

-- r is finite and normal: at least 2 ^ -1022, which is 2 ^ 52 of the smallest numbers
pub record Normal (r : Float) : Type 0 where
  pub a : ℕ
  pub is : Counts r a
  pub least : 2 ^ 52 ≤ a

-- ---- the root as a function. It is proved to be what the statement asks, for every finite number above zero

-- the largest whole number of at most so many binary digits whose square is at most n
unfoldable pub whole_root : ℕ → ℕ → ℕ
whole_root zero n = 0
whole_root (suc digits) n = let r = 2 * whole_root digits (n / 4) in cond (leb ((r + 1) * (r + 1)) n) (r + 1) r

-- q or q + 1, in units of 2 ^ k, by which side of their middle the root of N lies on
abbrev pub round_root : ℕ → ℕ → ℕ → ℕ
round_root N k q = cond (ltb ((2 * q + 1) * 2 ^ k * ((2 * q + 1) * 2 ^ k)) (4 * N)) (q + 1) q

-- how many binary digits the root of n * 2 ^ 1074 has beyond 53: n * 2 ^ 1074 has size n + 1074, of which 105 or 106 make 53 of the root
abbrev pub dropped : ℕ → ℕ
dropped n = (size n + 1074 - 105) / 2

-- the root of n of the smallest numbers
unfoldable pub root_of : ℕ → Float
unfolding whole_root
root_of n =
    let N = n * 2 ^ 1074 in
    let k = dropped n in
    units binary64 false (round_root N k (whole_root 53 (N / (2 ^ k * 2 ^ k)))) k

-- the root of a number that isn't below zero. Zero keeps its sign
unfoldable pub root : Float → Float
unfolding root_of
root nan = nan
root (inf s) = inf s
root (fin s zero e) = fin s zero e
root (fin s (suc m) e) = root_of (suc m * up e * 2 ^ 1074 / down e)
