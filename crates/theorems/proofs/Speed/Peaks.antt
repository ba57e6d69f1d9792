-- The peak of a run, from term to term; it is at most document 01's, and the same where there is no root. Assumes nothing.
use Prim.Native.Nat.{ℕ, zero, suc, ◌+◌, ◌-◌, ◌≤◌, max}
use mathlib.Core.Path.{◌≡◌, refl, ◌∙◌}
use mathlib.Core.Bool.{Bool, true, false, ◌&&◌, cond, true≢false}
use mathlib.Core.List.{List, [], ◌∷◌}
use native.Mathlib.Omega.{arith}
use lib.ListN.{length}
use Rattle.numbers.specs.declared.complex.Complex.{Complex}
use Rattle.values.specs.Value.{Exponent, whole, half, Power, power, is_one}
use Rattle.theorems.specs.Terms.{twice, Rising}
use Rattle.theorems.specs.Records.{is_x, peak_of, root_first, exact_peak}
use Rattle.theorems.specs.Roots.{any_root}

-- ---- one term

-- √x and x need no number beside them
abbrev pub light : Exponent → Complex → Bool
light (whole k) c = is_x (whole k) c
light half c = is_one c

pub peak-low : (b : Bool) → 1 ≤ cond b 1 2
peak-low true = omega arith
peak-low false = omega arith

pub peak-high : (b : Bool) → cond b 1 2 ≤ 2
peak-high true = omega arith
peak-high false = omega arith

-- from x to the 1.5 on every power needs one
pub not-bare : (k : Exponent) (c : Complex) → 3 ≤ twice k → light k c ≡ false
not-bare half c h = absurd (omega arith)
not-bare (whole zero) c h = refl
not-bare (whole (suc zero)) c h = absurd (omega arith)
not-bare (whole (suc (suc zero))) c h = refl
not-bare (whole (suc (suc (suc n)))) c h = refl

-- ---- the terms in turn

-- the peak after some terms, where that of what came before is k
unfoldable pub peak_after : ℕ → List Power → ℕ
peak_after k [] = k
peak_after k (power l c ∷ ts) = peak_after (suc (max k (cond (light l c) 1 2))) ts

pub peak-after : (k : ℕ) (ts : List Power) → 2 ≤ k → peak_after k ts ≡ k + length ts
unfolding peak_after
peak-after k [] h = omega arith
peak-after k (power l c ∷ ts) h =
    let q = peak-high (light l c) in
    let m = peak-after (suc (max k (cond (light l c) 1 2))) ts (omega arith) in
    omega arith

pub peak-some : (k : ℕ) (ts : List Power) → 1 ≤ k → (1 ≤ peak_after k ts) × (peak_after k ts ≤ max k 2 + length ts)
unfolding peak_after
peak-some k [] h = (h, omega arith)
peak-some k (power l c ∷ ts) h =
    let q = peak-high (light l c) in
    let m = peak-some (suc (max k (cond (light l c) 1 2))) ts (omega arith) in
    (m.0, omega (arith, m.1))

-- the peak where something is written for the first term
pub first-peak : (k : Exponent) (c : Complex) (ts : List Power) → is_x k c ≡ false → Rising (suc (twice k)) ts → peak_after (cond (light k c) 1 2) ts ≡ exact_peak (power k c ∷ ts)
unfolding peak_after peak_of root_first
first-peak (whole k) c [] e up = rw e
first-peak (whole k) c (power l d ∷ ts) e up =
    let q = peak-high (light l d) in
    rw e (peak-after (suc (max 2 (cond (light l d) 1 2))) ts (omega arith) ∙ omega arith)
first-peak half c [] e up = go (is_one c)
  where
    go : (b : Bool) → cond b 1 2 ≡ 2 - cond b 1 0
    go true = refl
    go false = refl
first-peak half c (power half d ∷ ts) e up = absurd (omega (arith, up.0))
first-peak half c (power (whole l) d ∷ ts) e up =
    let q = peak-low (is_one c) in
    peak-after (suc (max (cond (is_one c) 1 2) (cond (is_x (whole l) d) 1 2))) ts (omega arith) ∙ go (is_one c) (is_x (whole l) d)
  where
    go : (a b : Bool) → suc (max (cond a 1 2) (cond b 1 2)) + length ts ≡ suc (suc (suc (length ts))) - cond (a && b) 1 0
    go true true = omega arith
    go true false = omega arith
    go false true = omega arith
    go false false = omega arith

-- ---- beside document 01's

-- only a root makes it less than document 01's
no-root-first : (ts : List Power) → any_root ts ≡ false → root_first ts ≡ false
unfolding any_root root_first
no-root-first [] e = refl
no-root-first (power (whole k) c ∷ []) e = refl
no-root-first (power half c ∷ []) e = absurd (true≢false e)
no-root-first (power (whole k) c ∷ power l d ∷ ts) e = refl
no-root-first (power half c ∷ power l d ∷ ts) e = absurd (true≢false e)

pub peak-at-most : (ts : List Power) → exact_peak ts ≤ peak_of ts
peak-at-most ts = omega arith

pub peak-no-less : (ts : List Power) → any_root ts ≡ false → exact_peak ts ≡ peak_of ts
peak-no-less ts e = rw (no-root-first ts e) (omega arith)
