-- Whole powers by what the whole number is. Assumes nothing.
use Prim.Native.Nat.{ℕ, zero, suc, ◌-◌}
use native.Mathlib.Omega.{arith}
use mathlib.Core.Path.{◌≡◌, refl, sym, ap}
use mathlib.Core.Bool.{true, false}
use Rattle.std.specs.Prelude.{Some, None}
use Rattle.numbers.specs.Signs.{zero64}
use Rattle.numbers.proofs.Values.{bits-0}
use Rattle.numbers.specs.Complex.Arith as complex
use Rattle.limits.specs.declared.Refusal.TheVariants.{TooComplex, BigPower}
use Rattle.sums.specs.Tree.Kinds.{X}
use Rattle.sums.specs.Tree.Sums.{Sum, none, size, levels}
use Rattle.sums.specs.Tree.Map.{put_in, coef_in, formed, sum, refused}
use Rattle.arithmetic.specs.Singles.{alone, constant}
use Rattle.arithmetic.specs.Product.{mulable}
use Rattle.arithmetic.specs.Power.{raised, whole_power}
use Rattle.arithmetic.specs.Pairs.{raised_pairs, whole_pairs}

-- the constant 0 can be formed
pub zero_is : alone X zero64 none complex.zero ≡ sum (constant complex.zero)
unfolding formed coef_in put_in levels size
zero_is = rw bits-0

-- above 64
pub whole-not : (s : Sum) → mulable s s ≡ false → whole_power s None ≡ refused TooComplex
whole-not s h = rw h

pub whole-big : (s : Sum) → mulable s s ≡ true → whole_power s None ≡ refused BigPower
whole-big s h = rw h

-- 0
pub whole-zero : (s : Sum) (k : ℕ) → k ≡ 0 → whole_power s (Some k) ≡ alone X zero64 none complex.zero
whole-zero s k h = rw h (sym zero_is)

-- 1 to 64
pub whole-some : (s : Sum) (k : ℕ) → (k ≡ 0 → ⊥) → whole_power s (Some k) ≡ raised (k - 1) s s
whole-some s zero h = absurd (h refl)
whole-some s (suc k) h = ap (λ (n : ℕ). raised n s s) (omega arith)

-- ---- their pairs

pub whole-pairs-zero : (s : Sum) (k : ℕ) → k ≡ 0 → whole_pairs s (Some k) ≡ 0
whole-pairs-zero s k h = rw h

pub whole-pairs-some : (s : Sum) (k : ℕ) → (k ≡ 0 → ⊥) → whole_pairs s (Some k) ≡ raised_pairs (k - 1) s s
whole-pairs-some s zero h = absurd (h refl)
whole-pairs-some s (suc k) h = ap (λ (n : ℕ). raised_pairs n s s) (omega arith)
