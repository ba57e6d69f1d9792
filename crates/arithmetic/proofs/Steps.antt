-- What an outcome that is a sum tells of the steps that it came by. Assumes nothing.
use Prim.Native.Nat.{ℕ}
use native.Mathlib.Omega.{arith}
use mathlib.Core.Path.{◌≡◌, refl, sym}
use mathlib.Core.Bool.{Bool, true, false, ◌&&◌, cond}
use Rattle.limits.specs.declared.Refusal.{Refusal}
use Rattle.sums.specs.Tree.Sums.{Sum}
use Rattle.sums.specs.Tree.Map.{Outcome, sum, refused, and_then_sum, unless}

-- a sum is no refusal
pub never : {A : Type 0} {e : Refusal} {r : Sum} → refused e ≡ sum r → A
never h = absurd (let z : ◌≡◌ {A = ℕ} 0 1 = cc in omega arith)

-- one outcome, one sum
pub sum_is : {s r : Sum} → sum s ≡ sum r → s ≡ r
sum_is h = cc

-- true is not false
pub differ : {A : Type 0} → true ≡ false → A
differ h = absurd (let z : ◌≡◌ {A = ℕ} 0 1 = cc in omega arith)

-- the first step gave a sum, and so did the next
pub then-sum : (o : Outcome) (f : Sum → Outcome) (r : Sum) → and_then_sum o f ≡ sum r → (u : Sum) × (o ≡ sum u) × (f u ≡ sum r)
then-sum (sum u) f r h = (u, refl, h)
then-sum (refused e) f r h = never h

-- the test passed
pub unless-sum : (b : Bool) (e : Refusal) (o : Outcome) (r : Sum) → unless b e o ≡ sum r → (b ≡ true) × (o ≡ sum r)
unless-sum true e o r h = (refl, h)
unless-sum false e o r h = never h

-- a choice between two outcomes keeps what both keep
pub either : (P : Sum → Type 0) (b : Bool) (o p : Outcome) (r : Sum) → (o ≡ sum r → P r) → (p ≡ sum r → P r) → cond b o p ≡ sum r → P r
either P true o p r f g h = f h
either P false o p r f g h = g h

-- both tests passed
pub and_both : (a b : Bool) → a && b ≡ true → (a ≡ true) × (b ≡ true)
and_both true b h = (refl, h)
and_both false b h = differ (sym h)
