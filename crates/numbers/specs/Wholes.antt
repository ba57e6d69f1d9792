-- Whole numbers: which one a number is, and how near to 0 it has to be for the next one to be a number too.
use Rattle.std.specs.Prelude.{ℕ, suc, ◌^◌, ◌≤◌, ◌<◌, ◌≡◌, Bool, true, false, ℤ, pos, negsuc, neg_ℤ, Float}
use Rattle.std.specs.Float.Ieee.Exact.{HasValue}

-- a, and -a for true
abbrev pub signed : Bool → ℕ → ℤ
signed true a = neg_ℤ (pos a)
signed false a = pos a

-- x is the whole number z; -0 is 0
pub record Means (x : Float) (z : ℤ) : Type 0 where
  pub sign : Bool
  pub size : ℕ
  pub value : HasValue x sign size 1
  pub is : signed sign size ≡ z

-- -2^53 < z ≤ 2^53: 1 can be taken away exactly
abbrev pub Near : ℤ → Type 0
Near (pos n) = n ≤ 2 ^ 53
Near (negsuc n) = suc n < 2 ^ 53

-- -2^53 ≤ z < 2^53: 1 can be added exactly
abbrev pub NearUp : ℤ → Type 0
NearUp (pos n) = n < 2 ^ 53
NearUp (negsuc n) = suc n ≤ 2 ^ 53

-- numbers that are z and w, which g takes to the same number
abbrev pub Clash : (Float → Float) → ℤ → ℤ → Type 0
Clash g z w = (x : Float) × (y : Float) × Means x z × Means y w × (g x ≡ g y)
