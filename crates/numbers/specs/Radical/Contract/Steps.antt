-- What the code's steps on the way to a root say.
use Rattle.std.specs.Prelude.{ℕ, zero, suc, ◌+◌, ◌*◌, ◌/◌, ◌%◌, ◌^◌, ◌≤◌, ◌<◌, ◌≡◌, ◌⊎◌, Option, Some, None}
use Rattle.numbers.specs.declared.radical.Rooted.{Rooted}
use Rattle.numbers.specs.declared.radical.Scaled.{Scaled}

-- how many of the smallest number a pattern of bits stands for, by its exponent's field and its digits
abbrev pub by_field : ℕ → ℕ → ℕ
by_field zero t = t
by_field (suc x) t = (2 ^ 52 + t) * 2 ^ x

unfoldable pub units_of : ℕ → ℕ
units_of b = by_field (b / 2 ^ 52) (b % 2 ^ 52)

-- 53 digits and a power of two that come to n
pub record Scales (s : Scaled) (n : ℕ) : Type 0 where
  pub least : 2 ^ 52 ≤ s.digits
  pub most : s.digits < 2 ^ 53
  pub is : s.digits * 2 ^ s.power ≡ n
  pub low : 1022 ≤ s.power
  pub high : s.power ≤ 3120

-- the root of m * 2 ^ 52 in whole numbers, and what is left: less than the next square takes. No other pair is this
pub record WholeRoot (m : ℕ) (d : Rooted) : Type 0 where
  pub square : d.root * d.root + d.rem ≡ m * 2 ^ 52
  pub left : d.rem ≤ 2 * d.root

-- where a trial finds something, it and what is left come to m * 2 ^ 52
abbrev pub SquareFound : ℕ → ℕ → Option Rooted → Type 0
SquareFound m q (Some d) = (d.root * d.root + d.rem ≡ m * 2 ^ 52) × (d.root ≡ q) × (d.rem < 2 ^ 63)
SquareFound m q None = Unit {0}

-- where a trial finds something, it is the root
abbrev pub RootFound : ℕ → Option Rooted → Type 0
RootFound m (Some d) = WholeRoot m d
RootFound m None = Unit {0}

-- q is the root of m * 2 ^ 52 in whole numbers, and the bits are those of q * 2 ^ k of the smallest number, rounded by what is left
pub record Rounds (m k bits : ℕ) : Type 0 where
  pub q : ℕ
  pub rem : ℕ
  pub square : q * q + rem ≡ m * 2 ^ 52
  pub left : rem ≤ 2 * q
  pub long : 2 ^ 52 ≤ q
  pub fits : bits < 2047 * 2 ^ 52
  pub gives : ((rem ≤ q) × (bits ≡ k * 2 ^ 52 + q) × (q < 2 ^ 53)) ⊎ ((q < rem) × (bits ≡ k * 2 ^ 52 + (q + 1)) × (q + 1 < 2 ^ 53))
