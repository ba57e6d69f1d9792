-- Where the products of a whole power lie: by turns in the two halves of the places from w on, so that the last of them lies at w.
use Rattle.std.specs.Prelude.{ℕ, ◌+◌, ◌%◌, cond, eqb}
use Rattle.limits.specs.Limits.{sum_entries}

-- where a product goes when so many are left, itself among them
abbrev pub turn_place : ℕ → ℕ → ℕ
turn_place w left = cond (eqb (left % 2) 1) w (w + sum_entries)
