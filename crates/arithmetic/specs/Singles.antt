-- Sums of one term, and what can be read off a sum.
use Rattle.std.specs.Prelude.{ℕ, ◌≤◌, ◌≡◌, Bool, true, false, ◌&&◌, ◌||◌, not, cond, eqb, Float}
use Rattle.std.specs.Float.Ieee.{eq}
use Rattle.limits.specs.Limits.{sum_entries, sum_levels}
use Rattle.numbers.specs.Signs.{zero64, one64}
use Rattle.numbers.specs.declared.complex.Complex.{Complex}
use Rattle.numbers.specs.Complex.Arith as complex
use Rattle.cells.specs.declared.Entry.{Entry}
use Rattle.limits.specs.declared.Refusal.TheVariants.{TooComplex}
use Rattle.sums.specs.declared.tree.Merge.TheVariants.{Store}
use Rattle.sums.specs.Tree.Kinds.{X}
use Rattle.sums.specs.Tree.Sums.{Sum, none, and, size, entry}
use Rattle.sums.specs.Tree.Good.{is_empty, Good}
use Rattle.sums.specs.Tree.Map.{Outcome, sum, refused, Found, at, absent, formed}

-- a sum as it may lie on the stack: good within sum_levels, of 1 to sum_entries entries
pub record GoodSum (s : Sum) : Type 0 where
  pub good : Good sum_levels s
  pub room : size s ≤ sum_entries
  pub some : is_empty s ≡ false

-- the term x to the 0, which is 1; -0 counts
abbrev pub is_one : ℕ → Float → Bool
is_one k p = eqb k X && eq p zero64

-- one term, and one term formed as a sum of its own
abbrev pub single : ℕ → Float → Sum → Complex → Sum
single k p i c = and k p i c none

abbrev pub alone : ℕ → Float → Sum → Complex → Outcome
alone k p i c = formed Store (entry k (size i) p c) i none

abbrev pub constant : Complex → Sum
constant c = single X zero64 none c

-- the coefficient of a sum that is a constant
unfoldable pub as_constant : Sum → Found
as_constant none = absent
as_constant (and k p i c none) = cond (is_one k p) (at c) absent
as_constant (and k p i c (and l q j d r)) = absent

-- a sum of one term that is x, whatever its coefficient
unfoldable pub is_x : Sum → Bool
is_x none = false
is_x (and k p i c none) = eqb k X && eq p one64
is_x (and k p i c (and l q j d r)) = false

-- the same entry with another coefficient
abbrev pub with_coef : Entry → Complex → Entry
with_coef x c = entry x.kind x.inside x.num c

-- the Rust's is_complex: a power that is neither 0 nor 1, at any level
unfoldable pub is_complex : Sum → Bool
is_complex none = false
is_complex (and k p i c r) = cond (eqb k X) (not (eq p zero64) && not (eq p one64)) (is_complex i) || is_complex r

-- it isn't refused with 7
abbrev pub Expressible : Outcome → Type 0
Expressible o = o ≡ refused TooComplex → ⊥
