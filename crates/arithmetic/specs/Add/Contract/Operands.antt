-- What an operation asks for: sums that lie in the book, apart from the places where its result is formed; and a sum that grows there.
use Rattle.std.specs.Prelude.{ℕ, ◌+◌, ◌≤◌, Option, Some, None}
use Rattle.limits.specs.Limits.{sum_entries, sum_levels}
use Rattle.cells.specs.Contract.Book.{Book, Room}
use Rattle.cells.specs.Contract.Moves.{Apart}
use Rattle.sums.specs.Tree.Map.{Found, at, absent}
use Rattle.sums.specs.Contract.Lies.{Held}
use Rattle.numbers.specs.declared.complex.Complex.{Complex}

-- a sum lies in the n cells from i on, apart from the sum_entries from p on
pub record Operand (b : Book) (i n p : ℕ) : Type 0 where
  pub few : n ≤ sum_entries
  pub held : Held b i (i + n) sum_levels
  pub apart : Apart i n p (p + sum_entries)

-- a sum of n cells from i on, apart from twice as many places from w on: sum_entries for a result, and as many behind them to work in
pub record Source (b : Book) (i n w : ℕ) : Type 0 where
  pub few : n ≤ sum_entries
  pub held : Held b i (i + n) sum_levels
  pub apart : Apart i n w (w + (sum_entries + sum_entries))

-- a sum of n cells from p on, with room for sum_entries
pub record Growing (b : Book) (p n : ℕ) : Type 0 where
  pub few : n ≤ sum_entries
  pub room : Room b (p + sum_entries)
  pub held : Held b p (p + n) sum_levels

-- what the code answers for the coefficient of a sum that may be a constant
abbrev pub constant_of : Found → Option Complex
constant_of (at c) = Some c
constant_of absent = None
