-- Two operands that an operation may be run on.
use Rattle.std.specs.Prelude.{ℕ, ◌*◌, ◌≤◌}
use Rattle.limits.specs.Limits.{sum_entries}
use Rattle.cells.specs.Contract.Book.{Book}
use Rattle.arithmetic.specs.Add.Contract.Operands.{Source}

-- good sums lie in the book behind the places of a result: n cells, of which there are some, and m cells
pub record Ready (b : Book) (n m : ℕ) : Type 0 where
  pub some : 1 ≤ n
  pub first : Source b (2 * sum_entries) n 0
  pub second : Source b (3 * sum_entries) m 0
