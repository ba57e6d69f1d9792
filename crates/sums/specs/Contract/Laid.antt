-- What is left in the cells where a sum was taken in.
use Rattle.std.specs.Prelude.{◌≡◌, List, ℕ, ◌≤◌}
use Rattle.limits.specs.Limits.{sum_entries, sum_levels}
use Rattle.cells.specs.Contract.Book.{Book}
use Rattle.sums.specs.Tree.Sums.{Sum}
use Rattle.sums.specs.Tree.Good.{Good}
use Rattle.sums.specs.Contract.Lies.{Lies}
use Rattle.sums.specs.Entry.Encoding.{encode_sum}

-- n entries were taken in, and the sum of these bytes lies in the first n cells
pub record Laid (l : List ℕ) (b : Book) (n : ℕ) : Type 0 where
  pub few : n ≤ sum_entries
  pub some : (s : Sum) × (encode_sum s ≡ l) × Lies b 0 n sum_levels s
  pub every : (s : Sum) → encode_sum s ≡ l → Good sum_levels s → Lies b 0 n sum_levels s
