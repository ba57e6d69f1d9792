-- The steps by which a sum is taken in and written, named for the contracts of the functions that take them.
use Rattle.std.specs.Prelude.{◌≡◌, Bool, true, ◌↔◌, List, ℕ, ◌*◌, ◌^◌, ◌<◌, Result, Ok, Err}
use Rattle.std.proofs.lemmas.List.Edits.{sets}
use Rattle.limits.specs.Limits.{sum_entries, sum_levels, entry_bytes}
use Rattle.limits.specs.declared.Refusal.TheVariants.{BadRecord, TooDeep}
use Rattle.cells.specs.Bits as encoding
use Rattle.cells.specs.Contract.Book.{Book, Cell, cell, word}
use Rattle.sums.specs.Contract.Lies.{Held}
use Rattle.sums.specs.Entry.Encoding.{encode_cell}
use Rattle.sums.specs.Entry.Contract.Steps.{clean_at, cell_at}
use Rattle.limits.specs.declared.Refusal.{Refusal}

-- a cell as its encoding takes it: five numbers, the three words by name
abbrev pub five : Cell → encoding.Cell
five c = record { kind = c.kind; inside = c.inside; num = word c 0; re = word c 1; im = word c 2 }

-- r says whether the first n entries are clean; if so they are in the first n cells
pub record Loaded (l : List ℕ) (n : ℕ) (b : Book) (r : Bool) : Type 0 where
  pub tests : (r ≡ true) ↔ ((j : ℕ) → j < n → clean_at l j ≡ true)
  pub cells : r ≡ true → (j : ℕ) → j < n → five (cell b j) ≡ cell_at l j

-- what the first n cells are: a good sum within sum_levels, a good sum beyond them, or none
pub data Answered (b : Book) (n : ℕ) : Result ℕ Refusal → Type 0 where
  good : Held b 0 n sum_levels → Answered b n (Ok n)
  deep : Held b 0 n sum_entries → (Held b 0 n sum_levels → ⊥) → Answered b n (Err TooDeep)
  bad : (Held b 0 n sum_entries → ⊥) → Answered b n (Err BadRecord)

-- a cell's five numbers are written as the entry at place j; its bits are below 2^64, which of a word that lies in a book is not known by itself
pub record Stored (out out' : List ℕ) (j : ℕ) (c : encoding.Cell) : Type 0 where
  pub bytes : out' ≡ sets out (entry_bytes * j) (encode_cell c)
  pub num : c.num < 2 ^ 64
  pub re : c.re < 2 ^ 64
  pub im : c.im < 2 ^ 64
