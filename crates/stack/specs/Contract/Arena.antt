-- The arena: a book of cells, and beside each cell a size, which is used at a sum's last cell.
use Rattle.std.specs.Prelude.{ℕ, ◌+◌, ◌≤◌, List, ◌∷◌, length, get_or}
use Rattle.limits.specs.Limits.{sum_entries, stack_entries}
use Rattle.stack.specs.declared.slots.Arena.{Arena as Lent}
use Rattle.cells.specs.Contract.Book.{Book, seen, slices, Room, Cell, cell}

-- how many places are for working in; the stack lies behind them
abbrev pub working : ℕ
working = sum_entries + sum_entries

abbrev pub places : ℕ
places = working + stack_entries

pub record Arena : Type 0 where
  pub cells : Book
  pub sizes : List ℕ

abbrev pub of : Book → List ℕ → Arena
of b z = record { cells = b; sizes = z }

-- what the lent slices have
abbrev pub slots : Lent → Arena
slots a = of (seen a.book) a.sizes.now

-- which slices they are, each with its length
abbrev pub all_slices : Lent → List ℕ
all_slices a = a.sizes.ghost_name ∷ length a.sizes.now ∷ slices a.book

-- what stands at one index
pub record Slot : Type 0 where
  pub cell : Cell
  pub size : ℕ

abbrev pub slot : Arena → ℕ → Slot
slot a i = record { cell = cell a.cells i; size = get_or a.sizes i 0 }

-- there are n slots or more
pub record Space (a : Arena) (n : ℕ) : Type 0 where
  pub cells : Room a.cells n
  pub sizes : n ≤ length a.sizes
