-- What is read of an entry's bytes, named for the contracts of the functions that take a sum in.
use Rattle.std.specs.Prelude.{Bool, ◌&&◌, List, ℕ, ◌+◌, ◌*◌, ltb, get_or}
use Rattle.limits.specs.Limits.{sum_entries, entry_bytes}
use Rattle.cells.specs.Bits.{Cell}
use Rattle.formats.specs.Bytes.{number}

-- the blank bytes of the entry at place i are zero, and its count of what lies inside is below sum_entries
abbrev pub clean_at : List ℕ → ℕ → Bool
clean_at l i = ltb (number 4 l (entry_bytes * i)) 256 && ltb (number 4 l (entry_bytes * i + 4)) sum_entries

-- the cell that the entry at place i is read as; only the lowest bytes of the kind and of the count are used
abbrev pub cell_at : List ℕ → ℕ → Cell
cell_at l i =
    record {
      kind = get_or l (entry_bytes * i) 0;
      inside = get_or l (entry_bytes * i + 4) 0;
      num = number 8 l (entry_bytes * i + 8);
      re = number 8 l (entry_bytes * i + 16);
      im = number 8 l (entry_bytes * i + 24);
    }
