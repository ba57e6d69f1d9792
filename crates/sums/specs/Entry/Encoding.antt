-- Sums as bytes. An entry has 32, numbers with the lowest byte first: 0 kind, 1 to 4 zero, 4 to 8 how many entries lie inside, 8 to 16 the power or base,
-- 16 to 24 re, 24 to 32 im.
use Rattle.std.specs.Prelude.{List, [], ◌∷◌, ◌++◌, ℕ, ◌/◌, length}
use Rattle.limits.specs.Limits.{entry_bytes}
use Rattle.cells.specs.declared.Entry.{Entry}
use Rattle.cells.specs.Bits.{Cell, encoded}
use Rattle.sums.specs.Tree.Sums.{Sum, none, and, size, entry}
use Rattle.formats.specs.Bytes.{bytes}

-- the five numbers of a cell
unfoldable pub encode_cell : Cell → List ℕ
encode_cell c = c.kind ∷ 0 ∷ 0 ∷ 0 ∷ (bytes 4 c.inside ++ bytes 8 c.num ++ bytes 8 c.re ++ bytes 8 c.im)

-- an entry, each float as its bits
abbrev pub encode_entry : Entry → List ℕ
encode_entry e = encode_cell (encoded e)

-- how many whole entries some bytes have room for
abbrev pub entries_in : List ℕ → ℕ
entries_in l = length l / entry_bytes

-- an entry, then its inside, then the next entry
unfoldable pub encode_sum : Sum → List ℕ
encode_sum none = []
encode_sum (and k p i c r) = encode_entry (entry k (size i) p c) ++ encode_sum i ++ encode_sum r
