-- Sums as trees. A sum is its entries in order; an entry is a term (a kind, a power or base, and the sum inside it) and a coefficient.
use Rattle.std.specs.Prelude.{ℕ, zero, suc, ◌+◌, max, List, [], ◌∷◌, ◌++◌, Float}
use Rattle.numbers.specs.declared.complex.Complex.{Complex}
use Rattle.cells.specs.declared.Entry.{Entry}

-- `and k p i c r`: the term of kind k with the number p and the inside i, its coefficient c, and the rest of the sum
pub data Sum : Type 0 where
  none : Sum
  and : ℕ → Float → Sum → Complex → Sum → Sum

-- all entries, insides counted
unfoldable pub size : Sum → ℕ
size none = zero
size (and k p i c r) = suc (size i + size r)

-- the outermost entries alone
unfoldable pub len : Sum → ℕ
len none = zero
len (and k p i c r) = suc (len r)

-- how many levels of sums there are: an entry inside n others makes n + 1
unfoldable pub levels : Sum → ℕ
levels none = zero
levels (and k p i c r) = max (suc (levels i)) (levels r)

-- an entry as the code holds it
abbrev pub entry : ℕ → ℕ → Float → Complex → Entry
entry k n p c = record { kind = k; inside = n; num = p; coef = c }

-- an entry, then its inside, then the next entry
unfoldable pub flat : Sum → List Entry
flat none = []
flat (and k p i c r) = entry k (size i) p c ∷ flat i ++ flat r
