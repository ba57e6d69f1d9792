-- A sum as far as the inside counts tell: where its insides lie, and how many levels it has.
use Rattle.std.specs.Prelude.{ℕ, ◌+◌, ◌≤◌, ◌≡◌, List, length, get_or}
use Rattle.cells.specs.declared.Entry.{Entry}
use Rattle.sums.specs.Tree.Sums.{Sum, size}
use Rattle.sums.specs.Contract.Lies.{At}

-- the counts from i up to e are those of the sum s
pub record Nests (insides : List ℕ) (i e : ℕ) (s : Sum) : Type 0 where
  pub entries : ℕ → Entry
  pub counts : (k : ℕ) → (entries k).inside ≡ get_or insides k 0
  pub laid : At entries i s
  pub ends : i + size s ≡ e
  pub room : e ≤ length insides

-- some sum nests there
abbrev pub Nested : List ℕ → ℕ → ℕ → Type 0
Nested insides i e = (s : Sum) × Nests insides i e s
