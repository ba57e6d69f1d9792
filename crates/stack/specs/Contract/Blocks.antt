-- Blocks of slots moved within the arena.
use Rattle.std.specs.Prelude.{ℕ, ◌+◌, ◌≤◌, ◌<◌, ◌≡◌, length}
use Rattle.cells.specs.Contract.Moves.{SameRoom}
use Rattle.stack.specs.Contract.Arena.{Arena, slot}

-- the lists are as long as they were
pub record SameSpace (a a' : Arena) : Type 0 where
  pub cells : SameRoom a.cells a'.cells
  pub sizes : length a'.sizes ≡ length a.sizes

-- below lo and from hi on every slot is as it was
pub record Outside (a a' : Arena) (lo hi : ℕ) : Type 0 where
  pub below : (j : ℕ) → j < lo → slot a' j ≡ slot a j
  pub above : (j : ℕ) → hi ≤ j → slot a' j ≡ slot a j
  pub long : SameSpace a a'

-- the slots from k up to e are moved up by d
pub record Raised (a a' : Arena) (k e d : ℕ) : Type 0 where
  pub moved : (j : ℕ) → k ≤ j → j < e → slot a' (j + d) ≡ slot a j
  pub outside : Outside a a' k (e + d)

-- n slots from `from` on are copied down to `to`
pub record Sunk (a a' : Arena) (from to n : ℕ) : Type 0 where
  pub copied : (j : ℕ) → j < n → slot a' (to + j) ≡ slot a (from + j)
  pub outside : Outside a a' to (to + n)
