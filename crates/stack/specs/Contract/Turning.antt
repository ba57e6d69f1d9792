-- The two sums on top of the stack turned.
use Rattle.std.specs.Prelude.{ℕ, List, ◌∷◌}
use Rattle.sums.specs.Tree.Sums.{Sum}
use Rattle.stack.specs.Contract.Arena.{Arena, working}
use Rattle.stack.specs.Contract.Stacked.{Stacked}
use Rattle.stack.specs.Contract.Blocks.{Outside}

-- the two sums on top change places
pub record Turned (a a' : Arena) (u : ℕ) : Type 0 where
  pub outside : Outside a a' 0 u
  pub turned : (s t : Sum) (ss : List Sum) → Stacked a working u (s ∷ t ∷ ss) → Stacked a' working u (t ∷ s ∷ ss)
