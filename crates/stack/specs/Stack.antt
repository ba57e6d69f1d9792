-- What is asked of the sums on the stack and of those held.
use Rattle.std.specs.Prelude.{ℕ, ◌+◌, Bool, false, ◌||◌, List, [], ◌∷◌}
use Rattle.sums.specs.Tree.Sums.{Sum, size}
use Rattle.arithmetic.specs.Singles.{is_complex}

-- how many entries some sums have together
unfoldable pub total : List Sum → ℕ
total [] = 0
total (s ∷ ss) = size s + total ss

-- whether one of them is complex
unfoldable pub any_complex : List Sum → Bool
any_complex [] = false
any_complex (s ∷ ss) = is_complex s || any_complex ss
