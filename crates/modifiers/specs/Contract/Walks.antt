-- Records walked by index, held to the definitions.
use Rattle.std.specs.Prelude.{ℕ, zero, suc, List}
use Rattle.formats.specs.Tree.{forest, next_of}
use Rattle.stack.specs.State.{State, Walked}
use Rattle.modifiers.specs.Modifiers.{run_all}
use Rattle.modifiers.specs.Reading.{runners}

-- the records from a up to e are run in turn, with h entries held
abbrev pub walk_of : List ℕ → ℕ → ℕ → ℕ → State → Walked
walk_of s a e h st = run_all (runners a (forest s a e)) h st

-- where the i-th node stands of those from a on
unfoldable pub place_of : List ℕ → ℕ → ℕ → ℕ
place_of s a zero = a
place_of s a (suc i) = place_of s (next_of s a) i
