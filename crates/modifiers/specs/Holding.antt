-- What modifiers do to the stack around their bodies.
use Rattle.std.specs.Prelude.{ℕ, ◌+◌, ◌-◌, List, [], ◌++◌, length, drop}
use Rattle.sums.specs.Tree.Sums.{Sum}
use Rattle.stack.specs.Stack.{total}
use Rattle.stack.specs.State.{State, Walked, and_then, with_stack, taking, lend}

-- the deepest n of some sums, of which the first was on top
abbrev pub deepest : ℕ → List Sum → List Sum
deepest n ss = drop (length ss - n) ss

-- some sums are put back on the stack
abbrev pub back_to : List Sum → State → State
back_to ss st = with_stack (ss ++ st.stack) st

-- the top n are taken off to be held, and copies of the deepest c of them are put on the stack; f goes on, with what is held
abbrev pub holding : ℕ → ℕ → ℕ → ℕ → State → (List Sum → State → Walked) → Walked
holding at n c h st f = taking at n st (λ ss st'. and_then (lend at (h + total ss) (deepest c ss) st') (λ st''. f ss st''))

-- the top is taken off, and nothing held
abbrev pub dropping : ℕ → State → (List Sum → State → Walked) → Walked
dropping at st f = taking at 1 st (λ ss st'. f [] st')

-- a copy of the deepest of the top n is put below them
abbrev pub copying : ℕ → ℕ → ℕ → State → (List Sum → State → Walked) → Walked
copying at n h st f = taking at n st (λ ss st'. and_then (lend at h (ss ++ deepest 1 ss) st') (λ st''. f [] st''))
