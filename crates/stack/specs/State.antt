-- The state in which records are run, and what comes of running them.
use Rattle.std.specs.Prelude.{ℕ, ◌+◌, Bool, true, false, ◌||◌, cond, List, [], ◌∷◌, ◌++◌, leb, length, take, drop}
use Rattle.limits.specs.Limits.{stack_entries, handled_needed}
use Rattle.limits.specs.declared.Refusal.{Refusal}
use Rattle.limits.specs.declared.Refusal.TheVariants.{TooManyVariables, NoRoom}
use Rattle.sums.specs.Tree.Sums.{Sum}
use Rattle.sums.specs.Tree.Map.{Outcome, sum, refused}
use Rattle.stack.specs.Stack.{total, any_complex}

-- a number of pairs from here on is told as this one
abbrev pub most_pairs : ℕ
most_pairs = 18446744073709551615

-- the stack, its top first; how many primitives were handled, counted to handled_needed; whether a complex number was met; how many pairs of outermost terms were multiplied
pub record State : Type 0 where
  pub stack : List Sum
  pub handled : ℕ
  pub complex : Bool
  pub pairs : ℕ

abbrev pub with_stack : List Sum → State → State
with_stack ss st = record { stack = ss; handled = st.handled; complex = st.complex; pairs = st.pairs }

-- the state after it, or a refusal with its place; the Bool says whether what was read so far counts as handled, which the inverse asks of the refusals 1 to 9
pub data Walked : Type 0 where
  went : State → Walked
  stopped : Refusal → ℕ → Bool → Walked

abbrev pub and_then : Walked → (State → Walked) → Walked
and_then (went st) f = f st
and_then (stopped q at b) f = stopped q at b

-- handled_needed or more were handled, or a sum on the stack is complex
abbrev pub is_handled : State → Bool
is_handled st = leb handled_needed st.handled || any_complex st.stack

abbrev pub stop : ℕ → Refusal → State → Walked
stop at q st = stopped q at (is_handled st)

-- ---- the stack; h is how many entries are held

-- the top n sums are taken off and given to f; where there are fewer, a pop finds nothing when all are gone
abbrev pub taking_if : Bool → ℕ → ℕ → State → (List Sum → State → Walked) → Walked
taking_if true at n st f = f (take n st.stack) (with_stack (drop n st.stack) st)
taking_if false at n st f = stop at TooManyVariables (with_stack [] st)

unfoldable pub taking : ℕ → ℕ → State → (List Sum → State → Walked) → Walked
taking at n st f = taking_if (leb n (length st.stack)) at n st f

-- sums are put on the stack, the first of them on top; 12 where there are then over stack_entries on the stack and held
unfoldable pub lend : ℕ → ℕ → List Sum → State → Walked
lend at h ss st = cond (leb (h + total ss + total st.stack) stack_entries) (went (with_stack (ss ++ st.stack) st)) (stopped NoRoom at false)

-- what a step forms is put on the stack
abbrev pub push : ℕ → ℕ → Outcome → State → Walked
push at h (sum s) st = lend at h (s ∷ []) st
push at h (refused q) st = stop at q st
