-- The code's answers before a body runs, held to those of the definitions.
use Rattle.std.specs.Prelude.{ℕ, ◌+◌, ◌-◌, ◌≤◌, ◌≡◌, List, [], ◌++◌}
use Rattle.sums.specs.Tree.Sums.{Sum}
use Rattle.stack.specs.Contract.Arena.{Arena, places}
use Rattle.stack.specs.Stack.{total}
use Rattle.stack.specs.Contract.Stacked.{Stacked}
use Rattle.stack.specs.Contract.Blocks.{Outside}
use Rattle.stack.specs.State.{State, Walked, stopped, and_then, lend}
use Rattle.stack.specs.Contract.Agree.{Stands}
use Rattle.stack.specs.declared.state.AlgebraEnv.{AlgebraEnv}
use Rattle.modifiers.specs.Holding.{back_to}
use Rattle.modifiers.specs.declared.hold.Begun.{Begun}
use Rattle.modifiers.specs.declared.hold.Begun.TheVariants.{Held, Halted}

-- sums of m cells are held just below v, a state stands, and G goes on with these
pub record Holds (a : Arena) (v m : ℕ) (env : AlgebraEnv) (G : (List Sum → State → Walked) → Walked) : Type 0 where
  pub sums : List Sum
  pub state : State
  pub held : Stacked a (v - m) v sums
  pub cells : total sums ≡ m
  pub few : m ≤ v
  pub stands : Stands a (v - m) env state
  pub same : (f : List Sum → State → Walked) → G f ≡ f sums state

-- an answer of the code is what G comes to: it goes on, or it is the same refusal whatever would have gone on
abbrev pub BegunAs : Begun → Arena → ℕ → ((List Sum → State → Walked) → Walked) → Type 0
BegunAs (Held env m) a v G = Holds a v m env G
BegunAs (Halted q at b) a v G = (f : List Sum → State → Walked) → G f ≡ stopped q at b

-- what was held before stays, and of every state that stands the answer is the definition's
pub record Begins (a a' : Arena) (v : ℕ) (env : AlgebraEnv) (r : Begun) (G : State → (List Sum → State → Walked) → Walked) : Type 0 where
  pub kept : Outside a a' 0 v
  pub begins : (st : State) → Stands a v env st → BegunAs r a' v (G st)

-- the same state with the stack up to u alone
abbrev pub up_to : ℕ → AlgebraEnv → AlgebraEnv
up_to u env = record { used = u; handled = env.handled; complex = env.complex; pairs = env.pairs }

-- of the sums from w up to the stack's end those of the lowest n cells are put below them once more
pub record CopiesBelow (a a' : Arena) (w n at v : ℕ) (env : AlgebraEnv) (r : Begun) : Type 0 where
  pub kept : Outside a a' 0 v
  pub copies : (ss ds : List Sum) (st : State) → Stacked a w env.used ss → Stacked a w (w + n) ds → Stands a v (up_to w env) st
      → BegunAs r a' v (λ f. and_then (lend at (places - v) (ss ++ ds) st) (λ st'. f [] st'))

-- sums of m cells that were held from v on are on the stack again
pub record PutsBack (a a' : Arena) (v m : ℕ) (env r : AlgebraEnv) : Type 0 where
  pub kept : Outside a a' 0 (v + m)
  pub back : (ss : List Sum) (st : State) → Stacked a v (v + m) ss → Stands a v env st → Stands a' (v + m) r (back_to ss st)
