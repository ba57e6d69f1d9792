-- The code's state and answers, held to those of the definitions. The stack lies in the arena behind the working places; from v on lies what is held.
use Rattle.std.specs.Prelude.{ℕ, ◌+◌, ◌≤◌, min, ◌≡◌, Bool, false}
use Rattle.limits.specs.declared.Refusal.{Refusal}
use Rattle.stack.specs.State.{State, Walked, went, stopped, most_pairs}
use Rattle.stack.specs.Contract.Arena.{Arena, Space, working, places}
use Rattle.stack.specs.Contract.Stacked.{Stacked}
use Rattle.stack.specs.Contract.Blocks.{Outside}
use Rattle.stack.specs.declared.state.AlgebraEnv.{AlgebraEnv}
use Rattle.stack.specs.declared.state.Ran.{Ran}
use Rattle.stack.specs.declared.state.Ran.TheVariants as ran
use Rattle.stack.specs.declared.state.Stepped.{Stepped}
use Rattle.stack.specs.declared.state.Stepped.TheVariants.{Went, Stopped}

-- the state st stands in the arena
pub record Stands (a : Arena) (v : ℕ) (env : AlgebraEnv) (st : State) : Type 0 where
  pub stack : Stacked a working env.used st.stack
  pub below : env.used ≤ v
  pub handled : env.handled ≡ st.handled
  pub complex : env.complex ≡ st.complex
  pub pairs : env.pairs ≡ min most_pairs st.pairs

-- what a step asks for: no place from v on, so that what is held there, or a smaller arena, is all one to it
pub record Ready (a : Arena) (v : ℕ) (env : AlgebraEnv) : Type 0 where
  pub space : Space a v
  pub within : v ≤ places
  pub some : (st : State) × Stands a v env st

-- the same refusal, at the same place
pub record Same (q : Refusal) (at : ℕ) (b : Bool) (q' : Refusal) (at' : ℕ) (b' : Bool) : Type 0 where
  pub refusal : q ≡ q'
  pub place : at ≡ at'
  pub handled : b ≡ b'

abbrev pub Agree : Ran → Arena → ℕ → Walked → Type 0
Agree (ran.Went env) a v (went st) = Stands a v env st
Agree (ran.Went env) a v (stopped q at b) = ⊥
Agree (ran.Stopped q at b) a v (went st) = ⊥
Agree (ran.Stopped q at b) a v (stopped q' at' b') = Same q at b q' at' b'

-- a step: what is held stays, and the answer is the definition's
pub record Does (a a' : Arena) (v : ℕ) (env : AlgebraEnv) (r : Ran) (f : State → Walked) : Type 0 where
  pub kept : Outside a a' 0 v
  pub agrees : (st : State) → Stands a v env st → Agree r a' v (f st)

-- ---- steps that know the stack's end and how many primitives were handled, and leave counting to the walk

abbrev pub env_of : ℕ → ℕ → Bool → ℕ → AlgebraEnv
env_of used handled complex pairs = record { used = used; handled = handled; complex = complex; pairs = pairs }

-- what such a step asks for: neither the complex flag nor the pairs so far matter to it
abbrev pub Prepared : Arena → ℕ → ℕ → ℕ → Type 0
Prepared a v used handled = Ready a v (env_of used handled false 0)

-- its answer as one of a walk, where the record stands at a place, with the pairs that it adds
abbrev pub ran_of : ℕ → ℕ → Bool → ℕ → Stepped → Ran
ran_of at handled complex pairs (Went used more) = ran.Went (env_of used handled complex (min most_pairs (pairs + more)))
ran_of at handled complex pairs (Stopped q b) = ran.Stopped q at b

-- such a step, whatever the complex flag and the pairs so far are
abbrev pub Acts : Arena → Arena → ℕ → ℕ → ℕ → ℕ → Stepped → (State → Walked) → Type 0
Acts a a' v used handled at r f = (complex : Bool) (pairs : ℕ) → Does a a' v (env_of used handled complex pairs) (ran_of at handled complex pairs r) f
