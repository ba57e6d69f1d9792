-- What the functions that call each other ask for and do.
use Rattle.std.specs.Prelude.{ℕ, ◌+◌, ◌-◌, ◌≤◌, ◌≡◌, Bool, true, List, length}
use Rattle.sums.specs.Tree.Sums.{Sum}
use Rattle.formats.specs.declared.record.Record.{Record}
use Rattle.formats.specs.declared.record.Kind.TheVariants.{Modifier}
use Rattle.formats.specs.Tree.{forest, height}
use Rattle.formats.specs.Rules.{is_a}
use Rattle.formats.specs.Contract.Walk.{Stretch}
use Rattle.stack.specs.Contract.Arena.{Arena, Space, places}
use Rattle.stack.specs.Contract.Stacked.{Stacked}
use Rattle.stack.specs.Contract.Blocks.{Outside}
use Rattle.stack.specs.State.{State}
use Rattle.stack.specs.Contract.Agree.{Stands, Ready, Agree, Does}
use Rattle.stack.specs.declared.state.AlgebraEnv.{AlgebraEnv}
use Rattle.stack.specs.declared.state.Ran.{Ran}
use Rattle.modifiers.specs.Modifiers.{forked}
use Rattle.modifiers.specs.Reading.{runners}
use Rattle.modifiers.specs.Contract.Plans.{planned, AtMostOne}
use Rattle.modifiers.specs.declared.Plan.{Plan}

-- the records from a up to e keep the rules, and are bodies where b says so
abbrev pub Keeps : List ℕ → ℕ → ℕ → Bool → Type 0
Keeps s a e b = Stretch s a e b (height (forest s a e))

-- of bodies there is at most one
abbrev pub OneBody : List ℕ → ℕ → ℕ → Bool → Type 0
OneBody s a e b = b ≡ true → AtMostOne s a e

-- what is inside the record r at a place
abbrev pub Inner : List ℕ → ℕ → Record → Type 0
Inner s at r = Keeps s (at + 1) (at + 1 + r.inside) (is_a r Modifier)

-- bodies from a up to e
abbrev pub Bodily : List ℕ → ℕ → ℕ → Type 0
Bodily s a e = Keeps s a e true

-- both stretches of a plan
pub record Planned (s : List ℕ) (p : Plan) : Type 0 where
  pub first : Bodily s p.from p.to
  pub then : Bodily s p.again p.until
  pub first_one : AtMostOne s p.from p.to
  pub then_one : AtMostOne s p.again p.until

-- sums of m cells are held just below v, and a state stands
pub record Round (a : Arena) (v m : ℕ) (env : AlgebraEnv) : Type 0 where
  pub ready : Ready a (v - m) env
  pub few : m ≤ v
  pub space : Space a v
  pub within : v ≤ places
  pub held : (ss : List Sum) × Stacked a (v - m) v ss

pub record Rounds (a a' : Arena) (v m : ℕ) (env : AlgebraEnv) (r : Ran) (s : List ℕ) (p : Plan) : Type 0 where
  pub kept : Outside a a' 0 v
  pub agrees : (ss : List Sum) (st : State) → Stacked a (v - m) v ss → Stands a (v - m) env st → Agree r a' v (planned s p (places - v) ss st)

-- k sums of m cells are held from v on
pub record Many (a : Arena) (v m k : ℕ) : Type 0 where
  pub space : Space a (v + m)
  pub held : (ss : List Sum) × Stacked a v (v + m) ss × (length ss ≡ k)

pub record Forks (a a' : Arena) (v m k : ℕ) (env : AlgebraEnv) (r : Ran) (s : List ℕ) (at from to : ℕ) : Type 0 where
  pub kept : Outside a a' 0 v
  pub forks : (ss : List Sum) → Stacked a v (v + m) ss → length ss ≡ k → Does a a' v env r (λ st. forked at (places - v) ss (runners from (forest s from to)) st)
