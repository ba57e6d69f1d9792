-- What a modifier does, in the order in which the code does it, named for the contracts of the functions that do it.
use Rattle.std.specs.Prelude.{ℕ, ◌+◌, ◌<◌, ◌≡◌, true, ◌⊎◌, List}
use Rattle.sums.specs.Tree.Sums.{Sum}
use Rattle.stack.specs.Stack.{total}
use Rattle.formats.specs.declared.record.Modifier.{Modifier}
use Rattle.formats.specs.declared.record.Modifier.TheVariants.{Dip, Gap, On, By, Both, Bracket, Fork, Unlisted}
use Rattle.formats.specs.declared.record.Record.{Record}
use Rattle.formats.specs.Names.{modifier_of}
use Rattle.formats.specs.Tree.{forest, count, next_of}
use Rattle.formats.specs.Contract.Walk.{Stretch}
use Rattle.stack.specs.State.{State, Walked, and_then, stop}
use Rattle.modifiers.specs.Holding.{back_to, holding, dropping, copying}
use Rattle.modifiers.specs.Modifiers.{modifier}
use Rattle.modifiers.specs.Reading.{runners}
use Rattle.modifiers.specs.Contract.Walks.{walk_of}
use Rattle.modifiers.specs.declared.Way.{Way}
use Rattle.modifiers.specs.declared.Way.TheVariants as way
use Rattle.modifiers.specs.declared.Use.{Use}
use Rattle.modifiers.specs.declared.Use.TheVariants.{Refused, Bodies, Forks}
use Rattle.modifiers.specs.declared.Plan.{Plan}

abbrev pub way_of : Modifier → Way
way_of Dip = way.One
way_of Gap = way.One
way_of On = way.One
way_of By = way.One
way_of Both = way.One
way_of Bracket = way.Two
way_of Fork = way.Any
way_of Unlisted = way.Unlisted

-- how many sums are held, and how many of them are copied
abbrev pub held_by : Modifier → ℕ → ℕ
held_by Dip n = 1
held_by Gap n = n
held_by On n = 1
held_by By n = n
held_by Both n = n
held_by Bracket n = n
held_by Fork n = n
held_by Unlisted n = n

abbrev pub lent_by : Modifier → ℕ
lent_by Dip = 0
lent_by Gap = 0
lent_by On = 1
lent_by By = 0
lent_by Both = 0
lent_by Bracket = 0
lent_by Fork = 0
lent_by Unlisted = 0

-- what is done to the stack before the first body runs, where the first in the list takes n arguments
unfoldable pub begin : Modifier → ℕ → ℕ → ℕ → State → (List Sum → State → Walked) → Walked
begin Dip n at h st f = holding at 1 0 h st f
begin Gap n at h st f = dropping at st f
begin On n at h st f = holding at 1 1 h st f
begin By n at h st f = copying at n h st f
begin Both n at h st f = holding at n 0 h st f
begin Bracket n at h st f = holding at n 0 h st f
begin Fork n at h st f = holding at n 0 h st f
begin Unlisted n at h st f = holding at n 0 h st f

-- the stretches that a modifier runs, of bodies from a on, the first of which ends at m and the last at e
abbrev pub twice : ℕ → ℕ → ℕ → ℕ → ℕ → Plan
twice n a b c d = record { from = a; to = b; again = c; until = d; args = n }

abbrev pub once : ℕ → ℕ → ℕ → ℕ → Plan
once n a m e = twice n a m e e

abbrev pub plan_by : Modifier → ℕ → ℕ → ℕ → ℕ → Plan
plan_by Dip n a m e = once n a m e
plan_by Gap n a m e = once n a m e
plan_by On n a m e = once n a m e
plan_by By n a m e = once n a m e
plan_by Both n a m e = twice n a m a m
plan_by Bracket n a m e = twice n m e a m
plan_by Fork n a m e = once n a m e
plan_by Unlisted n a m e = once n a m e

-- the modifier r at a place, whose bodies end at e
abbrev pub modified : List ℕ → ℕ → Record → ℕ → State → Walked
modified s at r h st = modifier at (modifier_of r.code) (runners (at + 1) (forest s (at + 1) (at + 1 + r.inside))) h st

-- one stretch is run, what is held is put back, and another is run
abbrev pub planned : List ℕ → Plan → ℕ → List Sum → State → Walked
planned s p h ss st = and_then (walk_of s p.from p.to (h + total ss) st) (λ st'. walk_of s p.again p.until h (back_to ss st'))

-- there is at most one node from a up to e
abbrev pub AtMostOne : List ℕ → ℕ → ℕ → Type 0
AtMostOne s a e = a < e → next_of s a ≡ e

-- a plan that a modifier follows: both stretches are of bodies, and of at most one
pub record Follows (s : List ℕ) (at : ℕ) (r : Record) (left : ℕ) (p : Plan) : Type 0 where
  pub first : Stretch s p.from p.to true left
  pub then : Stretch s p.again p.until true left
  pub first_one : AtMostOne s p.from p.to
  pub then_one : AtMostOne s p.again p.until
  pub same : (h : ℕ) (st : State) → modified s at r h st ≡ begin (modifier_of r.code) p.args at h st (planned s p h)

abbrev pub UsedAs : Use → List ℕ → ℕ → Record → Type 0
UsedAs (Refused q) s at r = (h : ℕ) (st : State) → modified s at r h st ≡ stop at q st
UsedAs Bodies s at r =
    ((way_of (modifier_of r.code) ≡ way.One) × (count (forest s (at + 1) (at + 1 + r.inside)) ≡ 1))
    ⊎ ((way_of (modifier_of r.code) ≡ way.Two) × (count (forest s (at + 1) (at + 1 + r.inside)) ≡ 2))
UsedAs Forks s at r = modifier_of r.code ≡ Fork
