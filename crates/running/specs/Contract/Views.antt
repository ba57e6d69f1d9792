-- The first n numbers of an array as a stack, the last on top; what the code's answers say of it, and what the functions that call each other ask for.
use Rattle.std.specs.Prelude.{ℕ, zero, suc, ◌+◌, ◌-◌, ◌≤◌, ◌<◌, min, Bool, ◌||◌, List, [], ◌∷◌, eqb, length, get_or, Float, Result, Ok, Err}
use Rattle.std.specs.Float.{nan}
use Rattle.limits.specs.Limits.{list_records, run_values}
use Rattle.formats.specs.declared.record.Record.{Record}
use Rattle.formats.specs.declared.record.Kind.TheVariants.{RealPush, Primitive, Modifier}
use Rattle.formats.specs.Names.{kind_no}
use Rattle.formats.specs.Rules.{is_a}
use Rattle.formats.specs.Contract.Walk.{Stretch}
use Rattle.running.specs.Primitives.{Act, went, stop}
use Rattle.running.specs.Running.{Running, Out, done, refused_at}
use Rattle.running.specs.declared.State.{State}
use Rattle.running.specs.declared.Stopped.{Stopped}
use Rattle.limits.specs.declared.Refusal.{Refusal}

-- a record of the kind is a push of a real number or a primitive
unfoldable pub plain : ℕ → Bool
plain kind = eqb kind (kind_no RealPush) || eqb kind (kind_no Primitive)

-- the first n numbers, the last on top
unfoldable pub stack_of : List Float → ℕ → List Float
stack_of xs zero = []
stack_of xs (suc n) = get_or xs n nan ∷ stack_of xs n

abbrev pub view_did : List Float → Result ℕ Refusal → Act
view_did xs (Ok n) = went (stack_of xs n)
view_did xs (Err q) = stop q

-- at most m numbers are on the stack
abbrev pub Under : ℕ → Result ℕ Refusal → Type 0
Under m (Ok n) = n ≤ m
Under m (Err q) = Unit {0}

-- at most k with the h held
abbrev pub Within : ℕ → ℕ → Result ℕ Refusal → Type 0
Within h k (Ok n) = n + h ≤ k
Within h k (Err q) = Unit {0}

abbrev pub view_state : List Float → State → Running
view_state xs st = record { stack = stack_of xs st.n; steps = st.steps; peak = st.peak }

abbrev pub view_ran : List Float → Result State Stopped → Out
view_ran xs (Ok st) = done (view_state xs st)
view_ran xs (Err s) = refused_at s.why s.place

-- at most run_values numbers with the h held, at most one more than steps, and at most m steps
abbrev pub Room : ℕ → ℕ → Result State Stopped → Type 0
Room h m (Ok st) = (st.n + h ≤ run_values) × (st.n + h ≤ st.steps + 1) × (st.steps ≤ m)
Room h m (Err s) = Unit {0}

-- the records from a up to e may be run: of a list of `most` records there is a step left for each of them, and room for the numbers, of which a step adds one at most
pub record Ready (s : List ℕ) (a e : ℕ) (xs : List Float) (st : State) (h left : ℕ) : Type 0 where
  pub stretch : (b : Bool) × Stretch s a e b left
  pub most : ℕ
  pub few : most ≤ list_records
  pub steps : st.steps + (e - a) ≤ most
  pub values : min run_values (most + 1) + 3 ≤ length xs
  pub room : st.n + h ≤ run_values
  pub adds : st.n + h ≤ st.steps + 1

-- the record r at a place may be run, with what is inside it
pub record ReadyOne (s : List ℕ) (at : ℕ) (r : Record) (xs : List Float) (st : State) (h left : ℕ) : Type 0 where
  pub levels : 0 < left
  pub inside : Stretch s (at + 1) (at + 1 + r.inside) (is_a r Modifier) (left - 1)
  pub most : ℕ
  pub few : most ≤ list_records
  pub steps : st.steps + 1 + r.inside ≤ most
  pub values : min run_values (most + 1) + 3 ≤ length xs
  pub room : st.n + h ≤ run_values
  pub adds : st.n + h ≤ st.steps + 1
