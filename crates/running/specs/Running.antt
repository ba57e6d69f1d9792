-- The runner: nodes run in turn on a stack of numbers that starts with x, to a value with the steps and the peak, or a refusal with its place.
use Rattle.std.specs.Prelude.{ℕ, ◌+◌, max, Bool, true, false, List, [], ◌∷◌, eqb, leb, length, Float, Result, Ok, Err}
use Rattle.std.specs.Float.Ieee.Scale.{finite}
use Rattle.limits.specs.Limits.{run_values}
use Rattle.numbers.specs.Signs.{zero64}
use Rattle.limits.specs.declared.Refusal.{Refusal}
use Rattle.limits.specs.declared.Refusal.TheVariants.{TooManyVariables, NotSupported, NoOutput, TooManyOutputs, InterpreterBug, NoRoom, NotFinite}
use Rattle.limits.specs.Refusals.{refusal_no}
use Rattle.formats.specs.declared.record.Record.{Record}
use Rattle.formats.specs.declared.record.Modifier.TheVariants.{On}
use Rattle.formats.specs.Names.{kind_of, modifier_no}
use Rattle.formats.specs.Tree.{Nodes, end, rec, size, count, parse}
use Rattle.formats.specs.Rules.{verdict, Verdict}
use Rattle.running.specs.Primitives.{Act, went, stop, act, way_of}
use Rattle.running.specs.declared.Way.{Way}
use Rattle.running.specs.declared.Way.TheVariants.{Acts, Runs, Modifies}
use Rattle.running.specs.declared.RunValue.{RunValue}
use Rattle.running.specs.declared.Stopped.{Stopped}
use Rattle.running.specs.declared.RunNumbers.{RunNumbers}

-- ---- the state

-- the numbers on the stack, the top first; the records run; the most numbers there were on the stack and held
pub record Running : Type 0 where
  pub stack : List Float
  pub steps : ℕ
  pub peak : ℕ

pub data Out : Type 0 where
  done : Running → Out
  refused_at : Refusal → ℕ → Out

abbrev pub and_then : Out → (Running → Out) → Out
and_then (done st) f = f st
and_then (refused_at q at) f = refused_at q at

-- one step more, with so many numbers on the stack and held; over run_values of them is 12
abbrev pub if_room : Bool → ℕ → ℕ → List Float → Running → Out
if_room true n at s st = done (record { stack = s; steps = st.steps + 1; peak = max st.peak n })
if_room false n at s st = refused_at NoRoom at

-- the record at a place has taken its own step, with h numbers held
abbrev pub settle : ℕ → ℕ → Running → Act → Out
settle h at st (stop q) = refused_at q at
settle h at st (went s) = if_room (leb (length s + h) run_values) (length s + h) at s st

-- ---- modifiers: On alone is run

-- On holds the top number and leaves a copy of it on the stack
abbrev pub copied : List Float → Act
copied [] = stop TooManyVariables
copied (a ∷ s) = went (a ∷ s)

-- what was held goes on top of what the body leaves
abbrev pub give_back : List Float → Running → Out
give_back [] st = done st
give_back (a ∷ s) st = done (record { stack = a ∷ st.stack; steps = st.steps; peak = st.peak })

-- whether the modifier is On; whether it has one body; how what is inside runs with so many numbers held
abbrev pub modify : Bool → Bool → ℕ → ℕ → (ℕ → Running → Out) → Running → Out
modify false one h at inner st = refused_at NotSupported at
modify true false h at inner st = refused_at InterpreterBug at
modify true true h at inner st = and_then (settle (h + 1) at st (copied st.stack)) (λ st'. and_then (inner (h + 1) st') (give_back st.stack))

-- ---- nodes

-- a record that runs what is inside it is a step, and adds no number
abbrev pub stepped : Running → Running
stepped st = record { stack = st.stack; steps = st.steps + 1; peak = st.peak }

-- one record, with h numbers held, and how what is inside it runs
abbrev pub run_by : Result Way Refusal → Record → Nodes → (ℕ → Running → Out) → ℕ → ℕ → Running → Out
run_by (Ok (Acts d)) r ns inner at h st = settle h at st (act d r st.stack)
run_by (Ok Runs) r ns inner at h st = inner h (stepped st)
run_by (Ok Modifies) r ns inner at h st = modify (eqb r.code (modifier_no On)) (eqb (count ns) 1) h at inner st
run_by (Err q) r ns inner at h st = refused_at q at

-- the nodes in turn, the first of which stands at the place
unfoldable pub runs : Nodes → ℕ → ℕ → Running → Out
runs end at h st = done st
runs (rec r ns ms) at h st = and_then (run_by (way_of (kind_of r.kind)) r ns (runs ns (at + 1)) at h st) (runs ms (at + 1 + size ns) h)

-- a modifier, and any record, with what is inside it
unfoldable pub modified : Record → Nodes → ℕ → ℕ → Running → Out
modified r ns at h st = run_by (Ok Modifies) r ns (runs ns (at + 1)) at h st

unfoldable pub run_one : Record → Nodes → ℕ → ℕ → Running → Out
run_one r ns at h st = run_by (way_of (kind_of r.kind)) r ns (runs ns (at + 1)) at h st

-- ---- the whole

-- a value with the steps and the peak, or a refusal with its place
abbrev pub RunAnswer : Type 0
RunAnswer = Result RunValue Stopped

abbrev pub Value : Float → ℕ → ℕ → RunAnswer
Value v steps peak = Ok (record { value = v; steps = steps; peak = peak })

abbrev pub Refused : Refusal → ℕ → RunAnswer
Refused q at = Err (record { why = q; place = at })

-- one number must be left: else 3 or 4, at place 0
abbrev pub last_of : List Float → ℕ → ℕ → RunAnswer
last_of [] steps peak = Refused NoOutput 0
last_of (v ∷ []) steps peak = Value v steps peak
last_of (v ∷ w ∷ s) steps peak = Refused TooManyOutputs 0

abbrev pub ended : Out → RunAnswer
ended (done st) = last_of st.stack st.steps st.peak
ended (refused_at q at) = Refused q at

-- x alone on the stack, which is a peak of 1
abbrev pub start : Float → Running
start x = record { stack = x ∷ []; steps = 0; peak = 1 }

unfoldable pub run_nodes : Nodes → Float → RunAnswer
run_nodes ns x = ended (runs ns 0 0 (start x))

-- 11 and 13 come first, then 15 for x
abbrev pub judged : Verdict → Bool → Nodes → Float → RunAnswer
judged (Err q) b ns x = Refused q 0
judged (Ok tt) false ns x = Refused NotFinite 0
judged (Ok tt) true ns x = run_nodes ns x

unfoldable pub run_list : List ℕ → Float → RunAnswer
run_list s x = judged (verdict s) (finite x) (parse s) x

-- document 01's number, place, value, steps and peak
abbrev pub numbers_of : RunAnswer → RunNumbers
numbers_of (Ok v) = record { number = 0; place = 0; value = v.value; steps = v.steps; peak = v.peak }
numbers_of (Err s) = record { number = refusal_no s.why; place = s.place; value = zero64; steps = 0; peak = 0 }
