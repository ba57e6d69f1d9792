-- The demands, of the C functions: the number that one returns, and what then stands in `answer` and in the output. `Told` is the contract of eleven of them, whose
-- entry it names, `Valued` of uplink_value, and `Ran`, which is `Valued` with the entry run, of uplink_run.
use Rattle.std.specs.Prelude.{ℕ, ◌*◌, ◌≤◌, ◌≡◌, List, [], ◌∷◌, ◌⊎◌, T, Float, take}
use Rattle.std.specs.Float.Ieee.Scale.{finite}
use Rattle.numbers.specs.Signs.{zero64}
use Rattle.limits.specs.Limits.{record_bytes}
use Rattle.limits.specs.declared.Refusal.{Refusal}
use Rattle.limits.specs.declared.Refusal.TheVariants.{NotFinite}
use Rattle.limits.specs.Refusals.{refusal_no}
use Rattle.formats.specs.Tree.{records_in}
use Rattle.algebra.specs.Replies as entry
use Rattle.algebra.specs.Replies.{Entry, Reply}
use Rattle.uplink.specs.Told.{Told, Valued, Ran, with_count, with_pairs, with_cost}
use Rattle.values.specs.Value.{Power, value}
use Rattle.theorems.specs.Records.{records, peak_of}
use Rattle.theorems.specs.Demands.{Numbered}
use Rattle.theorems.specs.Demand3.{Formula}

-- ---- demand 1

-- the number of one refusal of the table; `answer` is a place and then zeros; no output byte was changed
pub record ToldRefusal (zeros out out' : List ℕ) (number : ℕ) (answer : List ℕ) : Type 0 where
  pub refusal : Refusal
  pub place : ℕ
  pub returned : number ≡ refusal_no refusal
  pub numbered : Numbered number
  pub told : answer ≡ place ∷ zeros
  pub quiet : out' ≡ out

-- each function returns 0, or refuses: those that tell a count, uplink_read, which tells a flag too, uplink_run and uplink_value, whose value is then +0, and uplink_cost
pub record FunctionsAnswer : Type 0 where
  pub counts : (e : Entry) (l out out' : List ℕ) (no : ℕ) (answer : List ℕ) → Told e with_count l out out' no answer → (no ≡ 0) ⊎ ToldRefusal (0 ∷ []) out out' no answer
  pub flags : (e : Entry) (l out out' : List ℕ) (no : ℕ) (answer : List ℕ) → Told e with_pairs l out out' no answer → (no ≡ 0) ⊎ ToldRefusal (0 ∷ 0 ∷ 0 ∷ []) out out' no answer
  pub runs : (x : Float) (l : List ℕ) (no : ℕ) (v : Float) (answer : List ℕ) → Ran x l no v answer → (no ≡ 0) ⊎ (ToldRefusal (0 ∷ 0 ∷ []) [] [] no answer × (v ≡ zero64))
  pub values : (e : Entry) (l : List ℕ) (no : ℕ) (v : Float) (answer : List ℕ) → Valued e with_count l no v answer → (no ≡ 0) ⊎ (ToldRefusal (0 ∷ []) [] [] no answer × (v ≡ zero64))
  pub costs : (e : Entry) (l out out' : List ℕ) (no : ℕ) (answer : List ℕ) → Told e with_cost l out out' no answer → (no ≡ 0) ⊎ ToldRefusal (0 ∷ []) out out' no answer

-- ---- determined

-- what the contract allows for one input and one output is one number, one `answer`, and one list of bytes or one value
pub record FunctionsDetermined : Type 0 where
  pub tells : (e : Entry) (shown : Reply → List ℕ) (l out out₁ out₂ : List ℕ) (no₁ no₂ : ℕ) (answer₁ answer₂ : List ℕ)
      → Told e shown l out out₁ no₁ answer₁ → Told e shown l out out₂ no₂ answer₂ → (no₁ ≡ no₂) × (answer₁ ≡ answer₂) × (out₁ ≡ out₂)
  pub values : (e : Entry) (shown : Reply → List ℕ) (l : List ℕ) (no₁ no₂ : ℕ) (v₁ v₂ : Float) (answer₁ answer₂ : List ℕ)
      → Valued e shown l no₁ v₁ answer₁ → Valued e shown l no₂ v₂ answer₂ → (no₁ ≡ no₂) × (v₁ ≡ v₂) × (answer₁ ≡ answer₂)

-- ---- demand 3

-- uplink_run of the bytes b at a finite x: where the terms added in rising power come to a finite value, the number is 0, and value, steps and peak are that value,
-- the number of records and document 01's peak; where they don't, the number is 15, the value +0, and `answer` is a place, 0 and 0
pub record RunsTold (b : List ℕ) (ts : List Power) : Type 0 where
  pub gives : (x : Float) (no : ℕ) (v : Float) (answer : List ℕ) → T (finite x) → T (finite (value x ts)) → Ran x b no v answer
      → (no ≡ 0) × (v ≡ value x ts) × (answer ≡ 0 ∷ records ts ∷ peak_of ts ∷ [])
  pub refuses : (x : Float) (no : ℕ) (v : Float) (answer : List ℕ) → T (finite x) → (T (finite (value x ts)) → ⊥) → Ran x b no v answer
      → (no ≡ refusal_no NotFinite) × (v ≡ zero64) × ((at : ℕ) × (answer ≡ at ∷ 0 ∷ 0 ∷ []))

-- uplink_derivative, lent an output with room for them, returns 0 and tells exactly document 01's number of records; and the bytes that it wrote run so
pub record SpeedTold (l : List ℕ) (ts : List Power) : Type 0 where
  pub writes : (out out' : List ℕ) (no : ℕ) (answer : List ℕ) → records ts ≤ records_in out → Told entry.derivative with_count l out out' no answer
      → (no ≡ 0) × (answer ≡ 0 ∷ records ts ∷ []) × RunsTold (take (record_bytes * records ts) out') ts

-- for every list of bytes
abbrev pub FunctionsSpeed : Type 0
FunctionsSpeed = (l : List ℕ) (ts : List Power) → Formula l ts → SpeedTold l ts
