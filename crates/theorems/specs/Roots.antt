-- Demand 3 where √x may be among the powers, as in the speed of a drag formula: how many records `derivative` writes, and what `run` of those very bytes gives at
-- every finite x. Demand 3 and the place of 15 as they stand for whole powers are what this says where there is no root.
use Rattle.std.specs.Prelude.{ℕ, ◌+◌, ◌*◌, ◌≤◌, ◌≡◌, Bool, true, false, ◌&&◌, List, [], ◌∷◌, ◌↔◌, T, Float, length, take}
use Rattle.std.proofs.Math.Option.{none, some}
use Rattle.std.specs.Float.Ieee.{lt}
use Rattle.std.specs.Float.Ieee.Scale.{finite}
use Rattle.numbers.specs.Signs.{zero64}
use Rattle.limits.specs.Limits.{record_bytes}
use Rattle.limits.specs.Refusals.{refusal_no}
use Rattle.limits.specs.declared.Refusal.TheVariants.{NeedsMath, NotFinite}
use Rattle.sums.specs.Tree.Sums.{Sum}
use Rattle.sums.specs.Tree.Map.{sum}
use Rattle.formats.specs.Tree.{records_in}
use Rattle.modifiers.specs.Reading.{done}
use Rattle.calculus.specs.Derivative.{derive}
use Rattle.running.specs.Running.{run_list, Value, Refused}
use Rattle.algebra.specs.declared.answer.Answer.{Answer}
use Rattle.algebra.specs.declared.answer.Answer.TheVariants.{Done}
use Rattle.algebra.specs.Answer.Making.{Gives}
use Rattle.algebra.specs.Reading.{read_list}
use Rattle.algebra.specs.Entries.{derivative}
use Rattle.algebra.specs.Replies as entry
use Rattle.uplink.specs.Told.{Told, Ran, with_count}
use Rattle.values.specs.Value.{whole, half, Power, power, value}
use Rattle.theorems.specs.Terms.{RootTerms, Rising}
use Rattle.theorems.specs.Records.{records, peak_of, exact_peak}
use Rattle.theorems.specs.Places.{in_all, first_not_finite}

-- ---- of which lists

-- l is read as the sum s, without a complex step; d is its derivative, whose terms that aren't zero are whole powers from 0 to 64 or the power 0.5, and ts lists them
pub record RootFormula (l : List ℕ) (ts : List Power) : Type 0 where
  pub s : Sum
  pub handled : Bool
  pub pairs : ℕ
  pub read : read_list l ≡ done s false handled pairs
  pub d : Sum
  pub derived : derive s ≡ sum d
  pub terms : RootTerms d ts

-- whether a root is among the terms
unfoldable pub any_root : List Power → Bool
any_root [] = false
any_root (power (whole k) c ∷ ts) = any_root ts
any_root (power half c ∷ ts) = true

-- whether a root is asked of a number below zero; -0 isn't below zero
abbrev pub lacks_root : Float → List Power → Bool
lacks_root x ts = lt x zero64 && any_root ts

-- the place of Sqrt: before the first term stand an On and its body for each later one, and before √x a constant at most, which takes four records
abbrev pub place_of_sqrt : List Power → ℕ
place_of_sqrt [] = 0
place_of_sqrt (power half c ∷ ts) = 2 * length ts
place_of_sqrt (power (whole k) c ∷ ts) = 2 * length ts + 4

-- ---- what is promised

-- `run` of the bytes b at a finite x. Where no root is asked of a number below zero and the terms added in rising power come to a finite value, it gives that value,
-- takes as many steps as there are records, and has the exact peak; where they don't, it refuses with 15 at the record that forms the first value that isn't finite.
-- Where a root is asked of a number below zero, it refuses with 14 at Sqrt: nothing is refused before that
pub record RootRuns (b : List ℕ) (ts : List Power) : Type 0 where
  pub gives : (x : Float) → T (finite x) → lacks_root x ts ≡ false → T (finite (value x ts)) → run_list b x ≡ Value (value x ts) (records ts) (exact_peak ts)
  pub refuses : (x : Float) (at : ℕ) → T (finite x) → lacks_root x ts ≡ false → first_not_finite (in_all x ts) ≡ some at → run_list b x ≡ Refused NotFinite at
  pub lacks : (x : Float) → T (finite x) → lacks_root x ts ≡ true → run_list b x ≡ Refused NeedsMath (place_of_sqrt ts)

-- the powers rise strictly: 0, 0.5, 1, 2, ..; every value formed is finite exactly where the value of the terms is; the peak is at most document 01's, and the same
-- where there is no root; `derivative`, lent an output with room for them, writes exactly document 01's number of records; and those very bytes run so
pub record RootSpeed (l : List ℕ) (ts : List Power) : Type 0 where
  pub rises : Rising 0 ts
  pub none_exactly : (x : Float) → T (finite x) → (first_not_finite (in_all x ts) ≡ none) ↔ T (finite (value x ts))
  pub at_most : exact_peak ts ≤ peak_of ts
  pub no_less : any_root ts ≡ false → exact_peak ts ≡ peak_of ts
  pub writes : (out out' : List ℕ) (r : Answer) → records ts ≤ records_in out → Gives records_in (derivative l) out out' r
      → (r ≡ Done (records ts)) × RootRuns (take (record_bytes * records ts) out') ts

-- for every list of bytes
abbrev pub Demand3Roots : Type 0
Demand3Roots = (l : List ℕ) (ts : List Power) → RootFormula l ts → RootSpeed l ts

-- ---- the same of the C functions

-- uplink_run of the bytes b at a finite x
pub record RootRunsTold (b : List ℕ) (ts : List Power) : Type 0 where
  pub gives : (x : Float) (no : ℕ) (v : Float) (answer : List ℕ) → T (finite x) → lacks_root x ts ≡ false → T (finite (value x ts)) → Ran x b no v answer
      → (no ≡ 0) × (v ≡ value x ts) × (answer ≡ 0 ∷ records ts ∷ exact_peak ts ∷ [])
  pub refuses : (x : Float) (at no : ℕ) (v : Float) (answer : List ℕ) → T (finite x) → lacks_root x ts ≡ false → first_not_finite (in_all x ts) ≡ some at → Ran x b no v answer
      → (no ≡ refusal_no NotFinite) × (v ≡ zero64) × (answer ≡ at ∷ 0 ∷ 0 ∷ [])
  pub lacks : (x : Float) (no : ℕ) (v : Float) (answer : List ℕ) → T (finite x) → lacks_root x ts ≡ true → Ran x b no v answer
      → (no ≡ refusal_no NeedsMath) × (v ≡ zero64) × (answer ≡ place_of_sqrt ts ∷ 0 ∷ 0 ∷ [])

-- uplink_derivative, lent an output with room for them, returns 0 and tells exactly document 01's number of records; and the bytes that it wrote run so
pub record RootSpeedTold (l : List ℕ) (ts : List Power) : Type 0 where
  pub writes : (out out' : List ℕ) (no : ℕ) (answer : List ℕ) → records ts ≤ records_in out → Told entry.derivative with_count l out out' no answer
      → (no ≡ 0) × (answer ≡ 0 ∷ records ts ∷ []) × RootRunsTold (take (record_bytes * records ts) out') ts

-- for every list of bytes
abbrev pub FunctionsRoots : Type 0
FunctionsRoots = (l : List ℕ) (ts : List Power) → RootFormula l ts → RootSpeedTold l ts
