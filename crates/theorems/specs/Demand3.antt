-- Demand 3, from bytes to bits: how many records `derivative` writes for a formula of whole powers, and what `run` of those very bytes gives.
use Rattle.std.specs.Prelude.{ℕ, ◌*◌, ◌≤◌, ◌≡◌, Bool, false, List, T, Float, take}
use Rattle.std.specs.Float.Ieee.Scale.{finite}
use Rattle.limits.specs.Limits.{record_bytes}
use Rattle.limits.specs.declared.Refusal.TheVariants.{NotFinite}
use Rattle.sums.specs.Tree.Sums.{Sum}
use Rattle.sums.specs.Tree.Map.{sum}
use Rattle.formats.specs.Tree.{records_in}
use Rattle.modifiers.specs.Reading.{done}
use Rattle.calculus.specs.Derivative.{derive}
use Rattle.running.specs.Running.{run_list, Value, Refused}
use Rattle.algebra.specs.declared.answer.Answer.{Answer}
use Rattle.algebra.specs.declared.answer.Answer.TheVariants.{Done}
use Rattle.algebra.specs.Answer.Making.{Gives}
use Rattle.algebra.specs.Reading.{read_list}
use Rattle.algebra.specs.Entries.{derivative}
use Rattle.values.specs.Value.{Power, value}
use Rattle.theorems.specs.Terms.{Terms, Rising}
use Rattle.theorems.specs.Records.{records, peak_of}

-- ---- of which lists

-- l is read as the sum s, without a complex step; d is its derivative, whose terms that aren't zero are whole powers from 0 to 64, and ts lists them
pub record Formula (l : List ℕ) (ts : List Power) : Type 0 where
  pub s : Sum
  pub handled : Bool
  pub pairs : ℕ
  pub read : read_list l ≡ done s false handled pairs
  pub d : Sum
  pub derived : derive s ≡ sum d
  pub terms : Terms d ts

-- ---- what is promised

-- `run` of the bytes b at a finite x: where the terms added in rising power come to a finite value, it gives that value, takes as many steps as there are
-- records, and has document 01's peak; where they don't, it refuses with 15, at some place
pub record Runs (b : List ℕ) (ts : List Power) : Type 0 where
  pub gives : (x : Float) → T (finite x) → T (finite (value x ts)) → run_list b x ≡ Value (value x ts) (records ts) (peak_of ts)
  pub refuses : (x : Float) → T (finite x) → (T (finite (value x ts)) → ⊥) → (at : ℕ) × (run_list b x ≡ Refused NotFinite at)

-- the powers rise strictly; `derivative`, lent an output with room for them, writes exactly document 01's number of records; and those very bytes run so
pub record Speed (l : List ℕ) (ts : List Power) : Type 0 where
  pub rises : Rising 0 ts
  pub writes : (out out' : List ℕ) (r : Answer) → records ts ≤ records_in out → Gives records_in (derivative l) out out' r
      → (r ≡ Done (records ts)) × Runs (take (record_bytes * records ts) out') ts

-- ---- the demand

-- for every list of bytes
abbrev pub Demand3 : Type 0
Demand3 = (l : List ℕ) (ts : List Power) → Formula l ts → Speed l ts
