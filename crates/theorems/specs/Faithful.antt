-- The entries with the second writer, of sums and formulas of powers: they make what their namesakes make, to the byte, so demand 3 holds of them as well.
use Rattle.std.specs.Prelude.{ℕ, ◌*◌, ◌≤◌, ◌≡◌, Bool, List, [], ◌∷◌, take}
use Rattle.limits.specs.Limits.{record_bytes}
use Rattle.sums.specs.Tree.Sums.{Sum}
use Rattle.sums.specs.Tree.Map.{sum}
use Rattle.formats.specs.Tree.{records_in}
use Rattle.modifiers.specs.Reading.{done}
use Rattle.calculus.specs.Derivative.{derive}
use Rattle.calculus.specs.Integral.{integrate}
use Rattle.writing.specs.Alike.{OfPowers}
use Rattle.algebra.specs.declared.answer.Answer.{Answer}
use Rattle.algebra.specs.declared.answer.Answer.TheVariants.{Done}
use Rattle.algebra.specs.Answer.Making.{write, write_faithful, Gives}
use Rattle.algebra.specs.Reading.{read_list}
use Rattle.algebra.specs.Entries.{derivative, integral, derivative_faithful, integral_faithful}
use Rattle.algebra.specs.Replies as entry
use Rattle.uplink.specs.Told.{Told, with_count}
use Rattle.values.specs.Value.{Power}
use Rattle.theorems.specs.Records.{records}
use Rattle.theorems.specs.Demand3.{Formula, Runs}
use Rattle.theorems.specs.Functions.{RunsTold}

-- ---- the same bytes

-- of a sum, and of a list whose derivative or integral is one, whose outermost terms that aren't zero are powers of x; refusals too
pub record SameAsRust : Type 0 where
  pub write : (c : Bool) (s : Sum) → OfPowers s → write_faithful c s ≡ write c s
  pub derivative : (l : List ℕ) (s d : Sum) (c h : Bool) (k : ℕ) → read_list l ≡ done s c h k → derive s ≡ sum d → OfPowers d → derivative_faithful l ≡ derivative l
  pub integral : (l : List ℕ) (s d : Sum) (c h : Bool) (k : ℕ) → read_list l ≡ done s c h k → integrate s ≡ sum d → OfPowers d → integral_faithful l ≡ integral l

-- ---- demand 3

-- for every list of bytes: lent an output with room for them, derivative_faithful writes exactly document 01's number of records; and those very bytes run as demand 3 has it
abbrev pub FaithfulSpeed : Type 0
FaithfulSpeed = (l : List ℕ) (ts : List Power) → Formula l ts → (out out' : List ℕ) (r : Answer) → records ts ≤ records_in out → Gives records_in (derivative_faithful l) out out' r
    → (r ≡ Done (records ts)) × Runs (take (record_bytes * records ts) out') ts

-- so too of the C function
abbrev pub FaithfulSpeedTold : Type 0
FaithfulSpeedTold = (l : List ℕ) (ts : List Power) → Formula l ts → (out out' : List ℕ) (no : ℕ) (answer : List ℕ) → records ts ≤ records_in out
    → Told entry.derivative_faithful with_count l out out' no answer → (no ≡ 0) × (answer ≡ 0 ∷ records ts ∷ []) × RunsTold (take (record_bytes * records ts) out') ts
