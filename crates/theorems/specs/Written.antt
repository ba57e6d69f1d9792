-- What the entries write is good: a sum is taken again by whatever is handed its bytes, and a list keeps the rules of 11 and 13.
use Rattle.std.specs.Prelude.{ℕ, ◌*◌, ◌≡◌, Bool, List, take, Ok, Result}
use Rattle.limits.specs.Limits.{record_bytes, entry_bytes}
use Rattle.formats.specs.Rules.{verdict}
use Rattle.formats.specs.Tree.{records_in}
use Rattle.limits.specs.declared.Refusal.{Refusal}
use Rattle.sums.specs.Entry.Encoding.{entries_in}
use Rattle.sums.specs.Entry.Taking.{Weighed}
use Rattle.algebra.specs.declared.answer.Answer.TheVariants as given
use Rattle.algebra.specs.Answer.Making as making
use Rattle.algebra.specs.Answer.Making.{Gives, OfBytes}
use Rattle.algebra.specs.declared.ReadAnswer.TheVariants as answer
use Rattle.algebra.specs.Reading.{read_list}
use Rattle.algebra.specs.Entries as lists
use Rattle.theorems.specs.Composing.{ReadGives}

-- the output's first n entries are weighed as the n entries of a sum
abbrev pub SumTaken : ℕ → List ℕ → Type 0
SumTaken n out' = (t : Result ℕ Refusal) → Weighed (take (entry_bytes * n) out') t → t ≡ Ok n

-- the output's first n records are a list that isn't refused with 11 or 13
abbrev pub ListGood : ℕ → List ℕ → Type 0
ListGood n out' = verdict (take (record_bytes * n) out') ≡ Ok tt

-- the ten entries that write, where they tell n entries or n records
pub record WritesGood : Type 0 where
  pub read : (l out out' : List ℕ) (n k : ℕ) (c : Bool) → ReadGives (read_list l) out out' (answer.Sum n c k) → SumTaken n out'
  pub derive : (l out out' : List ℕ) (n : ℕ) → OfBytes entries_in making.derive l out out' (given.Done n) → SumTaken n out'
  pub integrate : (l out out' : List ℕ) (n : ℕ) → OfBytes entries_in making.integrate l out out' (given.Done n) → SumTaken n out'
  pub write : (c : Bool) (l out out' : List ℕ) (n : ℕ) → OfBytes records_in (making.write c) l out out' (given.Done n) → ListGood n out'
  pub derivative : (l out out' : List ℕ) (n : ℕ) → Gives records_in (lists.derivative l) out out' (given.Done n) → ListGood n out'
  pub integral : (l out out' : List ℕ) (n : ℕ) → Gives records_in (lists.integral l) out out' (given.Done n) → ListGood n out'
  pub write_faithful : (c : Bool) (l out out' : List ℕ) (n : ℕ) → OfBytes records_in (making.write_faithful c) l out out' (given.Done n) → ListGood n out'
  pub derivative_faithful : (l out out' : List ℕ) (n : ℕ) → Gives records_in (lists.derivative_faithful l) out out' (given.Done n) → ListGood n out'
  pub integral_faithful : (l out out' : List ℕ) (n : ℕ) → Gives records_in (lists.integral_faithful l) out out' (given.Done n) → ListGood n out'
  pub inverse : (l out out' : List ℕ) (n : ℕ) → Gives records_in (lists.inverse l) out out' (given.Done n) → ListGood n out'
