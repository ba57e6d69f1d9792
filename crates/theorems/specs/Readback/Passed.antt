-- A formula handed over as bytes, written, read and written again, over what the entries promise.
use Rattle.std.specs.Prelude.{ℕ, ◌*◌, ◌≤◌, ◌≡◌, Bool, false, ◌&&◌, List, take}
use Rattle.limits.specs.Limits.{record_bytes, entry_bytes, sum_entries}
use Rattle.sums.specs.Tree.Sums.{Sum, size}
use Rattle.formats.specs.Tree.{records_in}
use Rattle.sums.specs.Entry.Encoding.{entries_in, encode_sum}
use Rattle.algebra.specs.declared.answer.Answer.{Answer}
use Rattle.algebra.specs.declared.answer.Answer.TheVariants as given
use Rattle.algebra.specs.Answer.Making as making
use Rattle.algebra.specs.Answer.Making.{OfBytes}
use Rattle.algebra.specs.declared.ReadAnswer.{ReadAnswer}
use Rattle.algebra.specs.declared.ReadAnswer.TheVariants as answer
use Rattle.algebra.specs.Reading.{read_list}
use Rattle.theorems.specs.Composing.{ReadGives}
use Rattle.theorems.specs.Readback.Terms.{terms, PowerFormula, wrote_pair}
use Rattle.theorems.specs.Readback.ReadBack.{ReadBack}

-- `write` is handed the bytes of s, and answers r
abbrev pub Writes : Bool → Sum → List ℕ → List ℕ → Answer → Type 0
Writes flag s out out' r = OfBytes records_in (making.write flag) (encode_sum s) out out' r

-- the bytes of s go out, and those of t come back
pub record Passed (flag : Bool) (s : Sum) : Type 0 where
  pub t : Sum
  pub back : ReadBack s t
  pub pairs : ℕ
  -- `write`, lent an output with room for so many records, succeeds
  pub records : ℕ
  pub writes : (out out' : List ℕ) (r : Answer) → records ≤ records_in out → Writes flag s out out' r → r ≡ given.Done records
  -- where it wrote n records, `read` of these, lent an output with room for a sum's most entries, tells those of t, with the flag and some pairs, and writes the bytes of t
  pub reads : (out₁ out₁' out₂ out₂' : List ℕ) (n : ℕ) (r : ReadAnswer) → Writes flag s out₁ out₁' (given.Done n) → sum_entries ≤ entries_in out₂
      → ReadGives (read_list (take (record_bytes * n) out₁')) out₂ out₂' r
      → (r ≡ answer.Sum (size t) (flag && wrote_pair (terms s)) pairs) × (take (entry_bytes * size t) out₂' ≡ encode_sum t)

-- with either flag; a sum that is handed over has an entry
abbrev pub Passes : Type 0
Passes = (flag : Bool) (s : Sum) → PowerFormula s → 1 ≤ size s → Passed flag s

-- where real parts are written: `write` wrote n records, of which `read` wrote m entries; `write` of these, lent room for n records, writes the very bytes again
abbrev pub Stays : Type 0
Stays = (s : Sum) → PowerFormula s → 1 ≤ size s → (out₁ out₁' out₂ out₂' out₃ out₃' : List ℕ) (n m k : ℕ) (c : Bool) (r : Answer) → Writes false s out₁ out₁' (given.Done n)
    → ReadGives (read_list (take (record_bytes * n) out₁')) out₂ out₂' (answer.Sum m c k) → n ≤ records_in out₃
    → OfBytes records_in (making.write false) (take (entry_bytes * m) out₂') out₃ out₃' r
    → (r ≡ given.Done n) × (take (record_bytes * n) out₃' ≡ take (record_bytes * n) out₁')
