-- The entries compose through bytes: `derivative` is read, derive and write, and `integral` is read, integrate and write; so too with the second writer.
use Rattle.std.specs.Prelude.{ℕ, ◌*◌, min, ◌≡◌, Bool, List, take}
use Rattle.limits.specs.Limits.{entry_bytes}
use Rattle.limits.specs.declared.Refusal.{Refusal}
use Rattle.limits.specs.declared.Refusal.TheVariants.{OutputRoom}
use Rattle.sums.specs.Tree.Sums.{Sum, size}
use Rattle.formats.specs.Tree.{records_in}
use Rattle.sums.specs.Entry.Encoding.{entries_in, encode_sum}
use Rattle.stack.specs.State.{most_pairs}
use Rattle.modifiers.specs.Reading.{Read, done}
use Rattle.algebra.specs.declared.answer.Answer.{Answer}
use Rattle.algebra.specs.declared.answer.Answer.TheVariants as given
use Rattle.algebra.specs.Answer.Promises.{Promise}
use Rattle.algebra.specs.Answer.Making as making
use Rattle.algebra.specs.Answer.Making.{Made, Gives, OfBytes}
use Rattle.algebra.specs.declared.ReadAnswer.{ReadAnswer}
use Rattle.algebra.specs.declared.ReadAnswer.TheVariants as answer
use Rattle.algebra.specs.Reading.{read_list, answer_of, bytes_of}
use Rattle.algebra.specs.Entries as lists

-- what `read` promises where x is read
abbrev pub ReadGives : Read → List ℕ → List ℕ → ReadAnswer → Type 0
ReadGives x out out' a = Promise (answer_of x) (bytes_of x) out out' a

-- it tells n entries, the flag c and k pairs: x is a sum of n entries with that flag and those pairs, as they are told, and the sum's bytes are the output's first
pub record ReadTold (x : Read) (n : ℕ) (c : Bool) (k : ℕ) (out' : List ℕ) : Type 0 where
  pub s : Sum
  pub handled : Bool
  pub pairs : ℕ
  pub is : x ≡ done s c handled pairs
  pub told : k ≡ min most_pairs pairs
  pub many : n ≡ size s
  pub bytes : take (entry_bytes * n) out' ≡ encode_sum s

-- The whole, of a list, is what the part makes of a sum, between read and a writer.
-- Read wrote n entries, of whose bytes the part wrote m, to whose bytes the writer answers r: so does the whole to the list.
-- What the part or read refuses, but for want of room, the whole refuses.
pub record Composes (part : Sum → Made) (writer : Bool → Sum → Made) (whole : List ℕ → Made) : Type 0 where
  pub writes : (l out₁ out₁' out₂ out₂' out out' : List ℕ) (n m k : ℕ) (c : Bool) (r : Answer) → ReadGives (read_list l) out₁ out₁' (answer.Sum n c k)
      → OfBytes entries_in part (take (entry_bytes * n) out₁') out₂ out₂' (given.Done m) → OfBytes records_in (writer c) (take (entry_bytes * m) out₂') out out' r
      → Gives records_in (whole l) out out' r
  pub refuses : (l out₁ out₁' out₂ out₂' out : List ℕ) (n k : ℕ) (c : Bool) (q : Refusal) (at : ℕ) → (q ≡ OutputRoom → ⊥) → ReadGives (read_list l) out₁ out₁' (answer.Sum n c k)
      → OfBytes entries_in part (take (entry_bytes * n) out₁') out₂ out₂' (given.Refused q at) → Gives records_in (whole l) out out (given.Refused q at)
  pub unread : (l out₁ out₁' out : List ℕ) (q : Refusal) (at : ℕ) → (q ≡ OutputRoom → ⊥) → ReadGives (read_list l) out₁ out₁' (answer.Refused q at)
      → Gives records_in (whole l) out out (given.Refused q at)

abbrev pub DerivativeComposes : Type 0
DerivativeComposes = Composes making.derive making.write lists.derivative

abbrev pub IntegralComposes : Type 0
IntegralComposes = Composes making.integrate making.write lists.integral

abbrev pub DerivativeFaithfulComposes : Type 0
DerivativeFaithfulComposes = Composes making.derive making.write_faithful lists.derivative_faithful

abbrev pub IntegralFaithfulComposes : Type 0
IntegralFaithfulComposes = Composes making.integrate making.write_faithful lists.integral_faithful
