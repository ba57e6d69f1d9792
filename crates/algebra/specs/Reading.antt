-- The entry `read`: from a list of bytes to the sum that it stands for.
use Rattle.formats.specs.Rules.{Verdict}
use Rattle.std.specs.Prelude.{ℕ, min, Bool, false, List, Ok, Err}
use Rattle.limits.specs.Refusals.{refusal_no}
use Rattle.formats.specs.Rules as rules
use Rattle.formats.specs.Tree.{parse}
use Rattle.sums.specs.Entry.Encoding.{entries_in}
use Rattle.stack.specs.State.{most_pairs}
use Rattle.modifiers.specs.Reading.{Read, done, refused_at, read_nodes}
use Rattle.algebra.specs.declared.answer.Answer.{Answer}
use Rattle.algebra.specs.declared.answer.Answer.TheVariants as given
use Rattle.algebra.specs.declared.answer.Numbers.{Numbers}
use Rattle.algebra.specs.Answer.Making as making
use Rattle.algebra.specs.Answer.Making.{Made, of_sum, answered, written}
use Rattle.algebra.specs.declared.ReadAnswer.{ReadAnswer}
use Rattle.algebra.specs.declared.ReadAnswer.TheVariants as answer

-- 11 and 13 come first, over the whole list, at place 0
abbrev pub by_verdict : Verdict → Read → Read
by_verdict (Ok tt) r = r
by_verdict (Err q) r = refused_at q 0 false

unfoldable pub read_list : List ℕ → Read
read_list l = by_verdict (rules.verdict l) (read_nodes (parse l))

-- what is made of what was read
abbrev pub made_of : Read → Made
made_of (done s c h k) = of_sum s
made_of (refused_at q at h) = making.refused_at q at

-- its complex flag, false where it is refused
abbrev pub flag_of : Read → Bool
flag_of (done s c h k) = c
flag_of (refused_at q at h) = false

-- the pairs multiplied, as they are told: none where it is refused
abbrev pub pairs_of : Read → ℕ
pairs_of (done s c h k) = min most_pairs k
pairs_of (refused_at q at h) = 0

-- an answer with the flag and the pairs, which a refusal does not have
abbrev pub flagged : Bool → ℕ → Answer → ReadAnswer
flagged c k (given.Done n) = answer.Sum n c k
flagged c k (given.Refused q at) = answer.Refused q at

-- 17 comes last, at place 0
abbrev pub answer_of : Read → List ℕ → ReadAnswer
answer_of x out = flagged (flag_of x) (pairs_of x) (answered (made_of x) (entries_in out))

-- the sum's bytes from the first byte on, and no other byte is changed
abbrev pub bytes_of : Read → List ℕ → List ℕ
bytes_of x out = written (made_of x) (entries_in out) out

-- document 01's numbers
abbrev pub read_numbers : ReadAnswer → Numbers
read_numbers (answer.Sum n c k) = record { number = 0; place = 0; count = n; flag = c; pairs = k }
read_numbers (answer.Refused q at) = record { number = refusal_no q; place = at; count = 0; flag = false; pairs = 0 }
