-- What is made of a list that is read in a small arena first.
use Rattle.std.specs.Prelude.{ℕ, ◌≡◌, Bool, true, false, List}
use Rattle.formats.specs.Rules as rules
use Rattle.formats.specs.Tree.{parse, records_in}
use Rattle.sums.specs.Entry.Encoding.{entries_in}
use Rattle.modifiers.specs.Reading.{Read}
use Rattle.modifiers.specs.Contract.Room.{is_no_room, read_held}
use Rattle.algebra.specs.declared.answer.Answer.{Answer}
use Rattle.algebra.specs.declared.answer.Answer.TheVariants as given
use Rattle.algebra.specs.declared.ReadAnswer.{ReadAnswer}
use Rattle.algebra.specs.declared.ReadAnswer.TheVariants as answer
use Rattle.algebra.specs.declared.lists.Wanted.{Wanted}
use Rattle.algebra.specs.declared.lists.Wanted.TheVariants.{Sum, Derivative, Integral, Inverse}
use Rattle.algebra.specs.Answer.Promises.{Promise}
use Rattle.algebra.specs.Answer.Making.{Made, answered, written}
use Rattle.algebra.specs.Contract.Writers.{derive_and_write_by, integrate_and_write_by}
use Rattle.algebra.specs.Reading.{by_verdict, read_list, made_of, flag_of, pairs_of, flagged}
use Rattle.algebra.specs.Entries.{after_read, inverse_of}

-- a list read with h entries held from the start
unfoldable pub list_held : ℕ → List ℕ → Read
list_held h l = by_verdict (rules.verdict l) (read_held h (parse l))

-- what is made of what was read, and how many entries or records of it the output holds
abbrev pub made_by : Wanted → Read → Made
made_by Sum x = made_of x
made_by (Derivative w) x = after_read x (derive_and_write_by w)
made_by (Integral w) x = after_read x (integrate_and_write_by w)
made_by Inverse x = inverse_of x

abbrev pub room_by : Wanted → List ℕ → ℕ
room_by Sum out = entries_in out
room_by (Derivative w) out = records_in out
room_by (Integral w) out = records_in out
room_by Inverse out = records_in out

-- it is answered, with the flag and the pairs where it isn't refused, and written
abbrev pub Makes : Wanted → Read → List ℕ → List ℕ → ReadAnswer → Type 0
Makes w x out out' r = Promise (λ o. flagged (flag_of x) (pairs_of x) (answered (made_by w x) (room_by w o))) (λ o. written (made_by w x) (room_by w o) o) out out' r

-- the answer without the flag and the pairs
abbrev pub unflagged : ReadAnswer → Answer
unflagged (answer.Sum n c k) = given.Done n
unflagged (answer.Refused q at) = given.Refused q at

-- refused with 12
abbrev pub is_full_answer : ReadAnswer → Bool
is_full_answer (answer.Sum n c k) = false
is_full_answer (answer.Refused q at) = is_no_room q

-- a first try: its answer is the list's, or it is 12, which says nothing yet, and no byte is changed
pub record Tries (w : Wanted) (l out out' : List ℕ) (r : ReadAnswer) : Type 0 where
  pub made : is_full_answer r ≡ false → Makes w (read_list l) out out' r
  pub kept : is_full_answer r ≡ true → out' ≡ out
