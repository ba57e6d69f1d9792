-- What an entry makes, before there is room for it or not, and its answer.
use Rattle.std.specs.Prelude.{ℕ, ◌≡◌, Bool, false, cond, List, leb, Result, Ok, Err}
use Rattle.std.proofs.lemmas.List.Edits.{sets}
use Rattle.limits.specs.Limits.{sum_levels}
use Rattle.limits.specs.declared.Refusal.{Refusal}
use Rattle.limits.specs.declared.Refusal.TheVariants.{OutputRoom}
use Rattle.limits.specs.Refusals.{refusal_no}
use Rattle.sums.specs.Tree.Sums.{Sum, size}
use Rattle.sums.specs.Tree.Good.{Good}
use Rattle.sums.specs.Tree.Map.{Outcome, sum, refused}
use Rattle.formats.specs.Tree as tree
use Rattle.sums.specs.Entry.Encoding.{encode_sum}
use Rattle.sums.specs.Entry.Taking.{Weighed}
use Rattle.calculus.specs.Derivative as derivatives
use Rattle.calculus.specs.Integral as integrals
use Rattle.writing.specs.Draft.Writing as writing
use Rattle.writing.specs.ToNodes.{to_nodes}
use Rattle.writing.specs.Faithful.{faithful}
use Rattle.inverse.specs.Inverse.{inverse}
use Rattle.algebra.specs.declared.answer.Answer.{Answer}
use Rattle.algebra.specs.declared.answer.Answer.TheVariants as answer
use Rattle.algebra.specs.declared.answer.Numbers.{Numbers}
use Rattle.algebra.specs.Answer.Promises.{Promise}

-- so many entries or records with their bytes, or a refusal with its place
pub data Made : Type 0 where
  made : ℕ → List ℕ → Made
  refused_at : Refusal → ℕ → Made

-- what follows reading has no place
abbrev pub of_list : writing.Written → Made
of_list (writing.wrote ns) = made (tree.size ns) (tree.encode ns)
of_list (writing.refused q) = refused_at q 0

abbrev pub of_outcome : Outcome → (Sum → Made) → Made
of_outcome (sum s) f = f s
of_outcome (refused q) f = refused_at q 0

abbrev pub of_sum : Sum → Made
of_sum s = made (size s) (encode_sum s)

-- ---- of a sum, with the complex flag where a list is written

unfoldable pub derive : Sum → Made
derive s = of_outcome (derivatives.derive s) of_sum

unfoldable pub integrate : Sum → Made
integrate s = of_outcome (integrals.integrate s) of_sum

unfoldable pub write : Bool → Sum → Made
write flag s = of_list (to_nodes flag s)

unfoldable pub invert : Bool → Sum → Made
invert flag s = of_list (inverse flag s)

unfoldable pub derive_and_write : Bool → Sum → Made
derive_and_write flag s = of_outcome (derivatives.derive s) (λ d. write flag d)

unfoldable pub integrate_and_write : Bool → Sum → Made
integrate_and_write flag s = of_outcome (integrals.integrate s) (λ d. write flag d)

-- the same with the second writer
unfoldable pub write_faithful : Bool → Sum → Made
write_faithful flag s = of_list (faithful flag s)

unfoldable pub derive_and_write_faithful : Bool → Sum → Made
derive_and_write_faithful flag s = of_outcome (derivatives.derive s) (λ d. write_faithful flag d)

unfoldable pub integrate_and_write_faithful : Bool → Sum → Made
integrate_and_write_faithful flag s = of_outcome (integrals.integrate s) (λ d. write_faithful flag d)

-- ---- answers

-- a list that was written, or refused at place 0
abbrev pub answer_of : Result ℕ Refusal → Answer
answer_of (Ok n) = answer.Done n
answer_of (Err q) = answer.Refused q 0

-- 17 comes last, at place 0: `room` is how many there is room for
abbrev pub answered : Made → ℕ → Answer
answered (made n bytes) room = cond (leb n room) (answer.Done n) (answer.Refused OutputRoom 0)
answered (refused_at q at) room = answer.Refused q at

-- the bytes from the first on, and no other is changed
abbrev pub written : Made → ℕ → List ℕ → List ℕ
written (made n bytes) room out = cond (leb n room) (sets out 0 bytes) out
written (refused_at q at) room out = out

-- what is made is answered and written; `room` counts the entries or the records that the output holds
abbrev pub Gives : (List ℕ → ℕ) → Made → List ℕ → List ℕ → Answer → Type 0
Gives room m out out' r = Promise (λ o. answered m (room o)) (λ o. written m (room o) o) out out' r

-- of a sum that is handed over: it is weighed first, and is refused, at place 0, or taken; f says what is made of it
pub record OfBytes (room : List ℕ → ℕ) (f : Sum → Made) (l out out' : List ℕ) (r : Answer) : Type 0 where
  pub weight : Result ℕ Refusal
  pub weighed : Weighed l weight
  pub refuses : (q : Refusal) → weight ≡ Err q → Gives room (refused_at q 0) out out' r
  pub takes : (n : ℕ) → weight ≡ Ok n → (s : Sum) → encode_sum s ≡ l → Good sum_levels s → Gives room (f s) out out' r

-- document 01's numbers
abbrev pub answer_numbers : Answer → Numbers
answer_numbers (answer.Done n) = record { number = 0; place = 0; count = n; flag = false; pairs = 0 }
answer_numbers (answer.Refused q at) = record { number = refusal_no q; place = at; count = 0; flag = false; pairs = 0 }
