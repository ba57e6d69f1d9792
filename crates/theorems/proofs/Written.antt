-- What the entries write is good: a sum that read, derive or integrate writes is never refused by what takes sums, and a list that write, derivative, integral or
-- inverse writes keeps the rules of 11 and 13. Assumes nothing.
use Prim.Native.Nat.{ℕ, ◌*◌}
use native.Mathlib.Omega.{arith}
use mathlib.Core.Path.{◌≡◌, refl, sym, ap, subst, ◌∙◌}
use mathlib.Core.Bool.{Bool, true, false, cond}
use mathlib.Core.List.{List}
use lib.Dec.{leb}
use lib.ListN.{take}
use lib.Seq.{sets}
use Rattle.limits.specs.declared.Refusal.TheVariants.{NotHandled}
use Rattle.limits.specs.Refusals.{refusal_no}
use Rattle.sums.specs.Tree.Sums.{Sum}
use Rattle.sums.specs.Tree.Map.{Outcome, sum, refused}
use Rattle.arithmetic.specs.Singles.{GoodSum}
use Rattle.stack.proofs.Sizes.{good-some, not-empty}
use Rattle.formats.specs.Rules.{verdict}
use Rattle.formats.specs.Tree.{Nodes, encode, records_in}
use Rattle.formats.proofs.record.Codes.{length-encode}
use Rattle.std.specs.Prelude.{Result, Ok, Err}
use Rattle.limits.specs.declared.Refusal.{Refusal}
use Rattle.sums.specs.Entry.Encoding.{entries_in, encode_sum}
use Rattle.sums.specs.Entry.Taking.{Weighed}
use Rattle.sums.proofs.bytes.Laws.{length-sum}
use Rattle.sums.proofs.bytes.Theorem.{good-taken}
use Rattle.modifiers.specs.Reading.{Read, done}
use Rattle.modifiers.specs.Reading as reading
use Rattle.calculus.specs.Derivative as derivatives
use Rattle.calculus.specs.Integral as integrals
use Rattle.calculus.proofs.Good.{derive-good, integrate-good}
use Rattle.writing.specs.Draft.Writing.{Written, wrote}
use Rattle.writing.specs.ToNodes.{to_nodes}
use Rattle.writing.specs.Faithful.{faithful}
use Rattle.writing.proofs.Good.{written-good}
use Rattle.writing.proofs.Writers.{faithful-good}
use Rattle.inverse.specs.Inverse as inverses
use Rattle.inverse.proofs.Good as inverse-laws
use Rattle.algebra.specs.declared.answer.Answer.TheVariants as given
use Rattle.algebra.specs.Answer.Making.{Made, refused_at, of_outcome, of_sum, of_list, write, write_faithful, invert, derive, integrate, derive_and_write, integrate_and_write, Gives, OfBytes, derive_and_write_faithful, integrate_and_write_faithful}
use Rattle.algebra.proofs.answer.Told.{success, sum-made, list-made, not_made, first-bytes}
use Rattle.algebra.specs.Reading.{read_list}
use Rattle.algebra.specs.Entries.{after_read, inverse_of, derivative, integral, derivative_faithful, integral_faithful, inverse}
use Rattle.algebra.specs.declared.ReadAnswer.TheVariants as answer
use Rattle.theorems.specs.Composing.{ReadGives}
use Rattle.theorems.specs.Written.{SumTaken, ListGood, WritesGood}
use Rattle.theorems.proofs.Reading.{sum-good, sum-taken}
use Rattle.theorems.proofs.Composing.{read_told}

-- ---- of a sum that was handed over

-- it was taken, and is good
record TakenSum (f : Sum → Made) (room : List ℕ → ℕ) (out out' : List ℕ) (n : ℕ) : Type 0 where
  s : Sum
  good : GoodSum s
  gives : Gives room (f s) out out' (given.Done n)

was-taken : {room : List ℕ → ℕ} {f : Sum → Made} {l out out' : List ℕ} {n : ℕ} → OfBytes room f l out out' (given.Done n) → TakenSum f room out out' n
was-taken {room} {f} {l} {out} {out'} {n} p = go p.weight refl
  where
    go : (t : Result ℕ Refusal) → p.weight ≡ t → TakenSum f room out out' n
    go (Err q) e = absurd (not_made (success room (refused_at q 0) (p.refuses q e)).is)
    go (Ok k) e =
        let w = (p.weighed.good k).0 e in
        record { s = w.0; good = record { good = w.3; room = w.2.few; some = not-empty w.0 w.2.some }; gives = p.takes k e w.0 w.1 w.3 }

-- ---- sums

made-taken : (g : Sum → Outcome) → ((s d : Sum) → GoodSum s → g s ≡ sum d → GoodSum d) → {l out out' : List ℕ} {n : ℕ}
    → OfBytes entries_in (λ s. of_outcome (g s) of_sum) l out out' (given.Done n) → SumTaken n out'
made-taken g keeps {l} {out} {out'} {n} p t w =
    let k = was-taken p in
    let o = success entries_in (of_outcome (g k.s) of_sum) k.gives in
    let d = sum-made (g k.s) o.is in
    let good = keeps k.s d.s k.good d.is in
    let bytes = ap (take (32 * n)) (o.written ∙ ap (sets out 0) d.these) ∙ first-bytes (encode_sum d.s) out (32 * n) (omega (arith, d.many, length-sum d.s)) (omega (arith, o.fits)) in
    good-taken d.s t good.good (good-some good) good.room (subst (λ z. Weighed z t) bytes w) ∙ ap Ok (sym d.many)

derived-taken : {l out out' : List ℕ} {n : ℕ} → OfBytes entries_in derive l out out' (given.Done n) → SumTaken n out'
unfolding derive
derived-taken p = made-taken derivatives.derive (λ s d g e. derive-good s g e) p

integrated-taken : {l out out' : List ℕ} {n : ℕ} → OfBytes entries_in integrate l out out' (given.Done n) → SumTaken n out'
unfolding integrate
integrated-taken p = made-taken integrals.integrate (λ s d g e. integrate-good s g e) p

read_taken : (l : List ℕ) {out out' : List ℕ} {n k : ℕ} {c : Bool} → ReadGives (read_list l) out out' (answer.Sum n c k) → SumTaken n out'
read_taken l p t w =
    let r = read_told (read_list l) p in
    sum-taken l t r.is (subst (λ z. Weighed z t) r.bytes w) ∙ ap Ok (sym r.many)

-- ---- lists

-- a list was written, and its bytes are the output's first
pub record ListWritten (w : Written) (n : ℕ) (out' : List ℕ) : Type 0 where
  pub ns : Nodes
  pub is : w ≡ wrote ns
  pub bytes : take (24 * n) out' ≡ encode ns

pub list_written : {out out' : List ℕ} {n : ℕ} (w : Written) → Gives records_in (of_list w) out out' (given.Done n) → ListWritten w n out'
list_written {out} {out'} {n} w g =
    let o = success records_in (of_list w) g in
    let d = list-made w o.is in
    record {
      ns = d.ns;
      is = d.is;
      bytes = ap (take (24 * n)) (o.written ∙ ap (sets out 0) d.these) ∙ first-bytes (encode d.ns) out (24 * n) (omega (arith, d.many, length-encode d.ns)) (omega (arith, o.fits));
    }

list-good : {out out' : List ℕ} {n : ℕ} (w : Written) → Gives records_in (of_list w) out out' (given.Done n)
    → ((ns : Nodes) → w ≡ wrote ns → verdict (encode ns) ≡ Ok tt) → ListGood n out'
list-good w g h = let k = list_written w g in ap verdict k.bytes ∙ h k.ns k.is

-- a writer writes good lists of good sums
abbrev WritesLists : (Bool → Sum → Made) → Type 0
WritesLists w = (out out' : List ℕ) (n : ℕ) (c : Bool) (s : Sum) → GoodSum s → Gives records_in (w c s) out out' (given.Done n) → ListGood n out'

sum-list-good : WritesLists write
unfolding write
sum-list-good out out' n c s k g = list-good (to_nodes c s) g (λ ns e. written-good c s ns k e)

faithful-list-good : WritesLists write_faithful
unfolding write_faithful
faithful-list-good out out' n c s k g = list-good (faithful c s) g (λ ns e. faithful-good c s ns k e)

write-good : (w : Bool → Sum → Made) → WritesLists w → (c : Bool) {l out out' : List ℕ} {n : ℕ} → OfBytes records_in (w c) l out out' (given.Done n) → ListGood n out'
write-good w h c {l} {out} {out'} {n} p = let k = was-taken p in h out out' n c k.s k.good k.gives

after-good : (x : Read) (f : Bool → Sum → Made) {out out' : List ℕ} {n : ℕ}
    → ((s : Sum) (c h : Bool) (m : ℕ) → x ≡ done s c h m → Gives records_in (f c s) out out' (given.Done n) → ListGood n out')
    → Gives records_in (after_read x f) out out' (given.Done n) → ListGood n out'
after-good (done s c h m) f k g = k s c h m refl g
after-good (reading.refused_at q at h) f k g = absurd (not_made (success records_in (refused_at q at) g).is)

outcome-good : (w : Bool → Sum → Made) → WritesLists w → (o : Outcome) (c : Bool) {out out' : List ℕ} {n : ℕ} → ((d : Sum) → o ≡ sum d → GoodSum d)
    → Gives records_in (of_outcome o (w c)) out out' (given.Done n) → ListGood n out'
outcome-good w h (sum d) c {out} {out'} {n} k g = h out out' n c d (k d refl) g
outcome-good w h (refused q) c k g = absurd (not_made (success records_in (refused_at q 0) g).is)

derivative-good : (l : List ℕ) {out out' : List ℕ} {n : ℕ} → Gives records_in (derivative l) out out' (given.Done n) → ListGood n out'
unfolding derivative derive_and_write
derivative-good l g = after-good (read_list l) derive_and_write (λ s c h m e k. outcome-good write sum-list-good (derivatives.derive s) c (λ d i. derive-good s (sum-good l e) i) k) g

integral-good : (l : List ℕ) {out out' : List ℕ} {n : ℕ} → Gives records_in (integral l) out out' (given.Done n) → ListGood n out'
unfolding integral integrate_and_write
integral-good l g = after-good (read_list l) integrate_and_write (λ s c h m e k. outcome-good write sum-list-good (integrals.integrate s) c (λ d i. integrate-good s (sum-good l e) i) k) g

derivative-faithful-good : (l : List ℕ) {out out' : List ℕ} {n : ℕ} → Gives records_in (derivative_faithful l) out out' (given.Done n) → ListGood n out'
unfolding derivative_faithful derive_and_write_faithful
derivative-faithful-good l g =
    after-good (read_list l) derive_and_write_faithful (λ s c h m e k. outcome-good write_faithful faithful-list-good (derivatives.derive s) c (λ d i. derive-good s (sum-good l e) i) k) g

integral-faithful-good : (l : List ℕ) {out out' : List ℕ} {n : ℕ} → Gives records_in (integral_faithful l) out out' (given.Done n) → ListGood n out'
unfolding integral_faithful integrate_and_write_faithful
integral-faithful-good l g =
    after-good (read_list l) integrate_and_write_faithful (λ s c h m e k. outcome-good write_faithful faithful-list-good (integrals.integrate s) c (λ d i. integrate-good s (sum-good l e) i) k) g

inverse-of-good : (x : Read) {out out' : List ℕ} {n : ℕ} → ((s : Sum) (c h : Bool) (m : ℕ) → x ≡ done s c h m → GoodSum s)
    → Gives records_in (inverse_of x) out out' (given.Done n) → ListGood n out'
unfolding invert
inverse-of-good (done s c true m) k g = list-good (inverses.inverse c s) g (λ ns e. inverse-laws.inverse-good c 4 s (k s c true m refl).good ns e)
inverse-of-good (done s c false m) k g = absurd (not_made (success records_in (refused_at NotHandled 0) g).is)
inverse-of-good (reading.refused_at q at true) k g = absurd (not_made (success records_in (refused_at q at) g).is)
inverse-of-good (reading.refused_at q at false) {out} {out'} {n} k g = by_number (leb (refusal_no q) 9) g
  where
    by_number : (b : Bool) → Gives records_in (cond b (refused_at NotHandled 0) (refused_at q at)) out out' (given.Done n) → ListGood n out'
    by_number true g = absurd (not_made (success records_in (refused_at NotHandled 0) g).is)
    by_number false g = absurd (not_made (success records_in (refused_at q at) g).is)

inverse-good : (l : List ℕ) {out out' : List ℕ} {n : ℕ} → Gives records_in (inverse l) out out' (given.Done n) → ListGood n out'
unfolding inverse
inverse-good l g = inverse-of-good (read_list l) (λ s c h m e. sum-good l e) g

-- ---- the theorem

pub writes-good : WritesGood
writes-good = record {
  read = λ l out out' n k c p. read_taken l p;
  derive = λ l out out' n p. derived-taken p;
  integrate = λ l out out' n p. integrated-taken p;
  write = λ c l out out' n p. write-good write sum-list-good c p;
  derivative = λ l out out' n g. derivative-good l g;
  integral = λ l out out' n g. integral-good l g;
  write_faithful = λ c l out out' n p. write-good write_faithful faithful-list-good c p;
  derivative_faithful = λ l out out' n g. derivative-faithful-good l g;
  integral_faithful = λ l out out' n g. integral-faithful-good l g;
  inverse = λ l out out' n g. inverse-good l g;
}
