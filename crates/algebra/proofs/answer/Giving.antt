-- Laws of answers: what is made is refused, has no room, or is written; and what follows what was formed. Assumes nothing.
use Prim.Native.Nat.{ℕ, ◌+◌, ◌≤◌, ◌<◌}
use native.Mathlib.Omega.{arith}
use mathlib.Core.Path.{◌≡◌, refl, sym, ap, ◌∙◌}
use mathlib.Core.Bool.{Bool, true, false, cond}
use mathlib.Core.List.{List}
use lib.Dec.{leb}
use lib.Seq.{sets}
use borrow.Author.Tests.{le-leb, lt-leb}
use Rattle.cells.specs.Contract.Book.{Book}
use Rattle.limits.specs.declared.Refusal.{Refusal}
use Rattle.limits.specs.declared.Refusal.TheVariants.{OutputRoom}
use Rattle.sums.specs.Tree.Sums.{Sum, size}
use Rattle.sums.specs.Tree.Map.{Outcome}
use Rattle.std.specs.Prelude.{Result, Ok, Err}
use Rattle.sums.specs.Contract.Lies.{Lies, Held, Agrees}
use Rattle.arithmetic.proofs.add.Lying.{agreed-done, agreed-refused}
use Rattle.formats.specs.Tree as tree
use Rattle.formats.specs.Tree.{records_in}
use Rattle.sums.specs.Entry.Encoding.{entries_in, encode_sum}
use Rattle.writing.specs.Draft.Writing as writing
use Rattle.writing.specs.Draft.Writing.{Written}
use Rattle.writing.specs.Draft.Contract.Lying as drafts
use Rattle.writing.specs.Draft.Contract.Lying.{Answered}
use Rattle.algebra.specs.declared.answer.Answer.{Answer}
use Rattle.algebra.specs.declared.answer.Answer.TheVariants as answer
use Rattle.algebra.specs.Answer.Making.{Made, made, refused_at, of_outcome, of_sum, of_list, answer_of, Gives}

module _ (room : List ℕ → ℕ) where
  pub gives-refusal : (q : Refusal) (at : ℕ) (out : List ℕ) → Gives room (refused_at q at) out out (answer.Refused q at)
  gives-refusal q at out = record { answered = refl; written = refl }

  -- there is no room for it
  pub gives-no-room : (n : ℕ) (bytes out : List ℕ) → room out < n → Gives room (made n bytes) out out (answer.Refused OutputRoom 0)
  gives-no-room n bytes out l =
      let e = sym (lt-leb n (room out) l) in
      record { answered = ap (λ b. cond b (answer.Done n) (answer.Refused OutputRoom 0)) e; written = ap (λ b. cond b (sets out 0 bytes) out) e }

  -- there is room
  pub gives-written : (n : ℕ) (bytes out out' : List ℕ) → n ≤ room out → out' ≡ sets out 0 bytes → Gives room (made n bytes) out out' (answer.Done n)
  gives-written n bytes out out' l w =
      let e = sym (le-leb n (room out) l) in
      record { answered = ap (λ b. cond b (answer.Done n) (answer.Refused OutputRoom 0)) e; written = w ∙ ap (λ b. cond b (sets out 0 bytes) out) e }

  -- ---- after a sum was formed, or refused

  pub then-refused : {q : Refusal} {r : Result ℕ Refusal} (b : Book) (p : ℕ) (o : Outcome) (f : Sum → Made) (out : List ℕ) → r ≡ Err q → Agrees r b p o
      → Gives room (of_outcome o f) out out (answer.Refused q 0)
  then-refused {q} {r} b p o f out e a = rw (agreed-refused b p q r o a e) (gives-refusal q 0 out)

  pub then-made : {m : ℕ} {r : Result ℕ Refusal} (b : Book) (p : ℕ) (o : Outcome) {out out' : List ℕ} {a : Answer} (f : Sum → Made) → r ≡ Ok m → Agrees r b p o
      → ((s : Sum) → Lies b p (p + m) 4 s → Gives room (f s) out out' a) → Gives room (of_outcome o f) out out' a
  then-made {m} {r} b p o f e g h = let d = agreed-done b p m r o g e in rw d.is (h d.s d.lies)

-- what was formed lies there
pub then-held : {m : ℕ} {r : Result ℕ Refusal} (b : Book) (p : ℕ) (o : Outcome) → r ≡ Ok m → Agrees r b p o → (m ≤ 64) × Held b p (p + m) 4
then-held {m} {r} b p o e g = let d = agreed-done b p m r o g e in (d.few, (d.s, d.lies))

-- ---- a sum that lies in n cells

module _ {b : Book} {i n : ℕ} {s : Sum} (out : List ℕ) (l : Lies b i (i + n) 4 s) where
  many : n ≡ size s
  many = omega (arith, l.ends)

  pub put_refused : entries_in out < n → Gives entries_in (of_sum s) out out (answer.Refused OutputRoom 0)
  put_refused f = gives-no-room entries_in (size s) (encode_sum s) out (omega (arith, many))

  pub put_written : (out' : List ℕ) → n ≤ entries_in out → out' ≡ sets out 0 (encode_sum s) → Gives entries_in (of_sum s) out out' (answer.Done n)
  put_written out' f e = rw many (gives-written entries_in (size s) (encode_sum s) out out' (omega (arith, many)) e)

-- ---- a list that was written, or refused

pub list-given : {out out' : List ℕ} {r : Result ℕ Refusal} {w : Written} → Answered out out' r w → Gives records_in (of_list w) out out' (answer_of r)
list-given {out} {out'} {r} {w} a = go w a.answer a.bytes
  where
    by-room : (n : ℕ) (b : Bool) → answer_of (cond b (Ok n) (Err OutputRoom)) ≡ cond b (answer.Done n) (answer.Refused OutputRoom 0)
    by-room n true = refl
    by-room n false = refl

    go : (w : Written) → r ≡ drafts.answered w out → out' ≡ drafts.answered_bytes w out → Gives records_in (of_list w) out out' (answer_of r)
    go (writing.wrote ns) e f = record { answered = ap answer_of e ∙ by-room (tree.size ns) (leb (tree.size ns) (records_in out)); written = f }
    go (writing.refused q) e f = record { answered = ap answer_of e; written = f }
