-- Laws of what is made of what was read. Assumes nothing.
use Prim.Native.Nat.{ℕ, ◌+◌, ◌≤◌, ◌<◌}
use mathlib.Core.Path.{◌≡◌, refl, sym, ap, subst, ◌∙◌}
use mathlib.Core.Bool.{Bool, true, false, cond}
use mathlib.Core.List.{List}
use lib.Dec.{leb}
use borrow.Author.Tests.{le-leb, lt-leb}
use Rattle.cells.specs.Contract.Book.{Book}
use Rattle.limits.specs.declared.Refusal.{Refusal}
use Rattle.limits.specs.declared.Refusal.TheVariants.{NotHandled}
use Rattle.limits.specs.Refusals.{refusal_no}
use Rattle.sums.specs.Tree.Sums.{Sum}
use Rattle.sums.specs.Contract.Lies.{Lies}
use Rattle.formats.specs.Tree.{records_in}
use Rattle.reading.specs.declared.env.AlgebraData.{AlgebraData}
use Rattle.reading.specs.declared.env.AlgebraData.TheVariants as gave
use Rattle.reading.specs.Contract.Data.{DataAs}
use Rattle.modifiers.specs.Reading.{Read, done}
use Rattle.modifiers.specs.Reading as reading
use Rattle.algebra.specs.declared.answer.Answer.{Answer}
use Rattle.algebra.specs.declared.answer.Answer.TheVariants as answer
use Rattle.algebra.specs.declared.ReadAnswer.{ReadAnswer}
use Rattle.algebra.specs.declared.lists.Wanted.{Wanted}
use Rattle.algebra.specs.declared.lists.Wanted.TheVariants as wanted
use Rattle.algebra.specs.Answer.Making.{refused_at, answered, invert, Gives}
use Rattle.algebra.specs.Entries.{inverse_of}
use Rattle.algebra.specs.Reading.{flag_of, pairs_of, flagged}
use Rattle.algebra.specs.Contract.Lists.{made_by, room_by, Makes, unflagged}
use Rattle.algebra.proofs.answer.Giving.{gives-refusal}
use Rattle.algebra.proofs.lists.Reading.{gave-refused, gave-sum}

-- ---- the flag and the pairs

pub flag-given : (w : Wanted) (x : Read) {out out' : List ℕ} {a : Answer} → Gives (room_by w) (made_by w x) out out' a → Makes w x out out' (flagged (flag_of x) (pairs_of x) a)
flag-given w x g = record { answered = ap (flagged (flag_of x) (pairs_of x)) g.answered; written = g.written }

pub flag-dropped : (w : Wanted) (x : Read) {out out' : List ℕ} {r : ReadAnswer} → Makes w x out out' r → Gives (room_by w) (made_by w x) out out' (unflagged r)
flag-dropped w x {out} m = record { answered = ap unflagged m.answered ∙ same (flag_of x) (pairs_of x) (answered (made_by w x) (room_by w out)); written = m.written }
  where
    same : (c : Bool) (k : ℕ) (a : Answer) → unflagged (flagged c k a) ≡ a
    same c k (answer.Done n) = refl
    same c k (answer.Refused q at) = refl

-- ---- a refusal of reading

-- whatever is wanted, nothing is made of it
refused-made : (w : Wanted) (q : Refusal) (at : ℕ) (h : Bool) → (p : Refusal) × (i : ℕ) × (made_by w (reading.refused_at q at h) ≡ refused_at p i)
refused-made wanted.Sum q at h = (q, at, refl)
refused-made (wanted.Derivative w) q at h = (q, at, refl)
refused-made (wanted.Integral w) q at h = (q, at, refl)
refused-made wanted.Inverse q at true = (q, at, refl)
refused-made wanted.Inverse q at false = by_number (leb (refusal_no q) 9)
  where
    by_number : (n : Bool) → (p : Refusal) × (i : ℕ) × (cond n (refused_at NotHandled 0) (refused_at q at) ≡ refused_at p i)
    by_number true = (NotHandled, 0, refl)
    by_number false = (q, at, refl)

pub refused-gives : (w : Wanted) {q : Refusal} {at : ℕ} {h : Bool} {a : Answer} (x : Read) (d : AlgebraData) (b : Book) (out : List ℕ) → d ≡ gave.Refused q at h → DataAs d b x
    → a ≡ answered (made_by w (reading.refused_at q at h)) 0 → Makes w x out out (flagged false 0 a)
refused-gives w {q} {at} {h} x d b out e g k =
    let p = refused-made w q at h in
    let quiet : Gives (room_by w) (made_by w (reading.refused_at q at h)) out out (answered (made_by w (reading.refused_at q at h)) 0) = rw p.2 (gives-refusal (room_by w) p.0 p.1 out) in
    rw (gave-refused x d b e g) (rw k (flag-given w (reading.refused_at q at h) quiet))

module _ (q : Refusal) (at : ℕ) {h : Bool} where
  pub refused-handled : h ≡ true → answer.Refused q at ≡ answered (inverse_of (reading.refused_at q at h)) 0
  refused-handled e = rw e refl

  pub refused-replaced : h ≡ false → refusal_no q ≤ 9 → answer.Refused NotHandled 0 ≡ answered (inverse_of (reading.refused_at q at h)) 0
  refused-replaced e l = rw e (rw (le-leb (refusal_no q) 9 l) refl)

  pub refused-kept : h ≡ false → 9 < refusal_no q → answer.Refused q at ≡ answered (inverse_of (reading.refused_at q at h)) 0
  refused-kept e l = rw e (rw (lt-leb (refusal_no q) 9 l) refl)

-- ---- a sum

-- what was read doesn't count as handled
pub sum-unhandled : {h : Bool} (s : Sum) (c : Bool) (k : ℕ) (out : List ℕ) → h ≡ false → Gives records_in (inverse_of (done s c h k)) out out (answer.Refused NotHandled 0)
sum-unhandled s c k out e = rw e (gives-refusal records_in NotHandled 0 out)

pub sum-handled : {h : Bool} {out out' : List ℕ} {r : Answer} (s : Sum) (c : Bool) (k : ℕ) → h ≡ true → Gives records_in (invert c s) out out' r
    → Gives records_in (inverse_of (done s c h k)) out out' r
sum-handled s c k e g = rw e g

-- by what is wanted
pub sum-wanted : (w w' : Wanted) (x : Read) {out out' : List ℕ} {a : Answer} → w ≡ w' → Gives (room_by w') (made_by w' x) out out' a → Gives (room_by w) (made_by w x) out out' a
sum-wanted w w' x e g = rw e g

pub sum-gives : (w : Wanted) {n : ℕ} {c h : Bool} {k : ℕ} {out out' : List ℕ} {a : Answer} (x : Read) (d : AlgebraData) (b : Book) → d ≡ gave.Sum n c h k → DataAs d b x
    → ((s : Sum) → Lies b 128 (128 + n) 4 s → (m : ℕ) → Gives (room_by w) (made_by w (done s c h m)) out out' a) → Makes w x out out' (flagged c k a)
sum-gives w {c = c} {h} {out = out} {out'} {a} x d b e g f =
    let y = gave-sum x d b e g in
    let r = done y.s c h y.pairs in
    rw y.is (subst (λ (m : ℕ). Makes w r out out' (flagged c m a)) (sym y.told) (flag-given w r (f y.s y.lies y.pairs)))
