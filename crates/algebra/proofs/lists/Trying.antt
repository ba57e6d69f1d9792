-- A small arena first: what is made in it stands, unless that is 12; a 12 changes no byte, and the whole arena answers. Assumes nothing.
use Prim.Native.Nat.{ℕ}
use native.Mathlib.Omega.{arith}
use mathlib.Core.Path.{◌≡◌, refl, sym, ap, subst, ◌∙◌}
use mathlib.Core.Bool.{Bool, true, false, cond}
use mathlib.Core.List.{List}
use lib.Dec.{leb}
use lib.Seq.{sets}
use borrow.Author.Tests.{lt-leb, eqb-true}
use Rattle.std.specs.Prelude.{Ok, Err}
use Rattle.formats.specs.Rules.{Verdict}
use Rattle.limits.specs.declared.Refusal.{Refusal}
use Rattle.limits.specs.declared.Refusal.TheVariants.{OutputRoom}
use Rattle.limits.specs.Refusals.{refusal_no}
use Rattle.arithmetic.proofs.Steps.{differ}
use Rattle.formats.specs.Rules as rules
use Rattle.formats.specs.Tree.{parse}
use Rattle.modifiers.specs.Reading.{Read, done, refused_at, read_nodes}
use Rattle.modifiers.specs.Contract.Room.{is_no_room, is_full_read, read_held}
use Rattle.modifiers.proofs.Room.{read_small, none-held}
use Rattle.algebra.specs.declared.answer.Answer.TheVariants as answer
use Rattle.algebra.specs.declared.ReadAnswer.{ReadAnswer}
use Rattle.algebra.specs.declared.lists.Wanted.{Wanted}
use Rattle.algebra.specs.declared.lists.Wanted.TheVariants.{Sum, Derivative, Integral, Inverse}
use Rattle.algebra.specs.Answer.Making as making
use Rattle.algebra.specs.Answer.Making.{Made, made, answered, written}
use Rattle.algebra.specs.Entries.{unhandled}
use Rattle.algebra.specs.Reading.{by_verdict, read_list, flag_of, pairs_of, flagged}
use Rattle.algebra.specs.Contract.Lists.{list_held, made_by, room_by, Makes, is_full_answer, Tries}

-- ---- 12

-- 12 is never replaced
kept-number : (q : Refusal) (at room : ℕ) (c : Bool) (k : ℕ) → is_no_room q ≡ true → is_full_answer (flagged c k (answered (unhandled q at) room)) ≡ true
kept-number q at room c k e =
    let n = eqb-true (refusal_no q) 12 e in
    rw (lt-leb (refusal_no q) 9 (omega (arith, n))) e

-- where reading is refused with it, so is what is made
full-made : (w : Wanted) (x : Read) (room : ℕ) → is_full_read x ≡ true → is_full_answer (flagged (flag_of x) (pairs_of x) (answered (made_by w x) room)) ≡ true
full-made w (done s c h k) room e = differ (sym e)
full-made Sum (refused_at q at h) room e = e
full-made (Derivative w) (refused_at q at h) room e = e
full-made (Integral w) (refused_at q at h) room e = e
full-made Inverse (refused_at q at true) room e = e
full-made Inverse (refused_at q at false) room e = kept-number q at room false 0 e

not_full : (w : Wanted) (x : Read) (room : ℕ) → is_full_answer (flagged (flag_of x) (pairs_of x) (answered (made_by w x) room)) ≡ false → is_full_read x ≡ false
not_full w x room e = go (is_full_read x) refl
  where
    go : (b : Bool) → is_full_read x ≡ b → b ≡ false
    go true k = sym (full-made w x room k) ∙ e
    go false k = refl

-- a 12 changes no byte
full-kept : (c : Bool) (k : ℕ) (m : Made) (room : ℕ) (out : List ℕ) → is_full_answer (flagged c k (answered m room)) ≡ true → written m room out ≡ out
full-kept c k (making.refused_at q at) room out e = refl
full-kept c k (made n bytes) room out e = go (leb n room) e
  where
    go : (b : Bool) → is_full_answer (flagged c k (cond b (answer.Done n) (answer.Refused OutputRoom 0))) ≡ true → cond b (sets out 0 bytes) out ≡ out
    go true f = differ (sym f)
    go false f = refl

-- ---- the two tries

list-small : (h : ℕ) (l : List ℕ) → is_full_read (list_held h l) ≡ false → read_list l ≡ list_held h l
unfolding list_held read_list
list-small h l e = go (rules.verdict l) e
  where
    go : (v : Verdict) → is_full_read (by_verdict v (read_held h (parse l))) ≡ false → by_verdict v (read_nodes (parse l)) ≡ by_verdict v (read_held h (parse l))
    go (Ok tt) k = read_small h (parse l) k
    go (Err q) k = refl

pub first-try : (w : Wanted) (h : ℕ) (l : List ℕ) {out out' : List ℕ} {r : ReadAnswer} → Makes w (list_held h l) out out' r → Tries w l out out' r
first-try w h l {out} m =
    record {
      made = λ e. rw (list-small h l (not_full w (list_held h l) (room_by w out) (sym (ap is_full_answer m.answered) ∙ e))) m;
      kept = λ e. m.written ∙ full-kept (flag_of (list_held h l)) (pairs_of (list_held h l)) (made_by w (list_held h l)) (room_by w out) out (sym (ap is_full_answer m.answered) ∙ e);
    }

pub whole-list : (l : List ℕ) → list_held 0 l ≡ read_list l
unfolding list_held read_list
whole-list l = ap (by_verdict (rules.verdict l)) (none-held (parse l))

-- the first try was refused with 12
pub second-try : (w : Wanted) (l : List ℕ) {out mid out' : List ℕ} {t r : ReadAnswer} → Tries w l out mid t → is_full_answer t ≡ true → Makes w (read_list l) mid out' r → Makes w (read_list l) out out' r
second-try w l {out' = out'} {r = r} t e m = subst (λ (o : List ℕ). Makes w (read_list l) o out' r) (t.kept e) m
