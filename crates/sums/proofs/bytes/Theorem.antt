-- What an answer says of a list of bytes. Assumes nothing.
use mathlib.Core.Path.{◌≡◌, refl, ap, ◌∙◌, sym, subst}
use mathlib.Core.Bool.{Bool, true, false}
use mathlib.Core.Logic.{◌↔◌, ◌⊎◌, inl, inr, ⊎_elim}
use mathlib.Core.List.{List, [], append-nil}
use Prim.Native.Nat.{ℕ, ◌+◌, ◌*◌, ◌≤◌, ◌<◌}
use native.Mathlib.Omega.{arith}
use lib.Dec.{eqb}
use lib.ListN.{length}
use lib.Seq.{take_all}
use borrow.Author.Tests.{eqb-true, eqb-false}
use Rattle.cells.specs.Bits.{decoded}
use Rattle.cells.specs.Contract.Book.{Book, at, Room}
use Rattle.sums.specs.Tree.Sums.{Sum, none, and, size, levels}
use Rattle.sums.specs.Tree.Good.{Good}
use Rattle.sums.proofs.tree.Keeps.{good-levels, good-within}
use Rattle.limits.specs.Refusals.{refusal_no}
use Rattle.limits.specs.declared.Refusal.{Refusal}
use Rattle.limits.specs.declared.Refusal.TheVariants.{BadRecord, TooDeep}
use Rattle.limits.proofs.Refusals.{same_number}
use Rattle.sums.specs.Contract.Lies.{Lies, Held}
use Rattle.sums.proofs.order.Walk.{at-stays}
use Rattle.formats.specs.Bytes.{Bytes}
use Rattle.sums.specs.Entry.Encoding.{encode_sum}
use Rattle.sums.specs.Entry.Taking.{Handed, Weighed}
use Rattle.sums.specs.Contract.Laid.{Laid}
use Rattle.sums.specs.Entry.Contract.Steps.{clean_at, cell_at}
use Rattle.sums.specs.Contract.Steps.{Answered, good, deep, bad}
use Rattle.std.specs.Prelude.{Result, Ok, Err}
use Rattle.sums.proofs.entry.Codes.{Bits, bits_at}
use Rattle.sums.proofs.bytes.Laws.{length-sum, fives, cell_bytes, cells_same, cells-part, encode-laid, laid_of, clean_of, at-unique, encode-unique}

-- within 4 levels is within 64
pub deeper : (s : Sum) → Good 4 s → Good 64 s
deeper s g = good-within 4 64 s g (omega (arith, good-levels 4 s g))

-- the test of a good sum, from the first cell on
pub from_first : (b : Book) (n left : ℕ) (r : Bool) → (r ≡ true) ↔ Held b 0 (0 + n) left → (r ≡ true) ↔ Held b 0 n left
from_first b n left r h = let e : 0 + n ≡ n = omega arith in subst (λ (k : ℕ). (r ≡ true) ↔ Held b 0 k left) e h

-- however deep a sum of at most 64 entries goes, it has at most 64 levels
levels-size : (s : Sum) → levels s ≤ size s
unfolding levels size
levels-size none = omega arith
levels-size (and k p i c r) = omega (arith, levels-size i, levels-size r)

pub handed : (left : ℕ) (s : Sum) → Good left s → 1 ≤ size s → size s ≤ 64 → Handed s
handed left s g some few = record { good = good-within left 64 s g (omega (arith, levels-size s)); some = some; few = few }

-- ---- refused at once

sum-not-bad : {n : ℕ} → Ok n ≡ Err BadRecord → ⊥
sum-not-bad e = let z : ◌≡◌ {A = ℕ} 0 1 = cc in omega arith

bad-no-sum : {n : ℕ} → Err BadRecord ≡ Ok n → ⊥
bad-no-sum e = sum-not-bad (sym e)

pub none-laid : (l : List ℕ) (b : Book) (n : ℕ) → Err BadRecord ≡ Ok n → Laid l b n
none-laid l b n e = absurd (bad-no-sum e)

sum-not-deep : {n : ℕ} → Ok n ≡ Err TooDeep → ⊥
sum-not-deep e = let z : ◌≡◌ {A = ℕ} 0 1 = cc in omega arith

bad-not-deep : ◌≡◌ {A = Result ℕ Refusal} (Err BadRecord) (Err TooDeep) → ⊥
bad-not-deep e = let z : ◌≡◌ {A = ℕ} 0 1 = cc in omega arith

sum-count : {m n : ℕ} → ◌≡◌ {A = Result ℕ Refusal} (Ok m) (Ok n) → m ≡ n
sum-count e = cc

pub refuse : (l : List ℕ) → ((s : Sum) → encode_sum s ≡ l → Handed s → ⊥) → Weighed l (Err BadRecord)
refuse l f =
    record {
      good = λ n. (λ e. absurd (bad-no-sum e), λ w. absurd (f w.0 w.1 w.2));
      deep = (λ e. absurd (bad-not-deep e), λ w. absurd (f w.0 w.1 w.2));
      bad = (λ e. f, λ w. refl);
    }

-- the bytes are no whole entries, or too few or too many
pub refuse-length : (l : List ℕ) → ((n : ℕ) → 1 ≤ n → n ≤ 64 → length l ≡ 32 * n → ⊥) → Weighed l (Err BadRecord)
refuse-length l f = refuse l (λ s e w. f (size s) w.some w.few (ap length (sym e) ∙ length-sum s))

-- an entry isn't clean
pub refuse-entry : (l : List ℕ) (n : ℕ) → length l ≡ 32 * n → (((j : ℕ) → j < n → clean_at l j ≡ true) → ⊥) → Weighed l (Err BadRecord)
refuse-entry l n h f =
    refuse l (λ s e w. f (λ j p. clean_of l 64 0 s [] (sym e ∙ sym (append-nil (encode_sum s))) w.good w.few j (omega arith) (omega (arith, ap length e, length-sum s))))

-- ---- read into cells

module _ (l : List ℕ) (n : ℕ) (b : Book) (bs : Bytes l) (long : length l ≡ 32 * n) (some : 1 ≤ n) (few : n ≤ 64) (room : Room b n)
    (clean : (j : ℕ) → j < n → clean_at l j ≡ true) (cells : (j : ℕ) → j < n → fives b j ≡ cell_at l j) where
  -- the sum that lies there has these bytes
  out : (left : ℕ) (s : Sum) → Lies b 0 n left s → encode_sum s ≡ l
  out left s w =
      let ends = w.ends in
      let sized : size s ≡ n = omega arith in
      encode-laid (fives b) left 0 s (λ j u v. subst Bits (sym (cells j (omega arith))) (bits_at l bs j (omega arith))) w.laid w.good
      ∙ ap (cell_bytes (fives b) 0) sized
      ∙ cells_same (fives b) (cell_at l) 0 n (λ j u v. cells j (omega arith))
      ∙ cells-part l bs 0 n (omega arith) (λ j u v. clean j (omega arith))
      ∙ take_all (32 * n) l (omega arith)

  -- a good sum of these bytes lies there
  into : (left : ℕ) (s : Sum) → encode_sum s ≡ l → Good left s → Lies b 0 n left s
  into left s e g =
      let sized : size s ≡ n = omega (arith, length-sum s, ap length e) in
      record {
        laid = at-stays (λ j. decoded (cell_at l j)) (at b) 0 s (λ j u v. ap decoded (cells j (omega arith))) (laid_of l left 0 s [] (sym e ∙ sym (append-nil (encode_sum s))) g (omega arith));
        good = g;
        ends = omega arith;
        room = room;
      }

  whole : (left : ℕ) (s : Sum) → Lies b 0 n left s → Good 64 s → Handed s
  whole left s w g = let ends = w.ends in record { good = g; some = omega arith; few = omega arith }

  -- one sum has these bytes
  same : (left right : ℕ) (s t : Sum) → Lies b 0 n left s → Lies b 0 n right t → s ≡ t
  same left right s t v w = let p = v.ends in let q = w.ends in at-unique (at b) 0 s t v.laid w.laid (omega arith)

  pub weigh : (t : Result ℕ Refusal) → Answered b n t → Weighed l t
  weigh t (good h) =
      let s = h.0 in
      let w = h.1 in
      record {
        good = λ m. (
          λ e. let ends = w.ends in (s, out 4 s w, whole 4 s w (deeper s w.good), w.good, omega (arith, sum-count e)),
          λ x. ap Ok (omega (arith, length-sum x.0, ap length x.1, x.4)),
        );
        deep = (λ e. absurd (sum-not-deep e), λ x. absurd (x.3 (subst (Good 4) (same 4 64 s x.0 w (into 64 x.0 x.1 x.2.good)) w.good)));
        bad = (λ e. absurd (sum-not-bad e), λ f. absurd (f s (out 4 s w) (whole 4 s w (deeper s w.good))));
      }
  weigh t (deep d h) =
      let s = d.0 in
      let w = d.1 in
      record {
        good = λ m. (λ e. absurd (sum-not-deep (sym e)), λ x. absurd (h (x.0, into 4 x.0 x.1 x.3)));
        deep = (λ e. (s, out 64 s w, whole 64 s w w.good, λ g. h (s, into 4 s (out 64 s w) g)), λ x. refl);
        bad = (λ e. absurd (bad-not-deep (sym e)), λ f. absurd (f s (out 64 s w) (whole 64 s w w.good)));
      }
  weigh t (bad h) = refuse l (λ s e w. h (s, into 64 s e w.good))

  -- and the sum lies in the cells
  laid-all : Held b 0 n 4 → Laid l b n
  laid-all h = record { few = few; some = (h.0, out 4 h.0 h.1, h.1); every = λ s e g. into 4 s e g }

  pub laid : (t : Result ℕ Refusal) → Answered b n t → (m : ℕ) → t ≡ Ok m → Laid l b m
  laid t (good h) m e = subst (Laid l b) (sum-count e) (laid-all h)
  laid t (deep d h) m e = absurd (sum-not-deep (sym e))
  laid t (bad h) m e = absurd (bad-no-sum e)

-- ---- what follows

-- a good sum within the limits is never refused
pub good-taken : (s : Sum) (t : Result ℕ Refusal) → Good 4 s → 1 ≤ size s → size s ≤ 64 → Weighed (encode_sum s) t → t ≡ Ok (size s)
good-taken s t g some few w = (w.good (size s)).1 (s, refl, handed 4 s g some few, g, refl)

-- and it may be handed over: its bytes are weighed as so many entries, since no other good sum has them
pub weighed-good : (s : Sum) → Good 4 s → 1 ≤ size s → size s ≤ 64 → Weighed (encode_sum s) (Ok (size s))
weighed-good s g some few =
    record {
      good = λ n. (λ e. (s, refl, handed 4 s g some few, g, sum-count e), λ w. ap Ok (omega (arith, length-sum s, length-sum w.0, ap length w.1, w.4)));
      deep = (λ e. absurd (sum-not-deep e), λ w. absurd (w.3 (subst (Good 4) (encode-unique 4 64 s w.0 g w.2.good few (sym w.1)) g)));
      bad = (λ e. absurd (sum-not-bad e), λ f. absurd (f s refl (handed 4 s g some few)));
    }

-- no other refusal is ever given
other : (l : List ℕ) (r : Refusal) → (refusal_no r ≡ 11 → ⊥) → (refusal_no r ≡ 13 → ⊥) → Weighed l (Err r) → ⊥
other l r p q w = p (ap no (w.bad.1 (λ s e h. q (ap no (w.deep.1 (s, e, h, λ g. no_sum ((w.good (size s)).1 (s, e, h, g, refl))))))))
  where
    no : Result ℕ Refusal → ℕ
    no (Ok n) = 0
    no (Err r) = refusal_no r

    no_sum : {n : ℕ} → Err r ≡ Ok n → ⊥
    no_sum e = let z : ◌≡◌ {A = ℕ} 0 1 = cc in omega arith

pub only : (l : List ℕ) (r : Refusal) → Weighed l (Err r) → (r ≡ TooDeep) ⊎ (r ≡ BadRecord)
only l r w = go (eqb (refusal_no r) 13) (eqb (refusal_no r) 11) refl refl
  where
    go : (a b : Bool) → eqb (refusal_no r) 13 ≡ a → eqb (refusal_no r) 11 ≡ b → (r ≡ TooDeep) ⊎ (r ≡ BadRecord)
    go true b d e = inl (same_number r TooDeep (eqb-true (refusal_no r) 13 d))
    go false true d e = inr (same_number r BadRecord (eqb-true (refusal_no r) 11 e))
    go false false d e = absurd (other l r (eqb-false (refusal_no r) 11 e) (eqb-false (refusal_no r) 13 d) w)

-- so a list of bytes has one answer
pub settled : (l : List ℕ) (t u : Result ℕ Refusal) → Weighed l t → Weighed l u → t ≡ u
settled l (Ok n) u v w = sym ((w.good n).1 ((v.good n).0 refl))
settled l (Err r) u v w =
    ⊎_elim (λ e. ap Err e ∙ sym (w.deep.1 (v.deep.0 (ap Err e)))) (λ e. ap Err e ∙ sym (w.bad.1 (v.bad.0 (ap Err e)))) (only l r v)
