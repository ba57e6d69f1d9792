-- The Rust's == on two sums that lie in books, walked side by side. Assumes nothing.
use Prim.Native.Nat.{ℕ}
use native.Mathlib.Omega.{arith}
use mathlib.Core.Path.{◌≡◌, refl, sym, ap, ap₂, ◌∙◌}
use mathlib.Core.Bool.{Bool, true, false, ◌&&◌, true≢false}
use lib.Dec.{ltb, eqb}
use borrow.Author.Tests.{ltb-true, lt-ltb, eq-eqb, ne_eqb}
use Rattle.cells.specs.declared.Entry.{Entry}
use Rattle.cells.specs.Contract.Book.{Book, at}
use Rattle.sums.specs.Tree.Sums.{Sum, none, and, size}
use Rattle.sums.specs.Tree.Same.{same_sum, same_term}
use Rattle.sums.specs.Contract.Lies.{Lies}
use Rattle.sums.proofs.order.Walk.{Next, next}

-- two tests that both pass
pub both : (p q : Bool) → p && q ≡ true → (p ≡ true) × (q ≡ true)
both true q h = (refl, h)
both false q h = absurd (true≢false (sym h))

-- the sums that are left from k and from l on decide
pub record Pair (a : Book) (k e : ℕ) (b : Book) (l f left : ℕ) (s t : Sum) : Type 0 where
  pub s' : Sum
  pub t' : Sum
  pub lies-s : Lies a k e left s'
  pub lies-t : Lies b l f left t'
  pub same : same_sum s t ≡ same_sum s' t'

-- an entry of each is left: their terms decide, and then the rests
pub record Paired (a : Book) (k e : ℕ) (b : Book) (l f left : ℕ) (s t : Sum) (x y : Entry) : Type 0 where
  pub s' : Sum
  pub t' : Sum
  pub first : Next a k e left s' x
  pub other : Next b l f left t' y
  pub terms : {p q : Bool} → p ≡ same_term x first.inner y other.inner → p ≡ q → same_sum s t ≡ q && same_sum first.rest other.rest

pub paired : {a : Book} {k e : ℕ} {b : Book} {l f left : ℕ} {s t : Sum} {x y : Entry} → x ≡ at a k → y ≡ at b l → Pair a k e b l f left s t → ltb k e && ltb l f ≡ true
    → Paired a k e b l f left s t x y
unfolding same_sum
paired {a} {k} {e} {b} {l} {f} {left} {x = x} {y = y} ex ey w h =
    let g = both (ltb k e) (ltb l f) h in
    let n = next a k e left w.s' x ex w.lies-s (ltb-true k e g.0) in
    let m = next b l f left w.t' y ey w.lies-t (ltb-true l f g.1) in
    record {
      s' = w.s';
      t' = w.t';
      first = n;
      other = m;
      terms = λ u v. w.same ∙ ap₂ same_sum n.is m.is ∙ ap (λ (o : Bool). o && same_sum n.rest m.rest) (sym u ∙ v);
    }

-- one of the two has none left: they are equal where the other has none either
ended : (a : Book) (k e : ℕ) (b : Book) (l f left : ℕ) (s t : Sum) → Lies a k e left s → Lies b l f left t → ltb k e && ltb l f ≡ false → eqb k e && eqb l f ≡ same_sum s t
unfolding same_sum size
ended a k e b l f left none none p q h = let u = p.ends in let v = q.ends in rw (eq-eqb k e (omega arith), eq-eqb l f (omega arith))
ended a k e b l f left none (and n y j d r) p q h = let u = p.ends in let v = q.ends in rw (eq-eqb k e (omega arith)) (ne_eqb l f (λ z. omega arith))
ended a k e b l f left (and m x i c r) none p q h = let u = p.ends in let v = q.ends in rw (ne_eqb k e (λ z. omega arith)) refl
ended a k e b l f left (and m x i c s) (and n y j d t) p q h =
    let u = p.ends in
    let v = q.ends in
    absurd (true≢false (sym (rw (lt-ltb k e (omega arith)) (lt-ltb l f (omega arith))) ∙ h))

pub pair_end : (a : Book) (k e : ℕ) (b : Book) (l f left : ℕ) (s t : Sum) → Pair a k e b l f left s t → ltb k e && ltb l f ≡ false → eqb k e && eqb l f ≡ same_sum s t
pair_end a k e b l f left s t w h = ended a k e b l f left w.s' w.t' w.lies-s w.lies-t h ∙ sym w.same
