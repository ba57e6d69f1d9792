-- A sum negated where it lies, entry by entry. Assumes nothing.
use Prim.Native.Nat.{ℕ, ◌+◌, ◌≤◌, ◌<◌}
use native.Mathlib.Omega.{arith}
use mathlib.Core.Path.{◌≡◌, refl, sym, ap, subst, ◌∙◌}
use Rattle.numbers.proofs.Finite.{neg-finite}
use Rattle.numbers.specs.declared.complex.Complex.{Complex}
use Rattle.numbers.specs.Complex.Arith.{negated}
use Rattle.cells.specs.declared.Entry.{Entry}
use Rattle.cells.specs.Contract.Book.{Book, cell, at, Plain}
use Rattle.cells.specs.Contract.Moves.{SameRoom, Put}
use Rattle.cells.proofs.Laws.{at-fits, put-at, at-kept, room-same}
use Rattle.sums.specs.Tree.Sums.{Sum, none, and, size, entry}
use Rattle.sums.proofs.tree.Keeps.{Fits}
use Rattle.arithmetic.specs.Singles.{with_coef}
use Rattle.arithmetic.specs.Adding.{neg_sum}
use Rattle.arithmetic.proofs.Goodness.{fits-negated, neg-good, neg-size}
use Rattle.sums.specs.Contract.Lies.{At, Lies}
use Rattle.sums.proofs.order.Walk.{next, at-stays, lies-none, lies-stays}

-- s' is left of s from q on; wherever the cells before q stay and s' negated follows them, there is s negated
pub record Negating (b : Book) (p q e : ℕ) (s : Sum) : Type 0 where
  pub s' : Sum
  pub lies : Lies b q e 4 s'
  pub whole : (b' : Book) → ((j : ℕ) → j < q → cell b' j ≡ cell b j) → At (at b') q (neg_sum s') → At (at b') p (neg_sum s)

pub start : {b : Book} {p e : ℕ} {s : Sum} → Lies b p e 4 s → Negating b p p e s
start {s = s} l = record { s' = s; lies = l; whole = λ b' same a. a }

-- a finite entry stays finite
pub plain-negated : {y : Entry} {c : Complex} → Plain y → c ≡ negated y.coef → Plain (with_coef y c)
plain-negated {y} p e =
    record { num = p.num; re = rw (ap (λ (u : Complex). u.re) e, neg-finite y.coef.re) p.re; im = rw (ap (λ (u : Complex). u.im) e, neg-finite y.coef.im) p.im }

and-laid : (f : ℕ → Entry) (q : ℕ) (y : Entry) (i r : Sum) → y.inside ≡ size i → f q ≡ with_coef y (negated y.coef) → At f (q + 1) i → At f (q + 1 + y.inside) (neg_sum r)
    → At f q (neg_sum (and y.kind y.num i y.coef r))
unfolding At neg_sum
and-laid f q y i r e h a b = (h ∙ ap (λ (n : ℕ). entry y.kind n y.num (negated y.coef)) e, a, subst (λ (n : ℕ). At f (q + 1 + n) (neg_sum r)) e b)

-- the next entry is written with its coefficient negated
pub turn : {b b' : Book} {p q e : ℕ} {s : Sum} (y : Entry) {c : Complex} → y ≡ at b q → Negating b p q e s → q < e → c ≡ negated y.coef → Put b b' q (with_coef y c)
    → Negating b' p (q + 1 + y.inside) e s
turn {b} {b'} {p} {q} {e} {s} y {c} ey w h ec put =
    let n = next b q e 4 w.s' y ey w.lies h in
    let inside = n.inside in
    let within = n.within in
    let sized = n.lies-inner.ends in
    let fits = at-fits b q in
    let coef : Fits (negated y.coef) = fits-negated (record { re = rw ey fits.re; im = rw ey fits.im }) in
    let put' : Put b b' q (with_coef y (negated y.coef)) = subst (λ (d : Complex). Put b b' q (with_coef y d)) ec put in
    let here : at b' q ≡ with_coef y (negated y.coef) = put-at put' (record { num = rw ey fits.num; re = coef.re; im = coef.im }) in
    record {
      s' = n.rest;
      lies = lies-stays b b' _ e 4 n.rest (λ j lo hi. put.else j (λ z. omega arith)) put.long n.lies-rest;
      whole = λ b'' same a.
          w.whole b'' (λ j l. same j (omega arith) ∙ put.else j (λ z. omega arith))
          (subst (λ (u : Sum). At (at b'') q (neg_sum u)) (sym n.is)
          (and-laid (at b'') q y n.inner n.rest inside (at-kept b' b'' q (same q (omega arith)) ∙ here)
          (at-stays (at b) (at b'') (q + 1) n.inner (λ j lo hi. at-kept b b'' j (same j (omega arith) ∙ put.else j (λ z. omega arith))) n.lies-inner.laid) a));
    }

none-laid : (f : ℕ → Entry) (q : ℕ) (s : Sum) → s ≡ none → At f q (neg_sum s)
unfolding At neg_sum
none-laid f q s e = subst (λ (u : Sum). At f q (neg_sum u)) (sym e) tt

-- nothing is left
pub done : {b b' : Book} {p q e : ℕ} {s : Sum} → Lies b p e 4 s → SameRoom b b' → Negating b' p q e s → e ≤ q → Lies b' p e 4 (neg_sum s)
done {b} {b'} {p} {q} {e} {s} l long w h =
    let ends = l.ends in
    record {
      laid = w.whole b' (λ j lo. refl) (none-laid (at b') q w.s' (lies-none b' q e 4 w.s' w.lies h));
      good = neg-good 4 s l.good;
      ends = omega (arith, neg-size s);
      room = room-same long l.room;
    }
