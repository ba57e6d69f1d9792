-- Comparing two sums that lie in books, and searching one for a term: what is left decides. Assumes nothing.
use Prim.Native.Nat.{ℕ, suc, ◌+◌, ◌-◌, ◌≤◌, ◌<◌}
use native.Mathlib.Omega.{arith}
use mathlib.Core.Path.{◌≡◌, sym, ap, ap₂, subst, ◌∙◌}
use Rattle.std.specs.declared.cmp.Ordering.{Ordering}
use Rattle.std.specs.declared.cmp.Ordering.TheVariants.{Equal, Greater}
use Rattle.numbers.specs.Order.{and_then}
use Rattle.numbers.specs.Complex.Arith.{cmp_complex}
use Rattle.cells.specs.declared.Entry.{Entry}
use Rattle.cells.specs.Contract.Book.{Book, at}
use Rattle.sums.specs.Tree.Sums.{Sum, and, size, len}
use Rattle.sums.specs.Tree.Order.{cmp_nat, cmp_each, cmp_sum, cmp_term}
use Rattle.sums.specs.Tree.Good.{Good}
use Rattle.sums.specs.Tree.Map.{by_order}
use Rattle.sums.proofs.tree.Order.{nat-equal}
use Rattle.sums.proofs.tree.Keeps.{good_more}
use Rattle.sums.specs.declared.order.Found.TheVariants.{Same, Before}
use Rattle.sums.specs.Contract.Lies.{Lies}
use Rattle.sums.specs.Contract.Place.{place}
use Rattle.sums.proofs.order.Walk.{Next, next, next-at, lies-none, some}

-- ---- two sums compared entry by entry

-- of s and t there are left s' and t', from p and q on, and they decide where o, the order of the entries before, is Equal
pub record Abreast (a : Book) (p e : ℕ) (b : Book) (q d left : ℕ) (s t : Sum) (o : Ordering) : Type 0 where
  pub s' : Sum
  pub t' : Sum
  pub lies-s : Lies a p e left s'
  pub lies-t : Lies b q d left t'
  pub alike : len s' ≡ len t'
  pub order : cmp_sum s t ≡ and_then o (cmp_each s' t')

-- at equal lengths the entries decide
pub outset : {a : Book} {p e : ℕ} {b : Book} {q d left : ℕ} {s t : Sum} → Lies a p e left s → Lies b q d left t → cmp_nat (len s) (len t) ≡ Equal → Abreast a p e b q d left s t Equal
outset {s = s} {t = t} l k h =
    record { s' = s; t' = t; lies-s = l; lies-t = k; alike = nat-equal (len s) (len t) h; order = ap (λ (o : Ordering). and_then o (cmp_each s t)) h }

-- where the first has a next entry, so does the second
pub second : {a : Book} {p e : ℕ} {b : Book} {q d left : ℕ} {s t : Sum} → Abreast a p e b q d left s t Equal → p < e → q < d
second {a} {p} {e} {b} {q} {d} {left} w h =
    let n = next-at a p e left w.s' w.lies-s h in
    let ends = w.lies-t.ends in
    omega (arith, some w.t' (omega arith))

each_and : (x y : Entry) (i r j s : Sum) (o : Ordering) → and_then (cmp_term x i y j) (cmp_complex x.coef y.coef) ≡ o
    → cmp_each (and x.kind x.num i x.coef r) (and y.kind y.num j y.coef s) ≡ and_then o (cmp_each r s)
unfolding cmp_each
each_and x y i r j s o e = ap (λ (u : Ordering). and_then u (cmp_each r s)) e

-- both next entries, as they were read
pub first-next : {a : Book} {p e : ℕ} {b : Book} {q d left : ℕ} {s t : Sum} {x : Entry} (w : Abreast a p e b q d left s t Equal) → p < e → x ≡ at a p → Next a p e left w.s' x
first-next w h ex = next _ _ _ _ w.s' _ ex w.lies-s h

pub second-next : {a : Book} {p e : ℕ} {b : Book} {q d left : ℕ} {s t : Sum} {y : Entry} (w : Abreast a p e b q d left s t Equal) → p < e → y ≡ at b q → Next b q d left w.t' y
second-next w h ey = next _ _ _ _ w.t' _ ey w.lies-t (second w h)

-- a turn: u and v are the orders of the two terms and of their coefficients
pub turn : {a : Book} {p e : ℕ} {b : Book} {q d left : ℕ} {s t : Sum} {x y : Entry} {u v o : Ordering} → x ≡ at a p → y ≡ at b q → Abreast a p e b q d left s t Equal → p < e
    → ((i j : Sum) → Lies a (p + 1) (p + 1 + x.inside) (left - 1) i → Lies b (q + 1) (q + 1 + y.inside) (left - 1) j → u ≡ cmp_term x i y j)
    → v ≡ cmp_complex x.coef y.coef → and_then u v ≡ o
    → Abreast a (p + 1 + x.inside) e b (q + 1 + y.inside) d left s t o
turn {x = x} {y = y} {o = o} ex ey w h terms coefs eo =
    let n = first-next w h ex in
    let m = second-next w h ey in
    let entries = sym (ap₂ and_then (terms n.inner m.inner n.lies-inner m.lies-inner) coefs) ∙ eo in
    record {
      s' = n.rest;
      t' = m.rest;
      lies-s = n.lies-rest;
      lies-t = m.lies-rest;
      alike = omega arith;
      order = w.order ∙ ap₂ cmp_each n.is m.is ∙ each_and x y n.inner n.rest m.inner m.rest o entries;
    }

-- nothing is left
pub walked : {a : Book} {p e : ℕ} {b : Book} {q d left : ℕ} {s t : Sum} → Abreast a p e b q d left s t Equal → e ≤ p → cmp_sum s t ≡ Equal
unfolding cmp_each
walked {a} {p} {e} {b} {q} {d} {left} w h = w.order ∙ ap (λ (u : Sum). cmp_each u w.t') (lies-none a p e left w.s' w.lies-s h)

-- ---- a term sought in a sum

-- from k on there is left s', which decides
pub record Seek (b : Book) (k e left : ℕ) (x : Entry) (t s : Sum) (p : ℕ) : Type 0 where
  pub s' : Sum
  pub lies : Lies b k e left s'
  pub same : place x t s p ≡ place x t s' k

-- its next entry, as it was read
pub seek-next : {b : Book} {k e left : ℕ} {x : Entry} {t s : Sum} {p : ℕ} {y : Entry} (w : Seek b k e left x t s p) → k < e → y ≡ at b k → Next b k e left w.s' y
seek-next w h ey = next _ _ _ _ w.s' _ ey w.lies h

-- an entry's inside, one level more allowed
pub inner-more : {b : Book} {k e left : ℕ} {s : Sum} {y : Entry} (n : Next b k e left s y) → Lies b (k + 1) (k + 1 + y.inside) left n.inner
inner-more {left = left} n =
    let l = n.lies-inner in
    let deep = n.first.deep in
    let more : suc (left - 1) ≡ left = omega arith in
    record { laid = l.laid; good = subst (λ (u : ℕ). Good u n.inner) more (good_more (left - 1) n.inner l.good); ends = l.ends; room = l.room }

-- after an entry at k: what o, the order of the term and the entry, leaves to decide
pub record Sought (b : Book) (k m e left : ℕ) (x : Entry) (t s : Sum) (p : ℕ) (o : Ordering) : Type 0 where
  pub s' : Sum
  pub lies : Lies b m e left s'
  pub same : place x t s p ≡ by_order o (Before k) (Same k) (place x t s' m)

place-and : (x y : Entry) (t j r : Sum) (k : ℕ) (o : Ordering) → cmp_term x t y j ≡ o → y.inside ≡ size j
    → place x t (and y.kind y.num j y.coef r) k ≡ by_order o (Before k) (Same k) (place x t r (k + 1 + y.inside))
unfolding place
place-and x y t j r k o e i = ap₂ (λ (u : Ordering) (n : ℕ). by_order u (Before k) (Same k) (place x t r (k + 1 + n))) e (sym i)

pub sought : {b : Book} {k e left : ℕ} {x : Entry} {t s : Sum} {p : ℕ} {y : Entry} {u o : Ordering}
    → y ≡ at b k → Seek b k e left x t s p → k < e → ((j : Sum) → Lies b (k + 1) (k + 1 + y.inside) left j → u ≡ cmp_term x t y j) → u ≡ o
    → Sought b k (k + 1 + y.inside) e left x t s p o
sought {k = k} {x = x} {t = t} {y = y} {o = o} ey w h term eo =
    let n = seek-next w h ey in
    record {
      s' = n.rest;
      lies = n.lies-rest;
      same = w.same ∙ ap (λ (u : Sum). place x t u k) n.is ∙ place-and x y t n.inner n.rest k o (sym (term n.inner (inner-more n)) ∙ eo) n.inside;
    }

-- a greater term is sought in the rest
pub past : {b : Book} {k m e left : ℕ} {x : Entry} {t s : Sum} {p : ℕ} → Sought b k m e left x t s p Greater → Seek b m e left x t s p
past w = record { s' = w.s'; lies = w.lies; same = w.same }

-- nothing is left
pub unseen : {b : Book} {k e left : ℕ} {x : Entry} {t s : Sum} {p : ℕ} → Seek b k e left x t s p → e ≤ k → place x t s p ≡ Before k
unfolding place
unseen {b} {k} {e} {left} {x} {t} w h = w.same ∙ ap (λ (u : Sum). place x t u k) (lies-none b k e left w.s' w.lies h)
