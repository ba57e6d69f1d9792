-- A good sum, entry by entry: there is one exactly where each cell passed so far is a term that comes after the one before, and a good rest follows.
-- Assumes nothing.
use Prim.Native.Nat.{ℕ, zero, suc, ◌+◌, ◌-◌, ◌≤◌, ◌<◌}
use native.Mathlib.Omega.{arith}
use native.Mathlib.Decide.{dec_le}
use mathlib.Core.Path.{◌≡◌, refl, sym, ap, ap₂, subst, ◌∙◌}
use mathlib.Core.Bool.{Bool, true, false, true≢false}
use mathlib.Core.Logic.{◌↔◌}
use lib.Dec.{eqb}
use lib.Ieee.{binary64, fits}
use lib.Ieee.Fits.{and_i}
use lib.Ieee.Scale.{finite}
use borrow.Author.Tests.{eq-eqb, ne_eqb, eqb-true}
use Rattle.std.specs.declared.cmp.Ordering.{Ordering}
use Rattle.std.specs.declared.cmp.Ordering.TheVariants.{Less, Equal, Greater}
use Rattle.cells.specs.declared.Entry.{Entry}
use Rattle.cells.specs.Contract.Book.{Book, at, Room}
use Rattle.cells.proofs.Laws.{room-less, at-fits}
use Rattle.sums.specs.Tree.Sums.{Sum, none, and, size, entry}
use Rattle.sums.specs.Tree.Order.{cmp_term}
use Rattle.sums.specs.Tree.Good.{Good, GoodEntry, Before, is_empty}
use Rattle.sums.specs.Contract.Lies.{At, Lies, Held}
use Rattle.sums.proofs.order.Walk.{Next, next-at}
use Rattle.sums.specs.Contract.Fine.{Fine, Inside, Term, Follows, is_less}

-- the term at `last` comes before the sum
pub record Comes (b : Book) (last left : ℕ) (s : Sum) : Type 0 where
  pub inner : Sum
  pub lies : Inside b last (left - 1) inner
  pub before : Before (at b last).kind (at b last).num inner s

-- a good sum lies from k on, after the term at `last`, where there is one
pub record Rest (b : Book) (last k e left : ℕ) : Type 0 where
  pub rest : Sum
  pub lies : Lies b k e left rest
  pub after : last < k → Comes b last left rest

-- the cells from i up to k are passed, `last` is the last outermost one of them: a good sum lies there exactly where a good rest does
pub record Passed (b : Book) (i e left last k : ℕ) : Type 0 where
  pub high : k ≤ e
  pub term : last < k → Term b last (left - 1)
  pub same : Held b i e left ↔ Rest b last k e left

-- nothing is passed
pub outset : (b : Book) (i e left : ℕ) → i ≤ e → Passed b i e left i i
outset b i e left h =
    record {
      high = h;
      term = λ l. absurd (omega arith);
      same = (λ w. record { rest = w.0; lies = w.1; after = λ l. absurd (omega arith) }, λ w. (w.rest, w.lies));
    }

lies-at-end : (b : Book) (k e left : ℕ) → k ≡ e → Room b e → Lies b k e left none
unfolding At Good size
lies-at-end b k e left h r = record { laid = tt; good = tt; ends = omega arith; room = r }

-- everything is passed
pub passed : {b : Book} {i e left last k : ℕ} → Passed b i e left last k → e ≤ k → Room b e → Held b i e left
passed {b} {i} {e} {left} {last} {k} p h r =
    let high = p.high in
    p.same.1 (record { rest = none; lies = lies-at-end b k e left (omega arith) r; after = λ l. let t = p.term l in record { inner = t.inner; lies = t.lies; before = tt } })

empty-eqb : (t : Sum) (n : ℕ) → n ≡ size t → is_empty t ≡ eqb n 0
unfolding size
empty-eqb none n e = sym (eq-eqb n 0 e)
empty-eqb (and k p i c r) n e = sym (ne_eqb n 0 (λ z. omega arith))

less-is : (o : Ordering) → is_less o ≡ true → o ≡ Less
less-is Less e = refl
less-is Equal e = absurd (true≢false (sym e))
less-is Greater e = absurd (true≢false (sym e))

-- ---- what a good rest that isn't empty says of the cell at k
module _ {b : Book} {last k e left : ℕ} (w : Rest b last k e left) (h : k < e) where
  n : Next b k e left w.rest (at b k)
  n = next-at b k e left w.rest w.lies h

  pub rest-fine : Fine b k e
  rest-fine =
      let g = n.first.entry-good in
      record {
        plain = n.first.plain;
        least = g.least;
        most = g.most;
        none_else = g.none_else;
        inside = sym (empty-eqb n.inner (at b k).inside n.inside) ∙ g.inside;
        within = n.within;
      }

  pub rest-inner : Held b (k + 1) (k + 1 + (at b k).inside) (left - 1)
  rest-inner = (n.inner, n.lies-inner)

  pub rest-follows : (r : Bool) → Follows b last k (left - 1) r → r ≡ true
  rest-follows r f =
      elim (dec_le k last) [
        | yes m ↦ f.first m
        | no m ↦
            let l : last < k = omega arith in
            let c = w.after l in
            f.later l c.inner n.inner c.lies n.lies-inner ∙ ap is_less (subst (Before (at b last).kind (at b last).num c.inner) n.is c.before)
      ]

-- ---- a cell that passes

good-cons : (left : ℕ) (x : Entry) (i r : Sum) → 1 ≤ left → GoodEntry x.kind x.num i x.coef → Good (left - 1) i → Before x.kind x.num i r
    → Good left r → Good left (and x.kind x.num i x.coef r)
unfolding Good
good-cons zero x i r h e g b s = absurd (omega arith)
good-cons (suc l) x i r h e g b s = (e, subst (λ (n : ℕ). Good n i) (omega arith) g, b, s)

-- a term, its inside and the rest of a sum lie there together
module _ {b : Book} {k e left : ℕ} (deep : 1 ≤ left) (f : Fine b k e) (j r : Sum) (l : Inside b k (left - 1) j) (m : Lies b (k + 1 + (at b k).inside) e left r) where
  sized : (at b k).inside ≡ size j
  sized = let ends = l.ends in omega arith

  entry-good : GoodEntry (at b k).kind (at b k).num j (at b k).coef
  entry-good =
      let p = f.plain in
      let q = at-fits b k in
      record {
        least = f.least;
        most = f.most;
        number = and_i (finite (at b k).num) (fits binary64 (at b k).num) p.num q.num;
        none_else = f.none_else;
        re = and_i (finite (at b k).coef.re) (fits binary64 (at b k).coef.re) p.re q.re;
        im = and_i (finite (at b k).coef.im) (fits binary64 (at b k).coef.im) p.im q.im;
        inside = empty-eqb j (at b k).inside sized ∙ f.inside;
      }

  lies-and : Before (at b k).kind (at b k).num j r → Lies b k e left (and (at b k).kind (at b k).num j (at b k).coef r)
  unfolding At size
  lies-and h =
      let ends = m.ends in
      record {
        laid = (ap (λ (n : ℕ). entry (at b k).kind n (at b k).num (at b k).coef) sized, l.laid, subst (λ (n : ℕ). At (at b) (k + 1 + n) r) sized m.laid);
        good = good-cons left (at b k) j r deep entry-good l.good h m.good;
        ends = omega (arith, sized);
        room = m.room;
      }

-- one more is passed
pub pass : {b : Book} {i e left last k : ℕ} → Passed b i e left last k → 1 ≤ left → Fine b k e → Held b (k + 1) (k + 1 + (at b k).inside) (left - 1)
    → (r : Bool) → Follows b last k (left - 1) r → r ≡ true → Passed b i e left k (k + 1 + (at b k).inside)
pass {b} {i} {e} {left} {last} {k} p deep f g r o y =
    record {
      high = f.within;
      term = λ l. record { plain = f.plain; inner = g.0; lies = g.1 };
      same = (λ h. there (p.same.0 h), λ v. p.same.1 (back v));
    }
  where
    there : Rest b last k e left → Rest b k (k + 1 + (at b k).inside) e left
    there w =
        let n = next-at b k e left w.rest w.lies (omega (arith, f.within)) in
        record { rest = n.rest; lies = n.lies-rest; after = λ l. record { inner = n.inner; lies = n.lies-inner; before = n.first.before } }

    back : Rest b k (k + 1 + (at b k).inside) e left → Rest b last k e left
    back v =
        let c = v.after (omega arith) in
        record {
          rest = and (at b k).kind (at b k).num c.inner (at b k).coef v.rest;
          lies = lies-and deep f c.inner v.rest c.lies v.lies c.before;
          after = λ l.
              let t = p.term l in
              record { inner = t.inner; lies = t.lies; before = less-is _ (sym (o.later l t.inner c.inner t.lies c.lies) ∙ y) };
        }

-- no levels are left: only the empty sum is good
good-zero : (s : Sum) → Good 0 s → size s ≡ 0
unfolding Good size
good-zero none g = refl
good-zero (and k p i c r) g = absurd g

pub held-zero : (b : Book) (i n : ℕ) → Room b (i + n) → (eqb n 0 ≡ true) ↔ Held b i (i + n) 0
held-zero b i n r = (
  λ e. (none, lies-at-end b i (i + n) 0 (omega (arith, eqb-true n 0 e)) r),
  λ w. let ends = w.1.ends in eq-eqb n 0 (omega (arith, good-zero w.0 w.1.good)),
)

-- a test that any good sum passes failed
pub fails : {A : Type 0} (r : Bool) → r ≡ false → (A → r ≡ true) → (false ≡ true) ↔ A
fails r e h = (λ z. absurd (true≢false (sym z)), λ w. absurd (true≢false (sym (h w) ∙ e)))

-- ---- two terms that were compared

-- a term's inside, as the entry that was read says where it ends
pub term-held : {b : Book} {k left : ℕ} (x : Entry) → x ≡ at b k → Term b k left → Held b (k + 1) (k + 1 + x.inside) left
term-held x e t = (t.inner, rw e t.lies)

pub term-room : {b : Book} {k left : ℕ} → Term b k left → Room b (k + 1)
term-room {b} {k} t = room-less {n = k + 1 + (at b k).inside} (omega arith) t.lies.room

-- u is the order of the two terms
pub compared : (b : Book) (last k left : ℕ) (x y : Entry) (u : Ordering) (r : Bool) → x ≡ at b last → y ≡ at b k → last < k
    → ((s t : Sum) → Lies b (last + 1) (last + 1 + x.inside) left s → Lies b (k + 1) (k + 1 + y.inside) left t → u ≡ cmp_term x s y t) → r ≡ is_less u → Follows b last k left r
compared b last k left x y u r ex ey h f e =
    record {
      first = λ l. absurd (omega arith);
      later = λ l s t p q. e ∙ ap is_less (f s t (rw ex p) (rw ey q) ∙ ap₂ (λ (v w : Entry). cmp_term v s w t) ex ey);
    }
