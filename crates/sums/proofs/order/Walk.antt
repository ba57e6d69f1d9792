-- Walking over a sum that lies in a book, entry by entry, and moving one. Assumes nothing.
use Prim.Native.Nat.{ℕ, zero, suc, ◌+◌, ◌-◌, ◌≤◌, ◌<◌}
use native.Mathlib.Omega.{arith}
use native.Mathlib.Nat.{eq-or-lt_of_le}
use native.Mathlib.Decide.{dec_le}
use mathlib.Core.Path.{◌≡◌, refl, sym, ap, subst, ◌∙◌}
use mathlib.Core.Logic.{⊎_elim}
use lib.Ieee.{Float, binary64, fits}
use lib.Ieee.Fits.{and_l}
use lib.Ieee.Scale.{finite}
use Rattle.numbers.specs.declared.complex.Complex.{Complex}
use Rattle.cells.specs.declared.Entry.{Entry}
use Rattle.cells.specs.Contract.Book.{Book, cell, decoded, at, Room, Plain}
use Rattle.cells.specs.Contract.Moves.{Kept, SameRoom, Copied}
use Rattle.cells.proofs.Laws.{room-less, room-same, at-kept}
use Rattle.sums.specs.Tree.Sums.{Sum, none, and, size, len, entry}
use Rattle.sums.specs.Tree.Good.{Good, GoodEntry, Before}
use Rattle.sums.specs.Contract.Lies.{At, Lies}

-- where entries are left, the first is a term, with its inside right behind it, and then the rest
pub record Opened (f : ℕ → Entry) (k : ℕ) (s : Sum) : Type 0 where
  pub inner : Sum
  pub rest : Sum
  pub is : s ≡ and (f k).kind (f k).num inner (f k).coef rest
  pub inside : (f k).inside ≡ size inner
  pub laid-inner : At f (k + 1) inner
  pub laid-rest : At f (k + 1 + (f k).inside) rest
  pub sized : size s ≡ 1 + (f k).inside + size rest
  pub longer : len s ≡ 1 + len rest

pub opened : (f : ℕ → Entry) (k : ℕ) (s : Sum) → At f k s → 0 < size s → Opened f k s
unfolding size At len
opened f k none a p = absurd (omega arith)
opened f k (and kd p i c r) a q =
    record {
      inner = i;
      rest = r;
      is = rw a.0;
      inside = rw a.0;
      laid-inner = a.1;
      laid-rest = rw a.0 a.2;
      sized = rw a.0 (omega arith);
      longer = omega arith;
    }

pub empty : (s : Sum) → size s ≡ 0 → s ≡ none
unfolding size
empty none e = refl
empty (and k p i c r) e = absurd (omega arith)

pub len-empty : (s : Sum) → size s ≡ 0 → len s ≡ 0
unfolding len
len-empty s e = ap len (empty s e)

pub some : (s : Sum) → 0 < len s → 0 < size s
unfolding len size
some none p = p
some (and k p i c r) q = omega arith

-- ---- what a good sum says of its first entry

pub plain_of : {k : ℕ} {p : Float} {i : Sum} {c : Complex} (n : ℕ) → GoodEntry k p i c → Plain (entry k n p c)
plain_of {k} {p} {i} {c} n g =
    record {
      num = and_l (finite p) (fits binary64 p) g.number;
      re = and_l (finite c.re) (fits binary64 c.re) g.re;
      im = and_l (finite c.im) (fits binary64 c.im) g.im;
    }

pub record GoodFirst (left : ℕ) (x : Entry) (i r : Sum) : Type 0 where
  pub deep : 1 ≤ left
  pub entry-good : GoodEntry x.kind x.num i x.coef
  pub plain : Plain x
  pub inner : Good (left - 1) i
  pub before : Before x.kind x.num i r
  pub rest : Good left r

pub good-and : (left : ℕ) (x : Entry) (i r : Sum) → Good left (and x.kind x.num i x.coef r) → GoodFirst left x i r
unfolding Good
good-and zero x i r h = absurd h
good-and (suc l) x i r h =
    record { deep = omega arith; entry-good = h.0; plain = plain_of x.inside h.0; inner = subst (λ (n : ℕ). Good n i) (omega arith) h.1; before = h.2; rest = h.3 }

-- ---- the first entry of a sum that lies in a book

pub record Next (b : Book) (k e left : ℕ) (s : Sum) (x : Entry) : Type 0 where
  pub inner : Sum
  pub rest : Sum
  pub is : s ≡ and x.kind x.num inner x.coef rest
  pub lies-inner : Lies b (k + 1) (k + 1 + x.inside) (left - 1) inner
  pub lies-rest : Lies b (k + 1 + x.inside) e left rest
  pub inside : x.inside ≡ size inner
  pub readable : Room b (k + 1)
  pub first : GoodFirst left x inner rest
  pub within : k + 1 + x.inside ≤ e
  pub longer : len s ≡ 1 + len rest

pub next-at : (b : Book) (k e left : ℕ) (s : Sum) → Lies b k e left s → k < e → Next b k e left s (at b k)
next-at b k e left s l p =
    let ends = l.ends in
    let o = opened (at b) k s l.laid (omega arith) in
    let h = good-and left (at b k) o.inner o.rest (subst (Good left) o.is l.good) in
    let w : k + 1 + (at b k).inside ≤ e = omega arith in
    record {
      inner = o.inner;
      rest = o.rest;
      is = o.is;
      lies-inner = record { laid = o.laid-inner; good = h.inner; ends = omega arith; room = room-less w l.room };
      lies-rest = record { laid = o.laid-rest; good = h.rest; ends = omega arith; room = l.room };
      inside = o.inside;
      readable = room-less {n = e} (omega arith) l.room;
      first = h;
      within = w;
      longer = o.longer;
    }

pub next : (b : Book) (k e left : ℕ) (s : Sum) (x : Entry) → x ≡ at b k → Lies b k e left s → k < e → Next b k e left s x
next b k e left s x ex l p = subst (Next b k e left s) (sym ex) (next-at b k e left s l p)

-- nothing is left at the end
pub lies-none : (b : Book) (k e left : ℕ) (s : Sum) → Lies b k e left s → e ≤ k → s ≡ none
lies-none b k e left s l h = let ends = l.ends in empty s (omega arith)

-- the empty sum lies anywhere
pub lies_empty : (b : Book) (i left : ℕ) → Room b i → Lies b i (i + 0) left none
unfolding At Good size
lies_empty b i left r = record { laid = tt; good = tt; ends = refl; room = room-less {n = i} (omega arith) r }

-- ---- a sum lies wherever its entries do

pub at_moved : (f g : ℕ → Entry) (i j : ℕ) (s : Sum) → ((a b : ℕ) → i ≤ a → a < i + size s → b + i ≡ a + j → g b ≡ f a) → At f i s → At g j s
unfolding At size
at_moved f g i j none h a = tt
at_moved f g i j (and k p t c r) h a = (
  h i j (omega arith) (omega arith) (omega arith) ∙ a.0,
  at_moved f g (i + 1) (j + 1) t (λ u v p q e. h u v (omega arith) (omega arith) (omega arith)) a.1,
  at_moved f g (i + 1 + size t) (j + 1 + size t) r (λ u v p q e. h u v (omega arith) (omega arith) (omega arith)) a.2,
)

pub at-stays : (f g : ℕ → Entry) (i : ℕ) (s : Sum) → ((a : ℕ) → i ≤ a → a < i + size s → g a ≡ f a) → At f i s → At g i s
at-stays f g i s h a = at_moved f g i i s (λ u v p q e. ap g (omega arith) ∙ h u p q) a

-- every cell of a good sum holds finite numbers
pub plain_at : (f : ℕ → Entry) (p left : ℕ) (s : Sum) → At f p s → Good left s → (k : ℕ) → p ≤ k → k < p + size s → Plain (f k)
unfolding At Good size
plain_at f p left none a h k lo hi = absurd (omega arith)
plain_at f p zero (and kd q i c r) a h k lo hi = absurd h
plain_at f p (suc left) (and kd q i c r) a h k lo hi =
    ⊎_elim (λ e. subst (λ (j : ℕ). Plain (f j)) e (rw a.0 (plain_of (size i) h.0)))
    (λ g.
    elim (dec_le (p + 1 + size i) k) [
      | yes m ↦ plain_at f (p + 1 + size i) (suc left) r a.2 h.3 k m (omega arith)
      | no m ↦ plain_at f (p + 1) left i a.1 h.1 k (omega arith) (omega arith)
    ])
    (eq-or-lt_of_le lo)

-- ---- a sum still lies where nothing was written

pub lies-stays : (b b' : Book) (i e left : ℕ) (s : Sum) → ((j : ℕ) → i ≤ j → j < e → cell b' j ≡ cell b j) → SameRoom b b' → Lies b i e left s → Lies b' i e left s
lies-stays b b' i e left s same long l =
    let ends = l.ends in
    record {
      laid = at-stays (at b) (at b') i s (λ j lo hi. at-kept b b' j (same j lo (omega arith))) l.laid;
      good = l.good;
      ends = ends;
      room = room-same long l.room;
    }

pub lies-below : {b b' : Book} {lo hi : ℕ} (i e left : ℕ) (s : Sum) → Kept b b' lo hi → e ≤ lo → Lies b i e left s → Lies b' i e left s
lies-below {b} {b'} i e left s k h l = lies-stays b b' i e left s (λ j p q. k.below j (omega arith)) k.long l

pub lies-above : {b b' : Book} {lo hi : ℕ} (i e left : ℕ) (s : Sum) → Kept b b' lo hi → hi ≤ i → Lies b i e left s → Lies b' i e left s
lies-above {b} {b'} i e left s k h l = lies-stays b b' i e left s (λ j p q. k.above j (omega arith)) k.long l

-- ---- a sum that was copied lies where it was copied to

pub lies-copied : {g b b' : Book} {i n k left : ℕ} {s : Sum} → Copied g b b' i n k → Room b (k + n) → Lies g i (i + n) left s → Lies b' k (k + n) left s
lies-copied {g} {b} {b'} {i} {n} {k} {left} {s} w r l =
    let ends = l.ends in
    record {
      laid =
          at_moved (at g) (at b') i k s
          (λ u v lo hi e. ap (at b') (omega arith) ∙ ap decoded (w.copied (u - i) (omega arith)) ∙ ap (at g) (omega arith)) l.laid;
      good = l.good;
      ends = omega arith;
      room = room-same w.long r;
    }
