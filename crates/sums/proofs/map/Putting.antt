-- Putting a term into a sum that lies in a book: what is written at its place, and the sum that then lies there. Assumes nothing.
use Prim.Native.Nat.{ℕ, ◌+◌, ◌-◌, ◌≤◌, ◌<◌}
use native.Mathlib.Omega.{arith}
use mathlib.Core.Path.{◌≡◌, refl, sym, ap, subst, ◌∙◌}
use mathlib.Core.Bool.{Bool, true, false, true≢false}
use lib.Dec.{T, leb, eqb}
use lib.Ieee.{Float}
use lib.Ieee.Fits.{and_l, and_r}
use lib.Ieee.Scale.{finite}
use borrow.Author.Tests.{leb-true, le-leb, lt-leb, eq-eqb, ne_eqb}
use Rattle.std.specs.declared.cmp.Ordering.{Ordering}
use Rattle.std.specs.declared.cmp.Ordering.TheVariants.{Less, Equal, Greater}
use Rattle.numbers.proofs.Bools.{T_of}
use Rattle.numbers.specs.declared.complex.Complex.{Complex}
use Rattle.numbers.specs.Complex.Arith as complex
use Rattle.cells.specs.declared.Entry.{Entry}
use Rattle.cells.specs.Contract.Book.{Book, at, decoded, Room, Plain}
use Rattle.cells.specs.Contract.Moves.{Apart, under, over, Kept, Put, Inserted}
use Rattle.cells.proofs.Laws.{Fitting, decoded-encoded, at-fits, at-kept, room-less, room-same, kept_refl, kept-wider, put-kept, inserted-kept}
use Rattle.limits.specs.Limits.{sum_entries, sum_levels}
use Rattle.sums.specs.declared.tree.Merge.{Merge}
use Rattle.limits.specs.declared.Refusal.{Refusal}
use Rattle.limits.specs.declared.Refusal.TheVariants.{NotFinite, TooDeep, NoRoom}
use Rattle.sums.specs.Tree.Kinds.{X}
use Rattle.sums.specs.Tree.Sums.{Sum, none, and, size, levels, entry}
use Rattle.sums.specs.Tree.Order.{cmp_term}
use Rattle.sums.specs.Tree.Good.{Good, is_empty}
use Rattle.sums.specs.Tree.Map.{by_order, merged, coef_in, put_in, not_finite, formed, sum, refused, lookup}
use Rattle.sums.specs.Tree.Map as map
use Rattle.sums.proofs.tree.Keeps as keeps
use Rattle.sums.proofs.tree.Lookup.{or_zero, coef-lookup}
use Rattle.sums.specs.declared.order.Found.{Found}
use Rattle.sums.specs.declared.order.Found.TheVariants.{Same, Before}
use Rattle.std.specs.Prelude.{Result, Ok, Err}
use Rattle.sums.specs.Contract.Lies.{At, Lies, Agrees}
use Rattle.sums.specs.Contract.Nests.{Nests}
use Rattle.sums.specs.Contract.Place.{place}
use Rattle.sums.specs.Contract.Heads.{GoodHead}
use Rattle.sums.specs.Contract.Putting.{Putting}
use Rattle.sums.proofs.order.Nesting.{lies-nests}
use Rattle.sums.proofs.order.Walk.{lies_empty, at_moved, at-stays, plain_at}

-- the entry with another coefficient
abbrev with-coef : Entry → Complex → Entry
with-coef x c = entry x.kind x.inside x.num c

apart : (k j : ℕ) → Before k ≡ Same j → ⊥
apart k j e = let z : ◌≡◌ {A = ℕ} 0 1 = cc in omega arith

-- ---- the key stands at k: it is found there, and only its coefficient changes

record SameAt (m : Merge) (f : ℕ → Entry) (x : Entry) (p k : ℕ) (s : Sum) (l : map.Found) (s⁺ : Sum) : Type 0 where
  low : p ≤ k
  high : k < p + size s
  found : l ≡ map.at (f k).coef
  laid : (g : ℕ → Entry) → g k ≡ with-coef (f k) (merged m (f k).coef x.coef) → ((j : ℕ) → (j ≡ k → ⊥) → g j ≡ f j) → At g p s⁺

same_at : (m : Merge) (f : ℕ → Entry) (x : Entry) (t s : Sum) (p k : ℕ) → At f p s → place x t s p ≡ Same k → SameAt m f x p k s (lookup x t s) (put_in m x t s)
unfolding place lookup put_in At size
same_at m f x t none p k a e = absurd (apart p k e)
same_at m f x t (and l q j d r) p k a e = go (cmp_term x t (entry l (size j) q d) j) e (same_at m f x t r (p + 1 + size j) k a.2)
  where
    go : (o : Ordering) → by_order o (Before p) (Same p) (place x t r (p + 1 + size j)) ≡ Same k
        → (place x t r (p + 1 + size j) ≡ Same k → SameAt m f x (p + 1 + size j) k r (lookup x t r) (put_in m x t r))
        → SameAt m f x p k (and l q j d r) (by_order o map.absent (map.at d) (lookup x t r))
        (by_order o (and x.kind x.num t (merged m complex.zero x.coef) (and l q j d r)) (and l q j (merged m d x.coef) r) (and l q j d (put_in m x t r)))
    go Less e ih = absurd (apart p k e)
    go Equal e ih =
        let pk : p ≡ k = cc in
        let hd : f k ≡ entry l (size j) q d = subst (λ (u : ℕ). f u ≡ entry l (size j) q d) pk a.0 in
        record {
          low = omega arith;
          high = omega arith;
          found = ap (λ (u : Entry). map.at u.coef) (sym hd);
          laid = λ g here else. (
            ap g pk ∙ here ∙ ap (λ (u : Entry). with-coef u (merged m u.coef x.coef)) hd,
            at-stays f g (p + 1) j (λ u b c. else u (λ i. omega arith)) a.1,
            at-stays f g (p + 1 + size j) r (λ u b c. else u (λ i. omega arith)) a.2,
          );
        }
    go Greater e ih =
        let i = ih e in
        let lo = i.low in
        let hi = i.high in
        record {
          low = omega arith;
          high = omega arith;
          found = i.found;
          laid = λ g here else. (else p (λ w. omega arith) ∙ a.0, at-stays f g (p + 1) j (λ u b c. else u (λ w. omega arith)) a.1, i.laid g here else);
        }

-- ---- the key is new: it isn't found, and goes in before the cell k

record NewAt (m : Merge) (f : ℕ → Entry) (x : Entry) (t : Sum) (p k : ℕ) (s : Sum) (l : map.Found) (s⁺ : Sum) : Type 0 where
  low : p ≤ k
  high : k ≤ p + size s
  found : l ≡ map.absent
  laid : (g : ℕ → Entry) → g k ≡ entry x.kind (size t) x.num (merged m complex.zero x.coef) → At g (k + 1) t → ((j : ℕ) → j < k → g j ≡ f j)
      → ((j : ℕ) → k ≤ j → j < p + size s → g (j + (1 + size t)) ≡ f j) → At g p s⁺

new-at : (m : Merge) (f : ℕ → Entry) (x : Entry) (t s : Sum) (p k : ℕ) → At f p s → place x t s p ≡ Before k → NewAt m f x t p k s (lookup x t s) (put_in m x t s)
unfolding place lookup put_in At size
new-at m f x t none p k a e =
    let pk : p ≡ k = cc in
    record {
      low = omega arith;
      high = omega arith;
      found = refl;
      laid = λ g here inner low high. (ap g pk ∙ here, subst (λ (u : ℕ). At g (u + 1) t) (sym pk) inner, tt);
    }
new-at m f x t (and l q j d r) p k a e = go (cmp_term x t (entry l (size j) q d) j) e (new-at m f x t r (p + 1 + size j) k a.2)
  where
    go : (o : Ordering) → by_order o (Before p) (Same p) (place x t r (p + 1 + size j)) ≡ Before k
        → (place x t r (p + 1 + size j) ≡ Before k → NewAt m f x t (p + 1 + size j) k r (lookup x t r) (put_in m x t r))
        → NewAt m f x t p k (and l q j d r) (by_order o map.absent (map.at d) (lookup x t r))
        (by_order o (and x.kind x.num t (merged m complex.zero x.coef) (and l q j d r)) (and l q j (merged m d x.coef) r) (and l q j d (put_in m x t r)))
    go Less e ih =
        let pk : p ≡ k = cc in
        record {
          low = omega arith;
          high = omega arith;
          found = refl;
          laid = λ g here inner low high. (
            ap g pk ∙ here,
            subst (λ (u : ℕ). At g (u + 1) t) (sym pk) inner,
            at_moved f g p (p + 1 + size t) (and l q j d r) (λ u v b c w. ap g (omega arith) ∙ high u (omega arith) c) a,
          );
        }
    go Equal e ih = absurd (apart k p (sym e))
    go Greater e ih =
        let i = ih e in
        let lo = i.low in
        let hi = i.high in
        record {
          low = omega arith;
          high = omega arith;
          found = i.found;
          laid = λ g here inner low high. (
            low p (omega arith) ∙ a.0,
            at-stays f g (p + 1) j (λ u b c. low u (omega arith)) a.1,
            i.laid g here inner low (λ u b c. high u b (omega arith)),
          );
        }

-- whether a term's inside has few enough levels
abbrev pub shallow : Sum → Bool
shallow t = leb (levels t) (sum_levels - 1)

-- ---- what `formed` says, test by test

module _ (m : Merge) (x : Entry) (t s : Sum) where
  pub formed-number : finite x.num ≡ false → formed m x t s ≡ refused (not_finite x.kind)
  unfolding formed
  formed-number a = rw a

  module _ (num : finite x.num ≡ true) where
    formed-not : complex.all_finite (coef_in m x t s) ≡ false → formed m x t s ≡ refused NotFinite
    unfolding formed
    formed-not a = rw (num, a)

    formed-deep : complex.all_finite (coef_in m x t s) ≡ true → shallow t ≡ false → formed m x t s ≡ refused TooDeep
    unfolding formed
    formed-deep a b = rw (num, a, b)

    formed-full : complex.all_finite (coef_in m x t s) ≡ true → shallow t ≡ true → leb (size (put_in m x t s)) sum_entries ≡ false → formed m x t s ≡ refused NoRoom
    unfolding formed
    formed-full a b c = rw (num, a, b, c)

    formed-is : complex.all_finite (coef_in m x t s) ≡ true → shallow t ≡ true → leb (size (put_in m x t s)) sum_entries ≡ true → formed m x t s ≡ sum (put_in m x t s)
    unfolding formed
    formed-is a b c = rw (num, a, b, c)

-- ---- entries

plain-with : (x : Entry) (v : Complex) → T (finite x.num) → complex.all_finite v ≡ true → Plain (with-coef x v)
plain-with x v n f = record { num = n; re = and_l (finite v.re) (finite v.im) (T_of f); im = and_r (finite v.re) (finite v.im) (T_of f) }

empty-size : (t : Sum) (n : ℕ) → n ≡ size t → is_empty t ≡ eqb n 0
unfolding size
empty-size none n e = sym (eq-eqb n 0 e)
empty-size (and k p i c r) n e = sym (ne_eqb n 0 (λ z. omega arith))

-- ---- the answers

-- a test of the levels in an inside that lies in a book tells those of the sum that it is
pub told-levels : {g b : Book} {x : Entry} {i p n : ℕ} {found : Found} {s t : Sum} {r o : Bool} → Putting g b x i p n found s t
    → ((u : Sum) → Nests g.insides i (i + x.inside) u → r ≡ shallow u) → r ≡ o → shallow t ≡ o
told-levels {t = t} P h e = sym (h t (lies-nests P.inside)) ∙ e

-- nothing but the sum_entries cells from p on is written, and the answer is that of `formed`
abbrev pub Answer : Merge → Entry → Book → Book → ℕ → Result ℕ Refusal → Sum → Sum → Type 0
Answer m x b b' p r s t = Kept b b' p (p + sum_entries) × Agrees r b' p (formed m x t s)

pub answer-refused : (m : Merge) (x : Entry) (b : Book) (p : ℕ) (s t : Sum) (q : Refusal) → formed m x t s ≡ refused q → Answer m x b b p (Err q) s t
answer-refused m x b p s t q e = (kept_refl b p (p + sum_entries), rw e refl)

module _ (m : Merge) {g b : Book} {x : Entry} {i p n : ℕ} {found : Found} {s t : Sum} (P : Putting g b x i p n found s t) where
  -- 15 for the coefficient that the key then has
  pub answer-not : {v : Complex} → v ≡ coef_in m x t s → complex.all_finite v ≡ false → Answer m x b b p (Err NotFinite) s t
  answer-not e f = answer-refused m x b p s t NotFinite (formed-not m x t s P.number (rw (← e) f))

  -- 13
  pub answer-deep : {v : Complex} → v ≡ coef_in m x t s → complex.all_finite v ≡ true → shallow t ≡ false → Answer m x b b p (Err TooDeep) s t
  answer-deep e f d = answer-refused m x b p s t TooDeep (formed-deep m x t s P.number (rw (← e) f) d)

  -- 12
  answer-full : complex.all_finite (coef_in m x t s) ≡ true → shallow t ≡ true → sum_entries < size (put_in m x t s) → Answer m x b b p (Err NoRoom) s t
  answer-full f d h = answer-refused m x b p s t NoRoom (formed-full m x t s P.number f d (lt-leb (size (put_in m x t s)) sum_entries h))

  inside-sized : x.inside ≡ size t
  inside-sized = let ends = P.inside.ends in omega arith

  -- the sum with the term is good, where it is formed
  answer-good : Fitting x → complex.all_finite (coef_in m x t s) ≡ true → shallow t ≡ true → Good sum_levels (put_in m x t s)
  answer-good w f d =
      let h = P.head in
      keeps.put-finite (sum_levels - 1) m x t s P.lies.good (keeps.good-within sum_levels (sum_levels - 1) t P.inside.good (leb-true (levels t) (sum_levels - 1) d))
      (record {
        least = h.least;
        most = h.most;
        number = w.num;
        none_else = h.none_else;
        coef = record { re = w.re; im = w.im };
        inside = empty-size t x.inside inside-sized ∙ h.inside;
      })
      P.number f

  -- it lies there, and has at most sum_entries entries
  answer-done : {b' : Book} (n' : ℕ) → Fitting x → complex.all_finite (coef_in m x t s) ≡ true → shallow t ≡ true → Kept b b' p (p + sum_entries)
      → At (at b') p (put_in m x t s) → size (put_in m x t s) ≡ n' → n' ≤ sum_entries → Answer m x b b' p (Ok n') s t
  answer-done n' w f d k a e h = (
    k,
    rw (formed-is m x t s P.number f d (le-leb (size (put_in m x t s)) sum_entries (omega arith)))
        (h, record { laid = a; good = answer-good w f d; ends = omega arith; room = room-same k.long (room-less {n = p + sum_entries} (omega arith) P.room) }),
  )

-- ---- at a key that stands at k

module _ (m : Merge) {g b : Book} {x : Entry} {i p n k : ℕ} {s t : Sum} (P : Putting g b x i p n (Same k) s t) where
  there : SameAt m (at b) x p k s (lookup x t s) (put_in m x t s)
  there = same_at m (at b) x t s p k P.lies.laid P.placed

  -- its cell can be read
  pub same_read : Room b (k + 1) × Plain (at b k)
  same_read =
      let a = there in
      let high = a.high in
      let ends = P.lies.ends in
      (room-less {n = p + n} (omega arith) P.lies.room, plain_at (at b) p sum_levels s P.lies.laid P.lies.good k a.low a.high)

  -- and written
  pub same_write : {y : Entry} {v : Complex} → y ≡ at b k → complex.all_finite v ≡ true → Room b (k + 1) × Plain (with-coef y v)
  same_write {y} {v} e f = (same_read.0, plain-with y v (rw e same_read.1.num) f)

  -- its coefficient, merged with the new one, is the one that the key then has
  pub same-coef : {y : Entry} {v : Complex} → y ≡ at b k → v ≡ merged m y.coef x.coef → v ≡ coef_in m x t s
  same-coef e v =
      v ∙ ap (λ (u : Entry). merged m u.coef x.coef) e ∙ sym (coef-lookup m x t s ∙ ap (λ (l : map.Found). merged m (or_zero l) x.coef) there.found)

  pub same-done : {b' : Book} {y : Entry} {v : Complex} → Fitting x → y ≡ at b k → v ≡ merged m y.coef x.coef → complex.all_finite v ≡ true → shallow t ≡ true
      → Put b b' k (with-coef y v) → Answer m x b b' p (Ok n) s t
  same-done {b'} {y} {v} w ey ev f d put =
      let a = there in
      let low = a.low in
      let high = a.high in
      let few = P.few in
      let ends = P.lies.ends in
      let is = same-coef ey ev in
      let fits = keeps.coef-fits m x t s (record { re = w.re; im = w.im }) in
      let kept = put-kept put in
      answer-done m P n w (rw (← is) f) d (kept-wider {lo = k} {hi = k + 1} low (omega arith) kept)
      (a.laid (at b')
      (ap decoded put.here
      ∙ decoded-encoded (with-coef y v) (record { num = rw ey (at-fits b k).num; re = rw is fits.re; im = rw is fits.im })
      ∙ ap (with-coef y) ev ∙ ap (λ (u : Entry). with-coef u (merged m u.coef x.coef)) ey)
      (λ j h. at-kept b b' j (put.else j h)))
      (keeps.size-there m x t s (at b k).coef a.found ∙ omega arith) few

-- ---- a new key, before the cell k

module _ (m : Merge) {g b : Book} {x : Entry} {i p n k : ℕ} {s t : Sum} (P : Putting g b x i p n (Before k) s t) where
  away : NewAt m (at b) x t p k s (lookup x t s) (put_in m x t s)
  away = new-at m (at b) x t s p k P.lies.laid P.placed

  -- there is room for it, and it can be written
  pub new-write : {v : Complex} → complex.all_finite v ≡ true → n + (1 + x.inside) ≤ sum_entries
      → (Plain (with-coef x v) × Room g (i + x.inside)) × ((k ≤ p + n) × Room b (p + n + (1 + x.inside)))
  new-write {v} f h =
      let high = away.high in
      let ends = P.lies.ends in
      ((plain-with x v (T_of P.number) f, P.inside.room), (omega arith, room-less {n = p + sum_entries} (omega arith) P.room))

  -- what lies apart from the room of the sum lies apart from those that move and the gap
  pub new_apart : n + (1 + x.inside) ≤ sum_entries → Apart i x.inside p (p + sum_entries) → Apart i x.inside k (p + n + (1 + x.inside))
  new_apart h (under a) = let low = away.low in under (omega arith)
  new_apart h (over a) = over (omega arith)

  -- +0, merged with the coefficient, is the one that the key then has
  pub new-coef : {v : Complex} → v ≡ merged m complex.zero x.coef → v ≡ coef_in m x t s
  new-coef v = v ∙ sym (coef-lookup m x t s ∙ ap (λ (l : map.Found). merged m (or_zero l) x.coef) away.found)

  new-sized : size (put_in m x t s) ≡ n + (1 + x.inside)
  new-sized = let ends = P.lies.ends in let inside = inside-sized m P in keeps.size-new m x t s away.found ∙ omega arith

  pub new-full : {v : Complex} → v ≡ merged m complex.zero x.coef → complex.all_finite v ≡ true → shallow t ≡ true
      → sum_entries < n + (1 + x.inside) → Answer m x b b p (Err NoRoom) s t
  new-full v f d h = let sized = new-sized in answer-full m P (rw (← (new-coef v)) f) d (omega arith)

  pub new-done : {b' : Book} {v : Complex} → Fitting x → v ≡ merged m complex.zero x.coef → complex.all_finite v ≡ true → shallow t ≡ true → n + (1 + x.inside) ≤ sum_entries
      → Inserted g b b' i k (p + n) (with-coef x v) → Answer m x b b' p (Ok (n + (1 + x.inside))) s t
  new-done {b'} {v} w ev f d few put =
      let a = away in
      let low = a.low in
      let ends = P.lies.ends in
      let inside = inside-sized m P in
      let is = new-coef ev in
      let fits = keeps.coef-fits m x t s (record { re = w.re; im = w.im }) in
      answer-done m P (n + (1 + x.inside)) w (rw (← is) f) d
      (kept-wider {lo = k} {hi = p + n + (1 + x.inside)} low (omega arith) (inserted-kept put))
      (a.laid (at b')
      (ap decoded put.here
      ∙ decoded-encoded (with-coef x v) (record { num = w.num; re = rw is fits.re; im = rw is fits.im })
      ∙ ap (with-coef x) ev ∙ ap (λ (u : ℕ). entry x.kind u x.num (merged m complex.zero x.coef)) inside)
      (at_moved (at g) (at b') i (k + 1) t
      (λ u v c d q. ap (at b') (omega arith) ∙ ap decoded (put.inner (u - i) (omega arith)) ∙ ap (at g) (omega arith)) P.inside.laid)
      (λ j h. at-kept b b' j (put.below j h))
      (λ j c d. ap (λ (u : ℕ). at b' (j + (1 + u))) (sym inside) ∙ ap decoded (put.moved j c (omega arith))))
      new-sized few

-- ---- what is known once a term's place is found

pub putting : {b : Book} {x : Entry} {i p n : ℕ} {found : Found} {s t : Sum} → GoodHead x → finite x.num ≡ true → n ≤ sum_entries → Room b (p + sum_entries)
    → Lies b p (p + n) sum_levels s → Lies b i (i + x.inside) sum_levels t → found ≡ place x t s p → Putting b b x i p n found s t
putting h f few room l k e = record { head = h; number = f; inside = k; few = few; room = room; lies = l; placed = sym e }

-- ---- a power of x

-- it has no inside, and the empty sum lies anywhere
pub power-putting : {b : Book} {p n : ℕ} {num : Float} {c : Complex} {found : Found} {s : Sum} → finite num ≡ true → n ≤ sum_entries → Room b (p + sum_entries) → Lies b p (p + n) sum_levels s
    → place (entry X 0 num c) none s p ≡ found → Putting b b (entry X 0 num c) p p n found s none
power-putting {b} {p} f few room l e =
    record {
      head = record { least = omega arith; most = omega arith; none_else = λ h. absurd (true≢false h); inside = refl };
      number = f;
      inside = lies_empty b p sum_levels (room-less {n = p + sum_entries} (omega arith) room);
      few = few;
      room = room;
      lies = l;
      placed = e;
    }
