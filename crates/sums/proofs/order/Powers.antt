-- The powers of x stand first in a good sum, one cell each, and rise: so a power's place is found from the last one down. Assumes nothing.
use Prim.Native.Nat.{ℕ, suc, ◌+◌, ◌-◌, ◌≤◌, ◌<◌}
use native.Mathlib.Omega.{arith}
use native.Mathlib.Nat.{eq-or-lt_of_le}
use mathlib.Core.Path.{◌≡◌, refl, sym, ap, subst, ◌∙◌}
use mathlib.Core.Logic.{⊎_elim, ◌↔◌}
use mathlib.Core.List.{List}
use mathlib.Core.Bool.{Bool, true, false, ◌&&◌, true≢false}
use lib.Dec.{T, eqb}
use lib.Ieee.{Float, binary64, fits}
use lib.Ieee.Fits.{and_l}
use lib.Ieee.Scale.{finite}
use lib.ListN.{get_or}
use borrow.Author.Tests.{eqb-true, eqb-false, eq-eqb, ne_eqb}
use Rattle.limits.specs.Limits.{sum_levels}
use Rattle.std.specs.declared.cmp.Ordering.{Ordering}
use Rattle.std.specs.declared.cmp.Ordering.TheVariants.{Less, Equal, Greater}
use Rattle.numbers.specs.Order.{cmp_num, flipped}
use Rattle.numbers.proofs.Order.{cmp-flip, cmp-less-trans, cmp-equal-right, then_equal}
use Rattle.numbers.specs.declared.complex.Complex.{Complex}
use Rattle.numbers.specs.Complex.Arith as complex
use Rattle.cells.specs.declared.Entry.{Entry}
use Rattle.cells.specs.Contract.Book.{Book, at}
use Rattle.sums.specs.Tree.Kinds.{X}
use Rattle.sums.specs.Tree.Sums.{Sum, none, and, size, len, entry}
use Rattle.sums.specs.Tree.Order.{cmp_each, cmp_term}
use Rattle.sums.specs.Tree.Good.{Good, GoodEntry, is_empty}
use Rattle.sums.specs.Tree.Good as good
use Rattle.sums.specs.Tree.Map.{by_order, put_in, formed, sum}
use Rattle.sums.specs.declared.tree.Merge.{Merge}
use Rattle.sums.proofs.tree.Order.{less-nat}
use Rattle.sums.proofs.tree.Keeps.{put_by, formed-sum}
use Rattle.sums.specs.declared.order.Found.TheVariants.{Same, Before}
use Rattle.sums.specs.Contract.Lies.{At, Lies}
use Rattle.sums.specs.Contract.Place.{place, one_more, powers, OnlyPowers}

-- ---- a power against an entry

-- against a power, the numbers decide
power-power : (x : Entry) (l : ℕ) (q : Float) (j : Sum) (d : Complex) → x.kind ≡ X → l ≡ X → j ≡ none → cmp_term x none (entry l (size j) q d) j ≡ cmp_num x.num q
unfolding cmp_each len
power-power x l q j d e k i = rw (e, k, i) (then_equal (cmp_num x.num q))

-- against any other term, the kinds do
power-other : (x : Entry) (l n : ℕ) (q : Float) (j : Sum) (d : Complex) → x.kind ≡ X → X < l → cmp_term x none (entry l n q d) j ≡ Less
power-other x l n q j d e h = rw (less-nat x.kind l (omega arith))

empty-none : (i : Sum) → is_empty i ≡ true → i ≡ none
empty-none none e = refl
empty-none (and k p i c r) e = absurd (true≢false (sym e))

-- a power has no inside
pub no-inside : {l : ℕ} {q : Float} {j : Sum} {d : Complex} → GoodEntry l q j d → l ≡ X → j ≡ none
no-inside {l} {j = j} g e = empty-none j (g.inside ∙ eq-eqb l X e)

-- ---- a good sum whose first entry is a power

-- where k is one of the cells of the powers, the first entry is one
more : (b : Bool) (n p k : ℕ) → p ≤ k → k < p + one_more b n → b ≡ true
more true n p k h g = refl
more false n p k h g = absurd (omega arith)

-- two powers in a row rise
rise : (l : ℕ) (q : Float) (j : Sum) (left : ℕ) (r : Sum) (f : ℕ → Entry) (p : ℕ) → l ≡ X → j ≡ none → good.Before l q j r → Good (suc left) r → At f p r
    → 0 < powers r → cmp_num q (f p).num ≡ Less
unfolding Good At powers
rise l q j left none f p e i b g a h = absurd (omega arith)
rise l q j left (and l' q' j' d' r') f p e i b g a h =
    let e' = eqb-true l' X (more (eqb l' X) (powers r') 0 0 (omega arith) (omega arith)) in
    let i' = no-inside g.0 e' in
    let terms = subst (λ (u : Sum). cmp_term (entry l (size u) q complex.zero) u (entry l' (size j') q' complex.zero) j' ≡ Less) i b in
    ap (λ (u : Entry). cmp_num q u.num) a.0 ∙ sym (power-power (entry l (size none) q complex.zero) l' q' j' complex.zero e e' i') ∙ terms

pub record PowerFirst (f : ℕ → Entry) (p left : ℕ) (s r : Sum) : Type 0 where
  pub laid : At f (p + 1) r
  pub good : Good (suc left) r
  pub is_finite : T (finite (f p).num)
  pub rises : 0 < powers r → cmp_num (f p).num (f (p + 1)).num ≡ Less
  pub placed : (x : Entry) → x.kind ≡ X → place x none s p ≡ by_order (cmp_num x.num (f p).num) (Before p) (Same p) (place x none r (p + 1))
  pub counted : powers s ≡ suc (powers r)
  pub sized : size s ≡ suc (size r)

pub power-first : (f : ℕ → Entry) (p left l : ℕ) (q : Float) (j : Sum) (d : Complex) (r : Sum) → At f p (and l q j d r) → Good (suc left) (and l q j d r) → l ≡ X
    → PowerFirst f p left (and l q j d r) r
unfolding At Good powers place size
power-first f p left l q j d r a g e =
    let i = no-inside g.0 e in
    let num = ap (λ (u : Entry). u.num) a.0 in
    let next : p + 1 + size j ≡ p + 1 = ap (λ (u : Sum). p + 1 + size u) i ∙ omega arith in
    let laid = subst (λ (u : ℕ). At f u r) next a.2 in
    record {
      laid = laid;
      good = g.3;
      is_finite = subst (λ (u : Float). T (finite u)) (sym num) (and_l (finite q) (fits binary64 q) g.0.number);
      rises = λ h. ap (λ (u : Float). cmp_num u (f (p + 1)).num) num ∙ rise l q j left r f (p + 1) e i g.2 g.3 laid h;
      placed = λ x k.
          ap (λ (o : Ordering). by_order o (Before p) (Same p) (place x none r (p + 1 + size j)))
          (power-power x l q j d k e i ∙ ap (cmp_num x.num) (sym num))
          ∙ ap (λ (u : ℕ). by_order (cmp_num x.num (f p).num) (Before p) (Same p) (place x none r u)) next;
      counted = ap (λ (b : Bool). one_more b (powers r)) (eq-eqb l X e);
      sized = ap (λ (u : Sum). suc (size u + size r)) i ∙ omega arith;
    }

-- ---- the powers rise from the first on

pub rising : (f : ℕ → Entry) (p left : ℕ) (s : Sum) → At f p s → Good (suc left) s → (k : ℕ) → p < k → k < p + powers s → cmp_num (f p).num (f k).num ≡ Less
unfolding powers
rising f p left none a g k lo hi = absurd (omega arith)
rising f p left (and l q j d r) a g k lo hi =
    let e = eqb-true l X (more (eqb l X) (powers r) p k (omega arith) hi) in
    let w = power-first f p left l q j d r a g e in
    let counted = w.counted in
    let step = w.rises (omega arith) in
    ⊎_elim (λ (h : p + 1 ≡ k). subst (λ (u : ℕ). cmp_num (f p).num (f u).num ≡ Less) h step)
    (λ h. cmp-less-trans _ _ _ step (rising f (p + 1) left r w.laid w.good k h (omega arith)))
    (eq-or-lt_of_le (omega arith))

-- ---- where a power x belongs

module _ (x : Entry) (power : x.kind ≡ X) (left : ℕ) where
  -- it comes before the first power, if there is one
  pub place-first : (f : ℕ → Entry) (p : ℕ) (s : Sum) → At f p s → Good (suc left) s → (0 < powers s → cmp_num x.num (f p).num ≡ Less) → place x none s p ≡ Before p
  unfolding place powers Good
  place-first f p none a g h = refl
  place-first f p (and l q j d r) a g h = go (eqb l X) refl
    where
      go : (b : Bool) → eqb l X ≡ b → place x none (and l q j d r) p ≡ Before p
      go true e =
          let w = power-first f p left l q j d r a g (eqb-true l X e) in
          let counted = w.counted in
          w.placed x power ∙ ap (λ (o : Ordering). by_order o (Before p) (Same p) (place x none r (p + 1))) (h (omega arith))
      go false e =
          let least = g.0.least in
          let above : X < l = let not = eqb-false l X e in ⊎_elim (λ (h : X ≡ l). absurd (not (sym h))) (λ h. h) (eq-or-lt_of_le least) in
          ap (λ (o : Ordering). by_order o (Before p) (Same p) (place x none r (p + 1 + size j))) (power-other x l (size j) q j d power above)

  -- it comes after the first power: the rest decides
  passed : (f : ℕ → Entry) (p : ℕ) (s r : Sum) → PowerFirst f p left s r → cmp_num (f p).num x.num ≡ Less → place x none s p ≡ place x none r (p + 1)
  passed f p s r w h =
      w.placed x power
      ∙ ap (λ (o : Ordering). by_order o (Before p) (Same p) (place x none r (p + 1))) (cmp-flip (f p).num x.num ∙ ap flipped h)

  -- it is the power at k
  pub place_same : (f : ℕ → Entry) (p : ℕ) (s : Sum) → At f p s → Good (suc left) s → (k : ℕ) → p ≤ k → k < p + powers s
      → T (finite x.num) → T (finite (f k).num) → cmp_num x.num (f k).num ≡ Equal → place x none s p ≡ Same k
  unfolding powers
  place_same f p none a g k lo hi fx fk h = absurd (omega arith)
  place_same f p (and l q j d r) a g k lo hi fx fk h =
      let e = eqb-true l X (more (eqb l X) (powers r) p k lo hi) in
      let w = power-first f p left l q j d r a g e in
      let counted = w.counted in
      ⊎_elim
      (λ (i : p ≡ k).
      w.placed x power
      ∙ ap (λ (o : Ordering). by_order o (Before p) (Same p) (place x none r (p + 1))) (ap (λ (u : ℕ). cmp_num x.num (f u).num) i ∙ h)
      ∙ ap Same i)
      (λ (i : p < k).
      let below = cmp-equal-right (f p).num x.num (f k).num w.is_finite fx fk h ∙ rising f p left (and l q j d r) a g k i hi in
      passed f p (and l q j d r) r w below ∙ place_same f (p + 1) r w.laid w.good k (omega arith) (omega arith) fx fk h)
      (eq-or-lt_of_le lo)

  -- it comes after the power at k, and before the next one
  pub place_after : (f : ℕ → Entry) (p : ℕ) (s : Sum) → At f p s → Good (suc left) s → (k : ℕ) → p ≤ k → k < p + powers s
      → cmp_num x.num (f k).num ≡ Greater → (k + 1 < p + powers s → cmp_num x.num (f (k + 1)).num ≡ Less) → place x none s p ≡ Before (k + 1)
  unfolding powers
  place_after f p none a g k lo hi h next = absurd (omega arith)
  place_after f p (and l q j d r) a g k lo hi h next =
      let e = eqb-true l X (more (eqb l X) (powers r) p k lo hi) in
      let w = power-first f p left l q j d r a g e in
      let counted = w.counted in
      let above = cmp-flip x.num (f k).num ∙ ap flipped h in
      ⊎_elim
      (λ (i : p ≡ k).
      let below = ap (λ (u : ℕ). cmp_num (f u).num x.num) i ∙ above in
      passed f p (and l q j d r) r w below
      ∙ place-first f (p + 1) r w.laid w.good (λ m. ap (λ (u : ℕ). cmp_num x.num (f (u + 1)).num) i ∙ next (omega arith))
      ∙ ap (λ (u : ℕ). Before (u + 1)) i)
      (λ (i : p < k).
      let below = cmp-less-trans (f p).num (f k).num x.num (rising f p left (and l q j d r) a g k i hi) above in
      passed f p (and l q j d r) r w below ∙ place_after f (p + 1) r w.laid w.good k (omega arith) (omega arith) h (λ m. next (omega arith)))
      (eq-or-lt_of_le lo)

-- ---- walking over the powers

-- from k on there is left t, whose powers are the rest of those of s
pub record Powers (f : ℕ → Entry) (p k e : ℕ) (s : Sum) : Type 0 where
  pub t : Sum
  pub laid : At f k t
  pub good : Good sum_levels t
  pub ends : k + size t ≡ e
  pub same : p + powers s ≡ k + powers t

-- a power is passed
pub powers-more : (f : ℕ → Entry) (p k e : ℕ) (s : Sum) → Powers f p k e s → k < e → (f k).kind ≡ X → Powers f p (k + 1) e s
unfolding At size
powers-more f p k e s w h x = go w.t w.laid w.good w.ends w.same
  where
    go : (t : Sum) → At f k t → Good sum_levels t → k + size t ≡ e → p + powers s ≡ k + powers t → Powers f p (k + 1) e s
    go none a g n m = absurd (omega arith)
    go (and l q j d r) a g n m =
        let v = power-first f k (sum_levels - 1) l q j d r a g (sym (ap (λ (u : Entry). u.kind) a.0) ∙ x) in
        let sized = v.sized in
        let counted = v.counted in
        record { t = r; laid = v.laid; good = v.good; ends = omega arith; same = omega arith }

-- another term, or the end
pub powers-done : (f : ℕ → Entry) (p k e : ℕ) (s : Sum) → Powers f p k e s → (k < e → (f k).kind ≡ X → ⊥) → k ≡ p + powers s
unfolding At size powers
powers-done f p k e s w h = go w.t w.laid w.ends w.same
  where
    go : (t : Sum) → At f k t → k + size t ≡ e → p + powers s ≡ k + powers t → k ≡ p + powers s
    go none a n m = omega arith
    go (and l q j d r) a n m =
        let other = ne_eqb l X (λ i. h (omega arith) (ap (λ (u : Entry). u.kind) a.0 ∙ i)) in
        let nothing = ap (λ (b : Bool). one_more b (powers r)) other in
        omega arith

-- there are no more powers than cells
pub powers-size : (s : Sum) → powers s ≤ size s
unfolding powers size
powers-size none = omega arith
powers-size (and l q j d r) = go (eqb l X) (powers-size r)
  where
    go : (b : Bool) → powers r ≤ size r → one_more b (powers r) ≤ suc (size j + size r)
    go true h = omega arith
    go false h = omega arith

-- ---- nothing but powers

-- one cell more
pub only-more : (ks : List ℕ) (p k : ℕ) (all : Bool) → p ≤ k → (all ≡ true) ↔ OnlyPowers ks p k → (all && eqb (get_or ks k 0) X ≡ true) ↔ OnlyPowers ks p (k + 1)
only-more ks p k all low w = (forth all w.0, λ h. back all (w.1 (λ j lo hi. h j lo (omega arith))) (eq-eqb _ _ (h k low (omega arith))))
  where
    forth : (all : Bool) → (all ≡ true → OnlyPowers ks p k) → all && eqb (get_or ks k 0) X ≡ true → OnlyPowers ks p (k + 1)
    forth true w h j lo hi = ⊎_elim (λ (e : j ≡ k). ap (λ (u : ℕ). get_or ks u 0) e ∙ eqb-true _ _ h) (λ (l : j < k). w refl j lo l) (eq-or-lt_of_le (omega arith))
    forth false w h j lo hi = absurd (true≢false (sym h))

    back : (all : Bool) → all ≡ true → eqb (get_or ks k 0) X ≡ true → all && eqb (get_or ks k 0) X ≡ true
    back true a h = h
    back false a h = absurd (true≢false (sym a))

-- where each cell is a power, the sum has nothing else
pub only-whole : (f : ℕ → Entry) (p left : ℕ) (s : Sum) → At f p s → Good (suc left) s → ((k : ℕ) → p ≤ k → k < p + size s → (f k).kind ≡ X) → powers s ≡ size s
unfolding powers size At
only-whole f p left none a g h = refl
only-whole f p left (and l q j d r) a g h =
    let v = power-first f p left l q j d r a g (sym (ap (λ (u : Entry). u.kind) a.0) ∙ h p (omega arith) (omega arith)) in
    let sized = v.sized in
    let counted = v.counted in
    let rest = only-whole f (p + 1) left r v.laid v.good (λ k lo hi. h k (omega arith) (omega arith)) in
    omega arith

-- the first of a sum of nothing but powers is one, with nothing inside, and the rest is such a sum
pub record Whole (l : ℕ) (j r : Sum) : Type 0 where
  pub power : eqb l X ≡ true
  pub empty : size j ≡ 0
  pub rest : powers r ≡ size r

pub whole-first : (l : ℕ) (j r : Sum) → one_more (eqb l X) (powers r) ≡ suc (size j + size r) → Whole l j r
whole-first l j r h = go (eqb l X) refl h (powers-size r)
  where
    go : (b : Bool) → eqb l X ≡ b → one_more b (powers r) ≡ suc (size j + size r) → powers r ≤ size r → Whole l j r
    go true e h most = record { power = e; empty = omega arith; rest = omega arith }
    go false e h most = absurd (omega arith)

-- and the other way round: each cell of such a sum is a power
pub whole-only : (f : ℕ → Entry) (p : ℕ) (s : Sum) → At f p s → powers s ≡ size s → (k : ℕ) → p ≤ k → k < p + size s → (f k).kind ≡ X
unfolding powers size At
whole-only f p none a h k lo hi = absurd (omega arith)
whole-only f p (and l q j d r) a h k lo hi =
    let w = whole-first l j r h in
    let nothing = w.empty in
    ⊎_elim (λ (e : p ≡ k). ap (λ (u : ℕ). (f u).kind) (sym e) ∙ ap (λ (u : Entry). u.kind) a.0 ∙ eqb-true l X w.power)
    (λ (m : p < k). whole-only f (p + 1 + size j) r a.2 w.rest k (omega arith) (omega arith)) (eq-or-lt_of_le lo)

-- such a sum stays one where a power is put in
put_whole : (m : Merge) (num : Float) (c : Complex) (s : Sum) → powers s ≡ size s → powers (put_in m (entry X 0 num c) none s) ≡ size (put_in m (entry X 0 num c) none s)
unfolding powers size put_in
put_whole m num c none h = refl
put_whole m num c (and l q j d r) h = let w = whole-first l j r h in go (cmp_term (entry X 0 num c) none (entry l (size j) q d) j) w.empty w.power (put_whole m num c r w.rest)
  where
    go : (o : Ordering) → size j ≡ 0 → eqb l X ≡ true → powers (put_in m (entry X 0 num c) none r) ≡ size (put_in m (entry X 0 num c) none r)
        → powers (put_by m (entry X 0 num c) none l q j d r o) ≡ size (put_by m (entry X 0 num c) none l q j d r o)
    go Less n e ih = omega arith
    go Equal n e ih = h
    go Greater n e ih = rw e (omega arith)

pub formed-whole : (m : Merge) (num : Float) (c : Complex) (s s' : Sum) → formed m (entry X 0 num c) none s ≡ sum s' → powers s ≡ size s → powers s' ≡ size s'
formed-whole m num c s s' e h = subst (λ (u : Sum). powers u ≡ size u) (sym (formed-sum m (entry X 0 num c) none s s' e).is) (put_whole m num c s h)

-- in a book
pub lies_whole : {b : Book} {p e : ℕ} {s : Sum} → Lies b p e sum_levels s → OnlyPowers b.kinds p e → powers s ≡ size s
lies_whole {b} {p} {e} {s} l h = let ends = l.ends in only-whole (at b) p (sum_levels - 1) s l.laid l.good (λ k lo hi. h k lo (omega arith))

pub whole-lies : {b : Book} {p e : ℕ} {s : Sum} → Lies b p e sum_levels s → powers s ≡ size s → OnlyPowers b.kinds p e
whole-lies {b} {p} {e} {s} l h k lo hi = let ends = l.ends in whole-only (at b) p s l.laid h k lo (omega arith)

-- ---- from the last power down: those from k on come after num

pub record Down (f : ℕ → Entry) (num : Float) (p k : ℕ) (s : Sum) : Type 0 where
  pub low : p ≤ k
  pub most : k ≤ p + powers s
  pub next : k < p + powers s → cmp_num num (f k).num ≡ Less

-- the power before k comes after it, too
pub down-more : {f : ℕ → Entry} {num : Float} {p k : ℕ} {s : Sum} {o : Ordering} → Down f num p k s → p < k → o ≡ cmp_num num (f (k - 1)).num → o ≡ Less → Down f num p (k - 1) s
down-more w h e l = let most = w.most in record { low = omega arith; most = omega arith; next = λ m. sym e ∙ l }

module _ {f : ℕ → Entry} {num : Float} {p k : ℕ} {s : Sum} (w : Down f num p k s) (laid : At f p s) (good : Good sum_levels s) (x : Entry) (power : x.kind ≡ X) (is : x.num ≡ num) where
  -- it comes before it
  pub down-after : {o : Ordering} → p < k → o ≡ cmp_num num (f (k - 1)).num → o ≡ Greater → Before k ≡ place x none s p
  down-after h e g =
      let most = w.most in
      let back : k - 1 + 1 ≡ k = omega arith in
      let next : k - 1 + 1 < p + powers s → cmp_num x.num (f (k - 1 + 1)).num ≡ Less =
      λ m. ap (λ (u : Float). cmp_num u (f (k - 1 + 1)).num) is ∙ ap (λ (u : ℕ). cmp_num num (f u).num) back ∙ w.next (omega arith) in
      let here = ap (λ (u : Float). cmp_num u (f (k - 1)).num) is ∙ sym e ∙ g in
      ap Before (sym back) ∙ sym (place_after x power (sum_levels - 1) f p s laid good (k - 1) (omega arith) (omega arith) here next)

  -- it is it
  pub down-same : {o : Ordering} → p < k → T (finite num) → T (finite (f (k - 1)).num) → o ≡ cmp_num num (f (k - 1)).num → o ≡ Equal → Same (k - 1) ≡ place x none s p
  down-same h fx fk e g =
      let most = w.most in
      let here = ap (λ (u : Float). cmp_num u (f (k - 1)).num) is ∙ sym e ∙ g in
      sym (place_same x power (sum_levels - 1) f p s laid good (k - 1) (omega arith) (omega arith) (subst (λ (u : Float). T (finite u)) (sym is) fx) fk here)

  -- none is left
  pub down-first : k ≤ p → Before k ≡ place x none s p
  down-first h =
      let low = w.low in
      let here : k ≡ p = omega arith in
      ap Before here
      ∙ sym (place-first x power (sum_levels - 1) f p s laid good
      (λ m. ap (λ (u : Float). cmp_num u (f p).num) is ∙ ap (λ (u : ℕ). cmp_num num (f u).num) (sym here) ∙ w.next (omega arith)))
