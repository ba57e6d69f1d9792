-- Calculus in IEEE operations: the coefficients of products, sums and differences of sums of powers of x. Assumes nothing.
use Prim.Native.Nat.{ℕ, suc}
use native.Mathlib.Omega.{arith}
use mathlib.Core.Path.{◌≡◌, refl, sym, ap, ap₂, subst, ◌∙◌}
use mathlib.Core.Bool.{Bool, true, false, ◌&&◌, ◌||◌, cond}
use mathlib.Core.List.{List, [], ◌∷◌, ◌++◌}
use lib.Dec.{T, eqb}
use lib.Ieee.{Float, binary64, fits, eq}
use lib.Ieee.Fits.{add-fits}
use lib.Ieee.Scale.{finite}
use borrow.Author.Tests.{eqb-true, eq-eqb}
use Rattle.numbers.specs.Ops.{◌⊕◌}
use Rattle.numbers.specs.Order.{cmp_num}
use Rattle.std.specs.declared.cmp.Ordering.{Ordering}
use Rattle.std.specs.declared.cmp.Ordering.TheVariants.{Less, Equal, Greater}
use Rattle.numbers.proofs.Bools.{T_of}
use Rattle.numbers.proofs.Order.{cmp-equal-eq, eq-symmetric, then-equal-both}
use Rattle.numbers.specs.declared.complex.Complex.{Complex}
use Rattle.numbers.specs.Complex.Arith as complex
use Rattle.cells.specs.declared.Entry.{Entry}
use Rattle.sums.specs.declared.tree.Merge.{Merge}
use Rattle.sums.specs.declared.tree.Merge.TheVariants.{Add}
use Rattle.limits.specs.declared.Refusal.TheVariants.{TooComplex}
use Rattle.sums.specs.Tree.Kinds.{X}
use Rattle.sums.specs.Tree.Sums.{Sum, none, and, size, len, entry}
use Rattle.sums.specs.Tree.Order.{cmp_nat, cmp_head, cmp_each, cmp_sum, cmp_term}
use Rattle.sums.specs.Tree.Good.{is_empty, Good}
use Rattle.sums.specs.Tree.Map.{by_order, merged, put_in, Outcome, sum, Found, at, absent, formed, each_into, lookup}
use Rattle.sums.proofs.tree.Order.{Finite, Key, good-finite, good-key, nat-equal}
use Rattle.sums.proofs.tree.Keeps.{Fits, Formed, formed-sum, good-head, good_more}
use Rattle.sums.proofs.tree.Lookup.{or_zero, lookup-put, coef-lookup, lookup-equal, lookup-other, lookup-before}
use Rattle.arithmetic.specs.Singles.{GoodSum, with_coef, Expressible}
use Rattle.arithmetic.specs.Adding.{add_sums, sub_sums}
use Rattle.arithmetic.specs.Product.{pairable, rowable, mulable, mul_term, mul_into, product}
use Rattle.arithmetic.specs.Powers.{PowerSum, coef_at, where_is, row_at, pairs_at, total_from, total_at, powers, plus_each, plus_pairs, occurs, plus_found, neg_found}
use Rattle.arithmetic.proofs.Steps.{differ, and_both, sum_is, then-sum, unless-sum}
use Rattle.arithmetic.proofs.Agree.{term-powers, product-fine}
use Rattle.arithmetic.proofs.Goodness.{x-head, head-with, fits-negated, fits-times, none-good, good-formed, good-add, good-sub}

-- ---- looking up a power of x

-- the key of x to the q
abbrev pub x_key : Float → Entry
x_key q = entry X 0 q complex.zero

key-x : (n : ℕ) (q : Float) (c : Complex) → T (finite q) → Key (entry X n q c) none
unfolding Finite
key-x n q c f = record { num = f; inside = tt }

empty-is : (s : Sum) → is_empty s ≡ true → s ≡ none
empty-is none h = refl
empty-is (and k p i c r) h = differ (sym h)

and-true₂ : {a b : Bool} → a ≡ true → b ≡ true → a && b ≡ true
and-true₂ e f = rw e f

module _ (q : Float) (l n : ℕ) (v : Float) (j : Sum) (d : Complex) (fq : T (finite q)) (fv : T (finite v)) where
  -- a term that is Equal to x to the q is a power of x, and the power is q
  x-equal : cmp_term (x_key q) none (entry l n v d) j ≡ Equal → eqb l X && eq v q ≡ true
  x-equal h =
      let a = then-equal-both (cmp_head (x_key q) (entry l n v d)) (cmp_sum none j) h in
      let b = then-equal-both (cmp_nat X l) (cmp_num q v) a.0 in
      and-true₂ (eq-eqb l X (sym (nat-equal X l b.0))) (eq-symmetric v q ∙ (cmp-equal-eq q v fq fv).0 b.1)

  -- and the other way round
  equal-x : is_empty j ≡ eqb l X → eqb l X && eq v q ≡ true → cmp_term (x_key q) none (entry l n v d) j ≡ Equal
  unfolding len cmp_each
  equal-x i h =
      let a = and_both (eqb l X) (eq v q) h in
      rw (eqb-true l X a.0, empty-is j (i ∙ a.0), (cmp-equal-eq q v fq fv).1 (eq-symmetric q v ∙ a.1))

-- in a good sum it is looked up as any other term
pub coef-found : (left : ℕ) (q : Float) (s : Sum) → T (finite q) → Good (suc left) s → coef_at q s ≡ lookup (x_key q) none s
unfolding coef_at lookup Good
coef-found left q none f g = refl
coef-found left q (and l v j d r) f g = go (eqb l X && eq v q) (cmp_term (x_key q) none (entry l (size j) v d) j) refl refl (coef-found left q r f g.3)
  where
    y : Key (entry l (size j) v d) j
    y = good-key left l (size j) v j d g.0 g.1

    gone : (cmp_term (x_key q) none (entry l (size j) v d) j ≡ Greater → ⊥) → lookup (x_key q) none r ≡ absent
    gone n = lookup-before (x_key q) none (entry l (size j) v d) j r (key-x 0 q complex.zero f) y (good-finite (suc left) r g.3) g.2 n

    go : (b : Bool) (o : Ordering) → eqb l X && eq v q ≡ b → cmp_term (x_key q) none (entry l (size j) v d) j ≡ o → coef_at q r ≡ lookup (x_key q) none r
        → cond b (at d) (coef_at q r) ≡ by_order o absent (at d) (lookup (x_key q) none r)
    go true o e h ih = rw (sym h ∙ equal-x q l (size j) v j d f y.num g.0.inside e)
    go false Less e h ih = ih ∙ gone (λ z. let w : Less ≡ Greater = sym h ∙ z in absurd (let z : ◌≡◌ {A = ℕ} 0 1 = cc in omega arith))
    go false Equal e h ih = differ (sym (x-equal q l (size j) v j d f y.num h) ∙ e)
    go false Greater e h ih = ih

-- ---- what is found after a term is put in

-- the term put in has the coefficient that it then has, and any other has what it had
pub put-found : (m : Merge) (x : Entry) (t : Sum) (y : Entry) (u s : Sum) → Key x t → Key y u → Finite s → Finite (put_in m x t s)
    → lookup y u (put_in m x t s) ≡ by_order (cmp_term y u x t) (lookup y u s) (at (merged m (or_zero (lookup y u s)) x.coef)) (lookup y u s)
put-found m x t y u s kx ky fs fr = go (cmp_term y u x t) refl
  where
    other : (cmp_term y u x t ≡ Equal → ⊥) → lookup y u (put_in m x t s) ≡ lookup y u s
    other n = lookup-other m x t y u s kx ky fs n

    go : (o : Ordering) → cmp_term y u x t ≡ o → lookup y u (put_in m x t s) ≡ by_order o (lookup y u s) (at (merged m (or_zero (lookup y u s)) x.coef)) (lookup y u s)
    go Less e = other (λ h. let w : Less ≡ Equal = sym e ∙ h in absurd (let z : ◌≡◌ {A = ℕ} 0 1 = cc in omega arith))
    go Equal e = lookup-equal y u x t (put_in m x t s) ky kx fr e ∙ lookup-put m x t s ∙ ap at
        (coef-lookup m x t s ∙ ap (λ (v : Found). merged m (or_zero v) x.coef) (sym (lookup-equal y u x t s ky kx fs e)))
    go Greater e = other (λ h. let w : Greater ≡ Equal = sym e ∙ h in absurd (let z : ◌≡◌ {A = ℕ} 0 1 = cc in omega arith))

-- ---- what is gained at each power as terms are added

-- each of a list is added to what was found, one after the other
abbrev pub gained : Found → List Complex → Found
gained f [] = f
gained f (c ∷ cs) = gained (at (complex.plus (or_zero f) c)) cs

gained-append : (f : Found) (cs ds : List Complex) → gained (gained f cs) ds ≡ gained f (cs ++ ds)
gained-append f [] ds = refl
gained-append f (c ∷ cs) ds = gained-append (at (complex.plus (or_zero f) c)) cs ds

gained-at : (a : Complex) (cs : List Complex) → gained (at a) cs ≡ at (total_from a cs)
gained-at a [] = refl
gained-at a (c ∷ cs) = gained-at (complex.plus a c) cs

-- from nothing it is the total
pub gained-total : (cs : List Complex) → gained absent cs ≡ total_at cs
gained-total [] = refl
gained-total (c ∷ cs) = gained-at (complex.plus complex.zero c) cs

-- r is s with the numbers of the list l q added at x to the q, for each finite q
pub record Gained (s r : Sum) (l : Float → List Complex) : Type 0 where
  pub good : Good 4 r
  pub powers : PowerSum s → PowerSum r
  pub coef : (q : Float) → T (finite q) → coef_at q r ≡ gained (coef_at q s) (l q)

-- no term
pub gained-none : (s r : Sum) → Good 4 s → sum s ≡ sum r → Gained s r (λ q. [])
gained-none s r g h = subst (λ (u : Sum). Gained s u (λ q. [])) (sum_is h) (record { good = g; powers = λ p. p; coef = λ q f. refl })

-- some terms, and then some more
pub gained-then : {s u r : Sum} {l m : Float → List Complex} → Gained s u l → Gained u r m → Gained s r (λ q. l q ++ m q)
gained-then {s} {l = l} {m = m} a b = record {
  good = b.good;
  powers = λ p. b.powers (a.powers p);
  coef = λ q f. b.coef q f ∙ ap (λ (v : Found). gained v (m q)) (a.coef q f)
      ∙ gained-append (coef_at q s) (l q) (m q);
}

-- a power of x put in
pub put-powers : (m : Merge) (x : Entry) (t s : Sum) → x.kind ≡ X → PowerSum s → PowerSum (put_in m x t s)
unfolding put_in PowerSum
put-powers m x t none e h = (e, tt)
put-powers m x t (and l q j d r) e h = go (cmp_term x t (entry l (size j) q d) j) _ _ _ (e, h) h (h.0, put-powers m x t r e h.1)
  where
    go : (o : Ordering) (a b c : Sum) → PowerSum a → PowerSum b → PowerSum c → PowerSum (by_order o a b c)
    go Less a b c f g h = f
    go Equal a b c f g h = g
    go Greater a b c f g h = h

-- a power of x formed
pub gained-x : (p : Float) (c : Complex) (s r : Sum) → T (fits binary64 p) → Fits c → Good 4 s → formed Add (entry X 0 p c) none s ≡ sum r → Gained s r (λ q. where_is q p c)
gained-x p c s r fp fc g h = record { good = good; powers = λ w. rw f.is (put-powers Add x none s refl w); coef = coef }
  where
    x : Entry
    x = entry X 0 p c

    good : Good 4 r
    good = (good-formed Add x none s r (x-head 0 p c fp fc) none-good g h).good

    f : Formed Add x none s r
    f = formed-sum Add x none s r h

    k : (q : Float) → T (finite q) → Key (x_key q) none
    k q fq = key-x 0 q complex.zero fq

    put : (q : Float) → T (finite q) → lookup (x_key q) none r ≡ by_order (cmp_term (x_key q) none x none) (lookup (x_key q) none s) (at (complex.plus (or_zero (lookup (x_key q) none s)) c))
        (lookup (x_key q) none s)
    put q fq = rw f.is (put-found Add x none (x_key q) none s (key-x 0 p c (T_of f.num)) (k q fq) (good-finite 4 s g) (rw f.is at (good-finite 4 r good)))

    at-q : (q : Float) → T (finite q) → (v : Found) (b : Bool) (o : Ordering) → eq p q ≡ b → cmp_term (x_key q) none x none ≡ o
        → by_order o v (at (complex.plus (or_zero v) c)) v ≡ gained v (cond b (c ∷ []) [])
    at-q q fq v true o e h = rw (sym h ∙ equal-x q X 0 p none c fq (T_of f.num) refl e)
    at-q q fq v false Less e h = refl
    at-q q fq v false Equal e h = differ (sym (x-equal q X 0 p none c fq (T_of f.num) h) ∙ e)
    at-q q fq v false Greater e h = refl

    coef : (q : Float) → T (finite q) → coef_at q r ≡ gained (coef_at q s) (where_is q p c)
    coef q fq = rw (coef-found 3 q s fq g) (coef-found 3 q r fq good ∙ put q fq ∙ at-q q fq (lookup (x_key q) none s) (eq p q) (cmp_term (x_key q) none x none) refl refl)

-- ---- products

-- a power of x times each term of a sum
row-gained : (k n : ℕ) (p : Float) (c : Complex) (f : Sum → Outcome) → k ≡ X → (t s r : Sum) → Good 4 s → each_into (mul_term (entry k n p c) f) s t ≡ sum r → Gained s r (λ q. row_at q p c t)
unfolding each_into row_at
row-gained k n p c f e none s r g h = gained-none s r g h
row-gained k n p c f e (and l w j d t) s r g h =
    let x = then-sum (mul_term (entry k n p c) f (entry l (size j) w d) j s) (λ (u : Sum). each_into (mul_term (entry k n p c) f) u t) r h in
    let y = gained-x (p ⊕ w) (complex.times c d) s x.0 (add-fits binary64 p w) (fits-times c d) g (sym (term-powers (entry k n p c) f (entry l (size j) w d) j s (eq-eqb k X e)) ∙ x.1) in
    gained-then y (row-gained k n p c f e t x.0 r y.good x.2)

-- and each of a sum of powers
mul-gained : (a b s r : Sum) → PowerSum a → Good 4 s → mul_into a b s ≡ sum r → Gained s r (λ q. pairs_at q a b)
unfolding mul_into PowerSum pairs_at
mul-gained none b s r p g h = gained-none s r g h
mul-gained (and k v i c a) b s r p g h =
    let w = then-sum (each_into (mul_term (entry k (size i) v c) (λ u. mul_into i u none)) s b) (λ u. mul_into a b u) r h in
    let y = row-gained k (size i) v c (λ u. mul_into i u none) p.0 b s w.0 g w.1 in
    gained-then y (mul-gained a b w.0 r p.1 y.good w.2)

module _ (s t r : Sum) (ps : PowerSum s) (h : product s t ≡ sum r) where
  product-gained : Gained none r (λ q. pairs_at q s t)
  unfolding product
  product-gained = mul-gained s t none r ps none-good (unless-sum (mulable s t) TooComplex (mul_into s t none) r h).1

  -- the coefficient at each power is the total of the pairs at it
  pub product-coef : (q : Float) → T (finite q) → coef_at q r ≡ total_at (pairs_at q s t)
  unfolding coef_at
  product-coef q f = product-gained.coef q f ∙ gained-total (pairs_at q s t)

  -- a product of sums of powers is one
  pub product-powers : PowerSum r
  unfolding PowerSum
  product-powers = product-gained.powers tt

row-powers : (k : ℕ) (f : Sum → Bool) (t : Sum) → k ≡ X → PowerSum t → rowable k f t ≡ true
unfolding rowable PowerSum
row-powers k f none e p = refl
row-powers k f (and l w j d t) e p = and-true₂ {a = pairable k f l j} (rw (e, p.0)) (row-powers k f t e p.1)

-- and there always is one
pub product-mulable : (s t : Sum) → PowerSum s → PowerSum t → mulable s t ≡ true
unfolding mulable PowerSum
product-mulable none t p q = refl
product-mulable (and k v i c s) t p q = and-true₂ (row-powers k (λ v. mulable i v) t p.0 q) (product-mulable s t p.1 q)

-- so it isn't TooComplex
pub powers-fine : (s t : Sum) → PowerSum s → PowerSum t → Expressible (product s t)
powers-fine s t p q = product-fine s t (product-mulable s t p q)

-- ---- the powers of a product

found : Found → Bool
found absent = false
found (at c) = true

some : {A : Type 0} → List A → Bool
some [] = false
some (c ∷ cs) = true

found-powers : (q : Float) (s : Sum) → PowerSum s → found (coef_at q s) ≡ occurs q (powers s)
unfolding coef_at powers PowerSum found
found-powers q none p = refl
found-powers q (and k v i c s) p = rw p.0 (go (eq v q) (found-powers q s p.1))
  where
    go : (b : Bool) → found (coef_at q s) ≡ occurs q (powers s) → found (cond b (at c) (coef_at q s)) ≡ b || occurs q (powers s)
    go true h = refl
    go false h = h

found-total : (cs : List Complex) → found (total_at cs) ≡ some cs
unfolding found some
found-total [] = refl
found-total (c ∷ cs) = refl

some-append : (cs ds : List Complex) → some (cs ++ ds) ≡ some cs || some ds
unfolding some
some-append [] ds = refl
some-append (c ∷ cs) ds = refl

occurs-append : (q : Float) (ps ws : List Float) → occurs q (ps ++ ws) ≡ occurs q ps || occurs q ws
occurs-append q [] ws = refl
occurs-append q (p ∷ ps) ws = go (eq p q) (occurs-append q ps ws)
  where
    go : (b : Bool) → occurs q (ps ++ ws) ≡ occurs q ps || occurs q ws → b || occurs q (ps ++ ws) ≡ (b || occurs q ps) || occurs q ws
    go true h = refl
    go false h = h

some-row : (q p : Float) (c : Complex) (t : Sum) → some (row_at q p c t) ≡ occurs q (plus_each p (powers t))
unfolding some row_at powers
some-row q p c none = refl
some-row q p c (and l w j d t) = go (eq (p ⊕ w) q) (some-row q p c t)
  where
    go : (b : Bool) → some (row_at q p c t) ≡ occurs q (plus_each p (powers t)) → some (cond b (complex.times c d ∷ []) [] ++ row_at q p c t) ≡ b || occurs q (plus_each p (powers t))
    go true h = refl
    go false h = h

some_pairs : (q : Float) (s t : Sum) → some (pairs_at q s t) ≡ occurs q (plus_pairs (powers s) (powers t))
unfolding some pairs_at powers
some_pairs q none t = refl
some_pairs q (and k p i c s) t =
    some-append (row_at q p c t) (pairs_at q s t) ∙ ap₂ ◌||◌ (some-row q p c t) (some_pairs q s t) ∙ sym (occurs-append q (plus_each p (powers t)) (plus_pairs (powers s) (powers t)))

-- they are those that a power of the one and a power of the other add up to
pub product-keys : (s t r : Sum) → PowerSum s → product s t ≡ sum r → (q : Float) → T (finite q) → occurs q (powers r) ≡ occurs q (plus_pairs (powers s) (powers t))
product-keys s t r p h q f =
    sym (found-powers q r (product-powers s t r p h)) ∙ ap found (product-coef s t r p h q f) ∙ found-total (pairs_at q s t) ∙ some_pairs q s t

-- ---- sums and differences

joined : (Complex → Complex) → Found → Found → Found
joined g f absent = f
joined g f (at d) = at (complex.plus (or_zero f) (g d))

join_one : (g : Complex → Complex) (o : Ordering) (f v : Found) (d : Complex) → ((o ≡ Greater → ⊥) → v ≡ absent)
    → joined g (by_order o f (at (complex.plus (or_zero f) (g d))) f) v ≡ joined g f (by_order o absent (at d) v)
unfolding joined
join_one g Less f v d h = rw (h (λ e. let z : ◌≡◌ {A = ℕ} 0 1 = cc in omega arith))
join_one g Equal f v d h = rw (h (λ e. let z : ◌≡◌ {A = ℕ} 0 1 = cc in omega arith))
join_one g Greater f v d h = refl

module _ (g : Complex → Complex) (fits-g : (c : Complex) → Fits c → Fits (g c)) (y : Entry) (u : Sum) (ky : Key y u) where
  -- what is found after each entry of t, its coefficient changed by g, is added into s
  joined-found : (t s r : Sum) → Good 4 t → Good 4 s → each_into (λ x v w. formed Add (with_coef x (g x.coef)) v w) s t ≡ sum r → lookup y u r ≡ joined g (lookup y u s) (lookup y u t)
  unfolding each_into joined lookup Good
  joined-found none s r gt gs h = ap (lookup y u) (sym (sum_is h))
  joined-found (and l w j d t) s r gt gs h =
      let e = then-sum (formed Add (entry l (size j) w (g d)) j s) (λ v. each_into (λ x v w. formed Add (with_coef x (g x.coef)) v w) v t) r h in
      let f = formed-sum Add (entry l (size j) w (g d)) j s e.0 e.1 in
      let k = good-head l (size j) w j d gt.0 in
      let v = good-formed Add (entry l (size j) w (g d)) j s e.0 (head-with (entry l (size j) w d) j (g d) k (fits-g d k.coef)) (good_more 3 j gt.1) gs e.1 in
      let kx = good-key 3 l (size j) w j d gt.0 gt.1 in
      let put = put-found Add (entry l (size j) w (g d)) j y u s (record { num = T_of f.num; inside = kx.inside }) ky (good-finite 4 s gs) (rw f.is at (good-finite 4 e.0 v.good)) in
      joined-found t e.0 r gt.3 v.good e.2
      ∙ ap (λ (o : Found). joined g o (lookup y u t)) (ap (lookup y u) f.is ∙ put)
      ∙ join_one g (cmp_term y u (entry l (size j) w d) j) (lookup y u s) (lookup y u t) d (lookup-before y u (entry l (size j) w d) j t ky kx (good-finite 4 t gt.3) gt.2)

joined-plus : (f v : Found) → joined (λ c. c) f v ≡ plus_found f v
unfolding joined
joined-plus f absent = refl
joined-plus absent (at d) = refl
joined-plus (at c) (at d) = refl

joined-neg : (f v : Found) → joined complex.negated f v ≡ plus_found f (neg_found v)
unfolding joined
joined-neg f absent = refl
joined-neg absent (at d) = refl
joined-neg (at c) (at d) = refl

module _ (s t r : Sum) (gs : Good 4 s) (gt : Good 4 t) where
  -- in a sum of two good sums each term's coefficient is that of the one plus that of the other
  pub add-found : (y : Entry) (u : Sum) → Key y u → add_sums s t ≡ sum r → lookup y u r ≡ plus_found (lookup y u s) (lookup y u t)
  add-found y u k h = joined-found (λ c. c) (λ c f. f) y u k t s r gt gs h ∙ joined-plus (lookup y u s) (lookup y u t)

  -- in a difference, plus that of the other negated
  pub sub-found : (y : Entry) (u : Sum) → Key y u → sub_sums s t ≡ sum r → lookup y u r ≡ plus_found (lookup y u s) (neg_found (lookup y u t))
  sub-found y u k h = joined-found complex.negated (λ c f. fits-negated f) y u k t s r gt gs h ∙ joined-neg (lookup y u s) (lookup y u t)

module _ (s t r : Sum) (gs : GoodSum s) (gt : GoodSum t) (q : Float) (f : T (finite q)) where
  -- so it is at each power of x
  pub add-coef : add_sums s t ≡ sum r → coef_at q r ≡ plus_found (coef_at q s) (coef_at q t)
  add-coef h =
      rw (coef-found 3 q s f gs.good, coef-found 3 q t f gt.good, coef-found 3 q r f (good-add gs gt h).good)
      (add-found s t r gs.good gt.good (x_key q) none (key-x 0 q complex.zero f) h)

  -- and in a difference
  pub sub-coef : sub_sums s t ≡ sum r → coef_at q r ≡ plus_found (coef_at q s) (neg_found (coef_at q t))
  sub-coef h =
      rw (coef-found 3 q s f gs.good, coef-found 3 q t f gt.good, coef-found 3 q r f (good-sub gs gt h).good)
      (sub-found s t r gs.good gt.good (x_key q) none (key-x 0 q complex.zero f) h)

each-powers : (g : Complex → Complex) (t s r : Sum) → PowerSum s → PowerSum t → each_into (λ x v w. formed Add (with_coef x (g x.coef)) v w) s t ≡ sum r → PowerSum r
unfolding each_into PowerSum
each-powers g none s r p w h = subst PowerSum (sum_is h) p
each-powers g (and l v j d t) s r p w h =
    let e = then-sum (formed Add (entry l (size j) v (g d)) j s) (λ u. each_into (λ x v w. formed Add (with_coef x (g x.coef)) v w) u t) r h in
    each-powers g t e.0 r (rw (formed-sum Add (entry l (size j) v (g d)) j s e.0 e.1).is (put-powers Add (entry l (size j) v (g d)) j s w.0 p)) w.1 e.2

-- a sum of sums of powers is one
pub add-powers : (s t r : Sum) → PowerSum s → PowerSum t → add_sums s t ≡ sum r → PowerSum r
add-powers s t r p w h = each-powers (λ c. c) t s r p w h

-- and so is a difference
pub sub-powers : (s t r : Sum) → PowerSum s → PowerSum t → sub_sums s t ≡ sum r → PowerSum r
sub-powers s t r p w h = each-powers complex.negated t s r p w h
