-- Calculus in IEEE operations: the coefficients that the derivative and the integral of a sum have at the powers of x. Assumes nothing.
use Prim.Native.Nat.{ℕ, ◌≤◌}
use native.Mathlib.Omega.{arith}
use mathlib.Core.Path.{◌≡◌, refl, sym, ap, subst, ◌∙◌}
use mathlib.Core.Bool.{Bool, true, false, ◌&&◌, cond}
use mathlib.Core.List.{List, [], ◌∷◌, ◌++◌}
use lib.Dec.{T, eqb}
use lib.ListN.{length}
use lib.IntN.{ℤ}
use lib.Ieee.{Float, eq, binary64, fits, of_bits}
use lib.Ieee.Fits.{add-fits, sub-fits}
use lib.Ieee.Scale.{finite}
use borrow.Author.Tests.{eqb-true, eq-eqb}
use Rattle.numbers.specs.Constants.{euler}
use Rattle.numbers.specs.Ops.{◌⊕◌, ◌⊖◌}
use Rattle.numbers.specs.Order.{cmp_num}
use Rattle.numbers.specs.Signs.{zero64, one64}
use Rattle.numbers.specs.Wholes.{Means, Near, NearUp}
use Rattle.std.specs.declared.cmp.Ordering.{Ordering}
use Rattle.std.specs.declared.cmp.Ordering.TheVariants.{Less, Equal, Greater}
use Rattle.numbers.proofs.Bools.{T_of}
use Rattle.numbers.proofs.Order.{eq-symmetric, eq-transitive, then-equal-both}
use Rattle.numbers.proofs.Wholes.{means-finite, less-1, less-1-eq, more-1, more-1-eq}
use Rattle.numbers.proofs.Zeros.{eq_self}
use Rattle.numbers.specs.declared.complex.Complex.{Complex}
use Rattle.numbers.specs.Complex.Arith as complex
use Rattle.cells.specs.declared.Entry.{Entry}
use Rattle.sums.specs.declared.tree.Merge.TheVariants.{Add, Store}
use Rattle.sums.specs.Tree.Kinds as kinds
use Rattle.sums.specs.Tree.Sums.{Sum, none, and, size, entry}
use Rattle.sums.specs.Tree.Order.{cmp_nat, cmp_head, cmp_sum, cmp_term}
use Rattle.sums.specs.Tree.Same.{same_sum}
use Rattle.sums.specs.Tree.Good.{is_empty, GoodEntry, Good}
use Rattle.sums.specs.Tree.Map.{by_order, sum, Found, at, absent, formed, each_into, lookup, Has, here, there}
use Rattle.sums.proofs.tree.Order.{Finite, Key, good-finite, good-key, nat-equal, term-self}
use Rattle.sums.proofs.tree.Keeps.{Fits, Formed, formed-sum, good-head, good_more}
use Rattle.sums.proofs.tree.Lookup.{lookup-other, lookup-before}
use Rattle.sums.proofs.tree.Same.{alone-same}
use Rattle.arithmetic.specs.Singles.{GoodSum, constant, Expressible}
use Rattle.arithmetic.specs.Powers.{PowerSum, coef_at, where_is, total_at}
use Rattle.arithmetic.proofs.Steps.{never, differ, sum_is, then-sum, either, and_both}
use Rattle.arithmetic.proofs.Goodness.{x-head, none-good, good-formed}
use Rattle.arithmetic.proofs.Agree.{then-fine, formed-fine}
use Rattle.arithmetic.proofs.Calculus.{x_key, coef-found, put-found, gained, gained-total, gained-x, put-powers}
use Rattle.calculus.specs.Derivative.{slope, vanishes, derive_x, derive_into, or_zero, derive}
use Rattle.calculus.specs.Integral.{x, stored, integrate_x, integrate_into, integrate}
use Rattle.calculus.specs.Rules.{WholePowers, slope_at, slopes_at, all_vanish, later, divided_at, last_at, last_log, log_key}
use Rattle.calculus.proofs.Good.{fits-times_real, fits-over_real, Turned, good-turned, derive-is-x, derive-turned, x-is-good, log-head-good, integrate-is-x, integrate-turned}

-- ---- terms of other kinds

key-x : (n : ℕ) (q : Float) (c : Complex) → T (finite q) → Key (entry kinds.X n q c) none
unfolding Finite
key-x n q c f = record { num = f; inside = tt }

-- they leave the powers of x and the logarithms as they were
turned-found : {s r : Sum} → Good 4 s → Turned s r → (y : Entry) (u : Sum) → Key y u → kinds.has_number y.kind ≡ true → lookup y u r ≡ lookup y u s
turned-found {s} {r} g t y u k e =
    let f = formed-sum t.how t.head t.inside s r t.is in
    let own : Key t.head t.inside = record { num = T_of f.num; inside = good-finite 4 t.inside t.good } in
    rw f.is (lookup-other t.how t.head t.inside y u s own k (good-finite 4 s g) apart)
  where
    apart : cmp_term y u t.head t.inside ≡ Equal → ⊥
    apart h =
        let a = then-equal-both (cmp_head y t.head) (cmp_sum u t.inside) h in
        let b = then-equal-both (cmp_nat y.kind t.head.kind) (cmp_num y.num t.head.num) a.0 in
        differ (sym e ∙ ap kinds.has_number (nat-equal y.kind t.head.kind b.0) ∙ t.numberless)

turned-coef : {s r : Sum} → Good 4 s → Turned s r → (q : Float) → T (finite q) → coef_at q r ≡ coef_at q s
turned-coef {s} {r} g t q f =
    coef-found 3 q r f (good-turned g t).good ∙ turned-found g t (x_key q) none (key-x 0 q complex.zero f) refl ∙ sym (coef-found 3 q s f g)

-- ---- derivatives

and-id : (a : Bool) → a ≡ a && true
and-id true = refl
and-id false = refl

and_no : (a : Bool) → false ≡ a && false
and_no true = refl
and_no false = refl

and-three : (a b c : Bool) → (a && b) && c ≡ a && (b && c)
and-three true b c = refl
and-three false b c = refl

-- one term put into s gives u: at each finite power q the numbers l q are added, and u is empty where s is and nothing was put in
record Added (s u : Sum) (l : Float → List Complex) (nothing : Bool) : Type 0 where
  good : Good 4 u
  coef : (q : Float) → T (finite q) → (m : List Complex) → gained (coef_at q u) m ≡ gained (coef_at q s) (l q ++ m)
  empty : is_empty u ≡ is_empty s && nothing

-- a power of x
x-added : (k n : ℕ) (p : Float) (c : Complex) (s u : Sum) → Good 4 s → derive_x (entry k n p c) s ≡ sum u → Added s u (λ q. slope_at q p c) (vanishes p c)
x-added k n p c s u g h = go (vanishes p c) h
  where
    y : Entry
    y = entry kinds.X 0 (p ⊖ one64) (slope p c)

    one : (f : Found) (m : List Complex) (b : Bool) → gained (gained f (cond b (slope p c ∷ []) [])) m ≡ gained f (cond b (slope p c ∷ []) [] ++ m)
    one f m true = refl
    one f m false = refl

    go : (b : Bool) → cond b (sum s) (formed Add y none s) ≡ sum u → Added s u (λ q. cond b [] (where_is q (p ⊖ one64) (slope p c))) b
    go true h = subst (λ (v : Sum). Added s v (λ q. []) true) (sum_is h) (record { good = g; coef = λ q f m. refl; empty = and-id (is_empty s) })
    go false h =
        let w = gained-x (p ⊖ one64) (slope p c) s u (sub-fits binary64 p one64) (fits-times_real c p) g h in
        let v = good-formed Add y none s u (x-head 0 (p ⊖ one64) (slope p c) (sub-fits binary64 p one64) (fits-times_real c p)) none-good g h in
        record {
          good = w.good;
          coef = λ q f m. ap (λ (o : Found). gained o m) (w.coef q f) ∙ one (coef_at q s) m (eq (p ⊖ one64) q);
          empty = v.some ∙ and_no (is_empty s);
        }

-- any term
term-added : (l : ℕ) (v : Float) (j : Sum) (d : Complex) (s u : Sum) → GoodEntry l v j d → Good 4 j → size j ≤ 64 → Good 4 s
    → derive_into (entry l (size j) v d) j s ≡ sum u
    → Added s u (λ q. cond (eqb l kinds.X) (slope_at q v d) []) (eqb l kinds.X && vanishes v d)
term-added l v j d s u e gj n g h = go (eqb l kinds.X) refl
  where
    go : (b : Bool) → eqb l kinds.X ≡ b → Added s u (λ q. cond b (slope_at q v d) []) (b && vanishes v d)
    go true z = x-added l (size j) v d s u g (sym (derive-is-x l (size j) v d j s z) ∙ h)
    go false z =
        let w = derive-turned l v j d s u z e gj n h in
        let o = good-turned g w in
        record { good = o.good; coef = λ q f m. ap (λ (v : Found). gained v m) (turned-coef g w q f); empty = o.some ∙ and_no (is_empty s) }

-- the derivative of the sum t put into s gives r
record Derived (t s r : Sum) : Type 0 where
  coef : (q : Float) → T (finite q) → coef_at q r ≡ gained (coef_at q s) (slopes_at q t)
  empty : is_empty r ≡ is_empty s && all_vanish t

derived : (t s r : Sum) → Good 4 t → size t ≤ 64 → Good 4 s → each_into derive_into s t ≡ sum r → Derived t s r
unfolding each_into slopes_at all_vanish Good size
derived none s r gt n g h = record { coef = λ q f. ap (coef_at q) (sym (sum_is h)); empty = ap is_empty (sym (sum_is h)) ∙ and-id (is_empty s) }
derived (and l v j d t) s r gt n g h =
    let w = then-sum (derive_into (entry l (size j) v d) j s) (λ u. each_into derive_into u t) r h in
    let y = term-added l v j d s w.0 gt.0 (good_more 3 j gt.1) (omega arith) g w.1 in
    let z = derived t w.0 r gt.3 (omega arith) y.good w.2 in
    record {
      coef = λ q f. z.coef q f ∙ y.coef q f (slopes_at q t);
      empty = z.empty ∙ ap (λ (b : Bool). b && all_vanish t) y.empty ∙ and-three (is_empty s) (eqb l kinds.X && vanishes v d) (all_vanish t);
    }

module _ (s r : Sum) (gs : GoodSum s) (h : derive s ≡ sum r) where
  -- before constant 0 is put for nothing
  built : (u : Sum) × Derived s none u × (or_zero u ≡ sum r)
  unfolding derive
  built = let w = then-sum (each_into derive_into none s) or_zero r h in (w.0, derived s none w.0 gs.good gs.room none-good w.1, w.2)

  -- where some term is no power of x or has a slope that isn't 0, the coefficient at each power is the total of the slopes at it
  pub derive-coef : all_vanish s ≡ false → (q : Float) → T (finite q) → coef_at q r ≡ total_at (slopes_at q s)
  unfolding coef_at
  derive-coef n q f = go built.0 built.1 built.2
    where
      go : (u : Sum) → Derived s none u → or_zero u ≡ sum r → coef_at q r ≡ total_at (slopes_at q s)
      go none d e = differ (d.empty ∙ n)
      go (and l v j c t) d e = ap (coef_at q) (sym (sum_is e)) ∙ d.coef q f ∙ gained-total (slopes_at q s)

  -- and where there is none, the derivative is constant 0
  pub derive-zero : all_vanish s ≡ true → r ≡ constant complex.zero
  derive-zero n = go built.0 built.1 built.2
    where
      go : (u : Sum) → Derived s none u → or_zero u ≡ sum r → r ≡ constant complex.zero
      go none d e = sym (sum_is e)
      go (and l v j c t) d e = differ (sym (d.empty ∙ n))

x-powers : (k n : ℕ) (p : Float) (c : Complex) (s u : Sum) → PowerSum s → derive_x (entry k n p c) s ≡ sum u → PowerSum u
x-powers k n p c s u w h =
    let y = entry kinds.X 0 (p ⊖ one64) (slope p c) in
    either PowerSum (vanishes p c) (sum s) (formed Add y none s) u
    (λ e. subst PowerSum (sum_is e) w)
    (λ e. rw (formed-sum Add y none s u e).is (put-powers Add y none s refl w))
    h

each-powers : (t s r : Sum) → PowerSum t → PowerSum s → each_into derive_into s t ≡ sum r → PowerSum r
unfolding each_into PowerSum
each-powers none s r p q h = subst PowerSum (sum_is h) q
each-powers (and l v j d t) s r p q h =
    let w = then-sum (derive_into (entry l (size j) v d) j s) (λ u. each_into derive_into u t) r h in
    each-powers t w.0 r p.1 (x-powers l (size j) v d s w.0 q (sym (derive-is-x l (size j) v d j s (eq-eqb l kinds.X p.0)) ∙ w.1)) w.2

-- the derivative of a sum of powers is a sum of powers
pub derive-powers : (s r : Sum) → PowerSum s → derive s ≡ sum r → PowerSum r
unfolding derive PowerSum
derive-powers s r p h = let w = then-sum (each_into derive_into none s) or_zero r h in go w.0 (each-powers s none w.0 p tt w.1) w.2
  where
    go : (u : Sum) → PowerSum u → or_zero u ≡ sum r → PowerSum r
    go none q e = subst PowerSum (sum_is e) (refl, tt)
    go (and l v j c t) q e = subst PowerSum (sum_is e) q

-- ---- whole powers don't run together

empty-is : (s : Sum) → is_empty s ≡ true → s ≡ none
empty-is none h = refl
empty-is (and k p i c r) h = differ (sym h)

own-equal : (k n : ℕ) (p : Float) (i : Sum) (c : Complex) → k ≡ kinds.X → is_empty i ≡ eqb k kinds.X → cmp_term (x_key p) none (entry k n p c) i ≡ Equal
own-equal k n p i c e h = rw (e, empty-is i (h ∙ eq-eqb k kinds.X e)) (term-self (x_key p) none)

-- a power of x that is first in a good sum is not in the rest
first-gone : (k : ℕ) (p : Float) (i : Sum) (c : Complex) (r : Sum) → k ≡ kinds.X → Good 4 (and k p i c r) → coef_at p r ≡ absent
unfolding Good
first-gone k p i c r e g =
    let y = good-key 3 k (size i) p i c g.0 g.1 in
    coef-found 3 p r y.num g.3 ∙ lookup-before (x_key p) none (entry k (size i) p c) i r (key-x 0 p complex.zero y.num) y (good-finite 4 r g.3) g.2 not-greater
  where
    not-greater : cmp_term (x_key p) none (entry k (size i) p c) i ≡ Greater → ⊥
    not-greater h = let w : Equal ≡ Greater = sym (own-equal k (size i) p i c e g.0.inside) ∙ h in let z : ◌≡◌ {A = ℕ} 0 1 = cc in omega arith

never-absent : {A : Type 0} {c : Complex} → at c ≡ absent → A
never-absent h = absurd (let z : ◌≡◌ {A = ℕ} 0 1 = cc in omega arith)

not-here : (b : Bool) (c : Complex) (v : Found) → cond b (at c) v ≡ absent → (b ≡ false) × (v ≡ absent)
not-here true c v h = never-absent h
not-here false c v h = (refl, h)

-- a power of x in a sum that has none at v isn't at v
has-apart : (p : Float) (i : Sum) (c : Complex) (v : Float) {s : Sum} → Has kinds.X p i c s → coef_at v s ≡ absent → eq p v ≡ false
unfolding coef_at
has-apart p i c v (here {r = r}) h = (not-here (eq p v) c (coef_at v r) h).0
has-apart p i c v (there {l = l} {q = q} {d = d} {r = r} w) h = has-apart p i c v w (not-here (eqb l kinds.X && eq q v) d (coef_at v r) h).1

-- g takes no power of x in the sum to q
Misses : (Float → Float) → Float → Sum → Type 0
Misses g q none = Unit {0}
Misses g q (and k p i c r) = (k ≡ kinds.X → eq (g p) q ≡ false) × Misses g q r

-- a whole number of which near holds
abbrev Whole : (ℤ → Type 0) → Float → Type 0
Whole near p = (z : ℤ) × Means p z × near z

-- where g keeps whole powers apart, it takes none but p to where it takes p
module _ (g : Float → Float) (near : ℤ → Type 0) (stays : (p : Float) → Whole near p → T (finite (g p)))
    (keeps : (p v : Float) → Whole near p → Whole near v → eq (g p) (g v) ≡ eq p v) where
  rest-misses : (p q : Float) → Whole near p → T (finite q) → eq (g p) q ≡ true → (r : Sum) → WholePowers near r → coef_at p r ≡ absent → Misses g q r
  unfolding WholePowers coef_at Misses
  rest-misses p q m f e none n h = tt
  rest-misses p q m f e (and k v i c r) n h = (apart, rest-misses p q m f e r n.1 o.1)
    where
      o : (eqb k kinds.X && eq v p ≡ false) × (coef_at p r ≡ absent)
      o = not-here (eqb k kinds.X && eq v p) c (coef_at p r) h

      apart : k ≡ kinds.X → eq (g v) q ≡ false
      apart l =
          eq-symmetric (g v) q ∙ sym (eq-transitive (g p) q (g v) (stays p m) f (stays v (n.0 l)) e)
          ∙ keeps p v m (n.0 l) ∙ eq-symmetric p v ∙ (rw (eq-eqb k kinds.X l) at o.0)

-- one less, and one more
less-finite : (p : Float) → Whole Near p → T (finite (p ⊖ one64))
less-finite p m = means-finite (less-1 m.1 m.2)

less-apart : (p v : Float) → Whole Near p → Whole Near v → eq (p ⊖ one64) (v ⊖ one64) ≡ eq p v
less-apart p v m n = less-1-eq m.1 n.1 m.2 n.2

more-finite : (p : Float) → Whole NearUp p → T (finite (p ⊕ one64))
more-finite p m = means-finite (more-1 m.1 m.2)

more-apart : (p v : Float) → Whole NearUp p → Whole NearUp v → eq (p ⊕ one64) (v ⊕ one64) ≡ eq p v
more-apart p v m n = more-1-eq m.1 n.1 m.2 n.2

no-slope : (q p : Float) (c : Complex) → eq (p ⊖ one64) q ≡ false → slope_at q p c ≡ []
no-slope q p c e = rw e (go (vanishes p c))
  where
    go : (b : Bool) → ◌≡◌ {A = List Complex} (cond b [] []) []
    go true = refl
    go false = refl

no-slopes : (q : Float) (r : Sum) → Misses (λ v. v ⊖ one64) q r → slopes_at q r ≡ []
unfolding Misses slopes_at
no-slopes q none h = refl
no-slopes q (and k p i c r) h = go (eqb k kinds.X) refl (no-slopes q r h.1)
  where
    go : (b : Bool) → eqb k kinds.X ≡ b → slopes_at q r ≡ [] → cond b (slope_at q p c) [] ++ slopes_at q r ≡ []
    go true e ih = rw (no-slope q p c (h.0 (eqb-true k kinds.X e))) ih
    go false e ih = ih

-- nothing more comes to where the first power of x comes
rest-slopes : (k : ℕ) (p : Float) (i : Sum) (c : Complex) (r : Sum) (q : Float) → k ≡ kinds.X → Good 4 (and k p i c r) → WholePowers Near (and k p i c r)
    → T (finite q) → eq (p ⊖ one64) q ≡ true → slopes_at q r ≡ []
unfolding WholePowers
rest-slopes k p i c r q o g n f e =
    no-slopes q r (rest-misses (λ v. v ⊖ one64) Near less-finite less-apart p q (n.0 o) f e r n.1 (first-gone k p i c r o g))

-- at most one term comes to each power
pub slopes-apart : (q : Float) → T (finite q) → (s : Sum) → Good 4 s → WholePowers Near s → length (slopes_at q s) ≤ 1
unfolding WholePowers slopes_at Good
slopes-apart q f none g n = omega arith
slopes-apart q f (and k p i c r) g n = go (eqb k kinds.X) (vanishes p c) (eq (p ⊖ one64) q) refl refl (slopes-apart q f r g.3 n.1)
  where
    go : (x a b : Bool) → eqb k kinds.X ≡ x → eq (p ⊖ one64) q ≡ b → length (slopes_at q r) ≤ 1
        → length (cond x (cond a [] (cond b (slope p c ∷ []) [])) [] ++ slopes_at q r) ≤ 1
    go false a b o e h = h
    go true true b o e h = h
    go true false false o e h = h
    go true false true o e h = rw (rest-slopes k p i c r q (eqb-true k kinds.X o) g n f e) (omega arith)

module _ (p : Float) (i : Sum) (c : Complex) where
  has-whole : {near : ℤ → Type 0} {s : Sum} → Has kinds.X p i c s → WholePowers near s → Whole near p
  unfolding WholePowers
  has-whole here n = n.0 refl
  has-whole (there h) n = has-whole h n.1

  has-slope : {s : Sum} → Has kinds.X p i c s → vanishes p c ≡ false → all_vanish s ≡ false
  unfolding all_vanish
  has-slope here e = rw e
  has-slope (there {l = l} {q = q} {d = d} {r = r} h) e = rw (has-slope h e) (sym (and_no (eqb l kinds.X && vanishes q d)))

  -- a term's own slope is all that comes to one less than its power
  pub slopes-own : {s : Sum} → Has kinds.X p i c s → Good 4 s → WholePowers Near s → vanishes p c ≡ false → slopes_at (p ⊖ one64) s ≡ slope p c ∷ []
  unfolding WholePowers slopes_at Good
  slopes-own (here {r = r}) g n e =
      let f = less-finite p (n.0 refl) in
      let o = eq_self (p ⊖ one64) f in
      rw (e, o, rest-slopes kinds.X p i c r (p ⊖ one64) refl g n f o)
  slopes-own (there {l = l} {q = q} {j = j} {d = d} {r = r} h) g n e = go (eqb l kinds.X) refl (slopes-own h g.3 n.1 e)
    where
      apart : l ≡ kinds.X → eq (q ⊖ one64) (p ⊖ one64) ≡ false
      apart o = less-apart q p (n.0 o) (has-whole h n.1) ∙ eq-symmetric q p ∙ has-apart p i c q h (first-gone l q j d r o g)

      go : (b : Bool) → eqb l kinds.X ≡ b → slopes_at (p ⊖ one64) r ≡ slope p c ∷ [] → cond b (slope_at (p ⊖ one64) q d) [] ++ slopes_at (p ⊖ one64) r ≡ slope p c ∷ []
      go true o ih = rw (no-slope (p ⊖ one64) q d (apart (eqb-true l kinds.X o))) ih
      go false o ih = ih

  -- so the derivative has it there, added to +0
  pub derive-term : {s r : Sum} → Has kinds.X p i c s → GoodSum s → WholePowers Near s → derive s ≡ sum r → vanishes p c ≡ false
      → coef_at (p ⊖ one64) r ≡ at (complex.plus complex.zero (slope p c))
  derive-term {s} {r} h gs n o e = derive-coef s r gs o (has-slope h e) (p ⊖ one64) (less-finite p (has-whole h n)) ∙ ap total_at (slopes-own h gs.good n e)

-- ---- integrals

later-none : (f : Found) → later f absent ≡ f
later-none absent = refl
later-none (at c) = refl

later-three : (a b c : Found) → later a (later b c) ≡ later (later a b) c
later-three absent b c = refl
later-three (at d) b c = refl

later-absent : (a b : Found) → later a b ≡ absent → (a ≡ absent) × (b ≡ absent)
later-absent absent b h = (refl, h)
later-absent (at c) b h = never-absent h

-- r is s with l q stored at x to the q, for each finite q, and n at the logarithm
record Stored (s r : Sum) (l : Float → Found) (n : Found) : Type 0 where
  good : Good 4 r
  coef : (q : Float) → T (finite q) → coef_at q r ≡ later (l q) (coef_at q s)
  log : lookup log_key x r ≡ later n (lookup log_key x s)

euler-finite : T (finite euler)
unfolding of_bits
euler-finite = tt

key-log : (c : Complex) → Key (entry kinds.Log 1 euler c) x
key-log c = record { num = euler-finite; inside = good-finite 4 x x-is-good.good }

x-below-log : (q : Float) (c : Complex) → cmp_term (x_key q) none (entry kinds.Log 1 euler c) x ≡ Equal → ⊥
x-below-log q c h = let w : Less ≡ Equal = h in let z : ◌≡◌ {A = ℕ} 0 1 = cc in omega arith

log-above-x : (p : Float) (c : Complex) → cmp_term log_key x (entry kinds.X 0 p c) none ≡ Equal → ⊥
log-above-x p c h = let w : Greater ≡ Equal = h in let z : ◌≡◌ {A = ℕ} 0 1 = cc in omega arith

-- keys of x are Equal where the powers are equal
x-same : (p q : Float) (c : Complex) → T (finite p) → T (finite q)
    → (cmp_term (x_key q) none (entry kinds.X 0 p c) none ≡ Equal → eq p q ≡ true) × (eq p q ≡ true → cmp_term (x_key q) none (entry kinds.X 0 p c) none ≡ Equal)
unfolding same_sum
x-same p q c fp fq =
    let w = alone-same (x_key q) (entry kinds.X 0 p c) fq fp in
    (λ e. eq-symmetric p q ∙ (and_both (eq q p) true (w.0 e)).0, λ e. w.1 (sym (and-id (eq q p)) ∙ eq-symmetric q p ∙ e))

-- a power of x stored
stored-x : (p : Float) (c : Complex) (s r : Sum) → T (fits binary64 p) → Fits c → Good 4 s → formed Store (entry kinds.X 0 p c) none s ≡ sum r → Stored s r (λ q. cond (eq p q) (at c) absent) absent
stored-x p c s r fp fc g h = record { good = good; coef = coef; log = rw f.is (lookup-other Store y none log_key x s kp (key-log complex.zero) (good-finite 4 s g) (log-above-x p c)) }
  where
    y : Entry
    y = entry kinds.X 0 p c

    good : Good 4 r
    good = (good-formed Store y none s r (x-head 0 p c fp fc) none-good g h).good

    f : Formed Store y none s r
    f = formed-sum Store y none s r h

    kp : Key y none
    kp = key-x 0 p c (T_of f.num)

    put : (q : Float) → T (finite q) → lookup (x_key q) none r ≡ by_order (cmp_term (x_key q) none y none) (lookup (x_key q) none s) (at c) (lookup (x_key q) none s)
    put q fq = rw f.is (put-found Store y none (x_key q) none s kp (key-x 0 q complex.zero fq) (good-finite 4 s g) (rw f.is at (good-finite 4 r good)))

    same : (q : Float) → T (finite q) → (cmp_term (x_key q) none y none ≡ Equal → eq p q ≡ true) × (eq p q ≡ true → cmp_term (x_key q) none y none ≡ Equal)
    same q fq = x-same p q c (T_of f.num) fq

    at-q : (q : Float) → T (finite q) → (v : Found) (b : Bool) (o : Ordering) → eq p q ≡ b → cmp_term (x_key q) none y none ≡ o → by_order o v (at c) v ≡ later (cond b (at c) absent) v
    at-q q fq v true o e h = rw (sym h ∙ (same q fq).1 e)
    at-q q fq v false Less e h = refl
    at-q q fq v false Equal e h = differ (sym ((same q fq).0 h) ∙ e)
    at-q q fq v false Greater e h = refl

    coef : (q : Float) → T (finite q) → coef_at q r ≡ later (cond (eq p q) (at c) absent) (coef_at q s)
    coef q fq = rw (coef-found 3 q s fq g) (coef-found 3 q r fq good ∙ put q fq ∙ at-q q fq (lookup (x_key q) none s) (eq p q) (cmp_term (x_key q) none y none) refl refl)

-- the natural logarithm of x stored
stored-log : (c : Complex) (s r : Sum) → Fits c → Good 4 s → stored kinds.Log euler c s ≡ sum r → Stored s r (λ q. absent) (at c)
stored-log c s r fc g h = record { good = good; coef = coef; log = log }
  where
    y : Entry
    y = entry kinds.Log 1 euler c

    good : Good 4 r
    good = (good-formed Store y x s r (log-head-good c fc) x-is-good.good g h).good

    f : Formed Store y x s r
    f = formed-sum Store y x s r h

    coef : (q : Float) → T (finite q) → coef_at q r ≡ coef_at q s
    coef q fq = rw (coef-found 3 q s fq g, coef-found 3 q r fq good, f.is) (lookup-other Store y x (x_key q) none s (key-log c) (key-x 0 q complex.zero fq) (good-finite 4 s g) (x-below-log q c))

    equal : cmp_term log_key x y x ≡ Equal
    equal = term-self log_key x

    by_equal : (o : Ordering) (v : Found) → o ≡ Equal → by_order o v (at c) v ≡ at c
    by_equal o v e = rw e

    log : lookup log_key x r ≡ at c
    log =
        rw f.is
        (put-found Store y x log_key x s (key-log c) (key-log complex.zero) (good-finite 4 s g) (rw f.is at (good-finite 4 r good))
        ∙ by_equal (cmp_term log_key x y x) (lookup log_key x s) equal)

module _ (k n : ℕ) (p : Float) (c : Complex) where
  x-stored : (s u : Sum) → Fits c → Good 4 s → integrate_x (entry k n p c) s ≡ sum u → Stored s u (λ q. divided_at q p c) (cond (eq (p ⊕ one64) zero64) (at c) absent)
  x-stored s u fc g h = go (eq (p ⊕ one64) zero64) h
    where
      go : (b : Bool) → cond b (stored kinds.Log euler c s) (formed Store (entry kinds.X 0 (p ⊕ one64) (complex.over_real c (p ⊕ one64))) none s) ≡ sum u
          → Stored s u (λ q. cond b absent (cond (eq (p ⊕ one64) q) (at (complex.over_real c (p ⊕ one64))) absent)) (cond b (at c) absent)
      go true h = stored-log c s u fc g h
      go false h = stored-x (p ⊕ one64) (complex.over_real c (p ⊕ one64)) s u (add-fits binary64 p one64) (fits-over_real c (p ⊕ one64)) g h

stored-then : {s u r : Sum} {l m : Float → Found} {a b : Found} → Stored s u l a → Stored u r m b → Stored s r (λ q. later (m q) (l q)) (later b a)
stored-then {s} {l = l} {m = m} {a = a} {b = b} v w = record {
  good = w.good;
  coef = λ q f. w.coef q f ∙ ap (later (m q)) (v.coef q f) ∙ later-three (m q) (l q) (coef_at q s);
  log = w.log ∙ ap (later b) v.log ∙ later-three b a (lookup log_key x s);
}

-- any term
term-stored : (l : ℕ) (v : Float) (j : Sum) (d : Complex) (s u : Sum) → GoodEntry l v j d → Good 4 s → integrate_into (entry l (size j) v d) j s ≡ sum u
    → Stored s u (λ q. cond (eqb l kinds.X) (divided_at q v d) absent) (cond (eqb l kinds.X && eq (v ⊕ one64) zero64) (at d) absent)
term-stored l v j d s u e g h = go (eqb l kinds.X) refl
  where
    go : (b : Bool) → eqb l kinds.X ≡ b → Stored s u (λ q. cond b (divided_at q v d) absent) (cond (b && eq (v ⊕ one64) zero64) (at d) absent)
    go true z = x-stored l (size j) v d s u (good-head l (size j) v j d e).coef g (sym (integrate-is-x l (size j) v d j s z) ∙ h)
    go false z =
        let w = integrate-turned l v j d s u e z h in
        record { good = (good-turned g w).good; coef = turned-coef g w; log = turned-found g w log_key x (key-log complex.zero) refl }

each-stored : (t s r : Sum) → Good 4 t → Good 4 s → each_into integrate_into s t ≡ sum r → Stored s r (λ q. last_at q t) (last_log t)
unfolding each_into last_at last_log Good
each-stored none s r gt g h = subst (λ (u : Sum). Stored s u (λ q. absent) absent) (sum_is h) (record { good = g; coef = λ q f. refl; log = refl })
each-stored (and l v j d t) s r gt g h =
    let w = then-sum (integrate_into (entry l (size j) v d) j s) (λ u. each_into integrate_into u t) r h in
    let y = term-stored l v j d s w.0 gt.0 g w.1 in
    stored-then y (each-stored t w.0 r gt.3 y.good w.2)

module _ (s r : Sum) (gs : GoodSum s) (h : integrate s ≡ sum r) where
  whole-stored : Stored none r (λ q. last_at q s) (last_log s)
  unfolding integrate
  whole-stored = each-stored s none r gs.good none-good h

  -- the coefficient at each power is that of the last power of x for it, divided
  pub integrate-coef : (q : Float) → T (finite q) → coef_at q r ≡ last_at q s
  unfolding coef_at
  integrate-coef q f = whole-stored.coef q f ∙ later-none (last_at q s)

  -- that of the natural logarithm of x is the coefficient of the last power of x for it
  pub integrate-log : lookup log_key x r ≡ last_log s
  unfolding lookup
  integrate-log = whole-stored.log ∙ later-none (last_log s)

x-stored-powers : (k n : ℕ) (p : Float) (c : Complex) (s u : Sum) → cond (eq (p ⊕ one64) zero64) (at c) absent ≡ absent → PowerSum s
    → integrate_x (entry k n p c) s ≡ sum u → PowerSum u
x-stored-powers k n p c s u z w h = go (eq (p ⊕ one64) zero64) z h
  where
    y : Entry
    y = entry kinds.X 0 (p ⊕ one64) (complex.over_real c (p ⊕ one64))

    go : (b : Bool) → cond b (at c) absent ≡ absent → cond b (stored kinds.Log euler c s) (formed Store y none s) ≡ sum u → PowerSum u
    go true z h = never-absent z
    go false z h = rw (formed-sum Store y none s u h).is (put-powers Store y none s refl w)

each-stored-powers : (t s r : Sum) → PowerSum t → last_log t ≡ absent → PowerSum s → each_into integrate_into s t ≡ sum r → PowerSum r
unfolding each_into PowerSum last_log
each-stored-powers none s r p z q h = subst PowerSum (sum_is h) q
each-stored-powers (and l v j d t) s r p z q h =
    let w = then-sum (integrate_into (entry l (size j) v d) j s) (λ u. each_into integrate_into u t) r h in
    let e = eq-eqb l kinds.X p.0 in
    let a = later-absent (last_log t) (cond (eq (v ⊕ one64) zero64) (at d) absent) (rw e at z) in
    each-stored-powers t w.0 r p.1 a.0 (x-stored-powers l (size j) v d s w.0 a.1 q (sym (integrate-is-x l (size j) v d j s e) ∙ w.1)) w.2

-- the integral of a sum of powers of which none is for the logarithm is a sum of powers
pub integrate-powers : (s r : Sum) → PowerSum s → last_log s ≡ absent → integrate s ≡ sum r → PowerSum r
unfolding integrate PowerSum
integrate-powers s r p z h = each-stored-powers s none r p z tt h

-- ---- whole powers don't run together

no_last : (q : Float) (r : Sum) → Misses (λ v. v ⊕ one64) q r → last_at q r ≡ absent
unfolding Misses last_at
no_last q none h = refl
no_last q (and k p i c r) h = rw (no_last q r h.1) (go (eqb k kinds.X) refl)
  where
    divided : (a b : Bool) → b ≡ false → cond a absent (cond b (at (complex.over_real c (p ⊕ one64))) absent) ≡ absent
    divided true b e = refl
    divided false b e = rw e

    go : (b : Bool) → eqb k kinds.X ≡ b → cond b (divided_at q p c) absent ≡ absent
    go true e = divided (eq (p ⊕ one64) zero64) (eq (p ⊕ one64) q) (h.0 (eqb-true k kinds.X e))
    go false e = refl

no-log : (r : Sum) → Misses (λ v. v ⊕ one64) zero64 r → last_log r ≡ absent
unfolding Misses last_log
no-log none h = refl
no-log (and k p i c r) h = rw (no-log r h.1) (go (eqb k kinds.X) refl)
  where
    go : (b : Bool) → eqb k kinds.X ≡ b → cond (b && eq (p ⊕ one64) zero64) (at c) absent ≡ absent
    go true e = rw (h.0 (eqb-true k kinds.X e))
    go false e = refl

module _ (p : Float) (i : Sum) (c : Complex) where
  -- nothing more comes to where the first power of x comes
  rest_up : (r : Sum) (q : Float) → Good 4 (and kinds.X p i c r) → WholePowers NearUp (and kinds.X p i c r) → T (finite q) → eq (p ⊕ one64) q ≡ true
      → Misses (λ v. v ⊕ one64) q r
  unfolding WholePowers
  rest_up r q g n f e = rest-misses (λ v. v ⊕ one64) NearUp more-finite more-apart p q (n.0 refl) f e r n.1 (first-gone kinds.X p i c r refl g)

  -- each power of x is the last, and the only one, at one more than its power
  pub last-own : {s : Sum} → Has kinds.X p i c s → Good 4 s → WholePowers NearUp s → eq (p ⊕ one64) zero64 ≡ false → last_at (p ⊕ one64) s ≡ at (complex.over_real c (p ⊕ one64))
  unfolding WholePowers last_at Good
  last-own (here {r = r}) g n e =
      let f = more-finite p (n.0 refl) in
      let o = eq_self (p ⊕ one64) f in
      rw (no_last (p ⊕ one64) r (rest_up r (p ⊕ one64) g n f o), e, o)
  last-own (there h) g n e = rw (last-own h g.3 n.1 e)

  -- or at the logarithm
  pub log-own : {s : Sum} → Has kinds.X p i c s → Good 4 s → WholePowers NearUp s → eq (p ⊕ one64) zero64 ≡ true → last_log s ≡ at c
  unfolding WholePowers last_log Good of_bits
  log-own (here {r = r}) g n e = rw (no-log r (rest_up r zero64 g n tt e), e)
  log-own (there h) g n e = rw (log-own h g.3 n.1 e)

  module _ {s r : Sum} (h : Has kinds.X p i c s) (gs : GoodSum s) (n : WholePowers NearUp s) (o : integrate s ≡ sum r) where
    -- so the integral has it there, divided
    pub integrate-term : eq (p ⊕ one64) zero64 ≡ false → coef_at (p ⊕ one64) r ≡ at (complex.over_real c (p ⊕ one64))
    integrate-term e = integrate-coef s r gs o (p ⊕ one64) (more-finite p (has-whole p i c h n)) ∙ last-own h gs.good n e

    -- or at the logarithm, as it was
    pub integrate-log-term : eq (p ⊕ one64) zero64 ≡ true → lookup log_key x r ≡ at c
    integrate-log-term e = integrate-log s r gs o ∙ log-own h gs.good n e

-- ---- sums of powers are never TooComplex

x-derive-fine : (k n : ℕ) (p : Float) (c : Complex) (s : Sum) → Expressible (derive_x (entry k n p c) s)
x-derive-fine k n p c s h = go (vanishes p c) h
  where
    go : (b : Bool) → Expressible (cond b (sum s) (formed Add (entry kinds.X 0 (p ⊖ one64) (slope p c)) none s))
    go true h = never (sym h)
    go false h = formed-fine Add (entry kinds.X 0 (p ⊖ one64) (slope p c)) none s h

each-derive-fine : (t s : Sum) → PowerSum t → Expressible (each_into derive_into s t)
unfolding each_into PowerSum
each-derive-fine none s p h = never (sym h)
each-derive-fine (and l v j d t) s p h =
    then-fine (derive_into (entry l (size j) v d) j s) (λ u. each_into derive_into u t) (λ o. x-derive-fine l (size j) v d s (sym (derive-is-x l (size j) v d j s (eq-eqb l kinds.X p.0)) ∙ o))
    (λ u. each-derive-fine t u p.1) h

zero-fine : (u : Sum) → Expressible (or_zero u)
zero-fine none h = never (sym h)
zero-fine (and k p i c r) h = never (sym h)

-- the derivative
pub derive-fine : (s : Sum) → PowerSum s → Expressible (derive s)
unfolding derive
derive-fine s p h = then-fine (each_into derive_into none s) or_zero (each-derive-fine s none p) zero-fine h

x-integrate-fine : (k n : ℕ) (p : Float) (c : Complex) (s : Sum) → Expressible (integrate_x (entry k n p c) s)
x-integrate-fine k n p c s h = go (eq (p ⊕ one64) zero64) h
  where
    go : (b : Bool) → Expressible (cond b (stored kinds.Log euler c s) (formed Store (entry kinds.X 0 (p ⊕ one64) (complex.over_real c (p ⊕ one64))) none s))
    go true h = formed-fine Store (entry kinds.Log 1 euler c) x s h
    go false h = formed-fine Store (entry kinds.X 0 (p ⊕ one64) (complex.over_real c (p ⊕ one64))) none s h

each-integrate-fine : (t s : Sum) → PowerSum t → Expressible (each_into integrate_into s t)
unfolding each_into PowerSum
each-integrate-fine none s p h = never (sym h)
each-integrate-fine (and l v j d t) s p h =
    then-fine (integrate_into (entry l (size j) v d) j s) (λ u. each_into integrate_into u t)
    (λ o. x-integrate-fine l (size j) v d s (sym (integrate-is-x l (size j) v d j s (eq-eqb l kinds.X p.0)) ∙ o))
    (λ u. each-integrate-fine t u p.1) h

-- and the integral
pub integrate-fine : (s : Sum) → PowerSum s → Expressible (integrate s)
unfolding integrate
integrate-fine s p h = each-integrate-fine s none p h
