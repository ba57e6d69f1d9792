-- Putting a term in keeps a good sum good; how many entries there then are; levels; and a step for each entry of a sum. Assumes nothing.
use Prim.Native.Nat.{ℕ, zero, suc, ◌+◌, ◌≤◌}
use native.Mathlib.Omega.{arith}
use mathlib.Core.Path.{◌≡◌, refl, sym, ap, subst}
use mathlib.Core.Bool.{Bool, true, false}
use lib.Dec.{T, leb, eqb}
use lib.IntN.{pos}
use lib.Ieee.{Float, fin, binary64, fits}
use lib.Ieee.Fits.{and_i, and_l, and_r, add-fits, sub-fits}
use lib.Ieee.Scale.{finite}
use borrow.Author.Tests.{leb-true}
use Rattle.std.specs.declared.cmp.Ordering.{Ordering}
use Rattle.std.specs.declared.cmp.Ordering.TheVariants.{Less, Equal, Greater}
use Rattle.numbers.proofs.Bools.{T_of}
use Rattle.numbers.specs.declared.complex.Complex.{Complex}
use Rattle.numbers.specs.Complex.Arith as complex
use Rattle.cells.specs.declared.Entry.{Entry}
use Rattle.sums.specs.declared.tree.Merge.{Merge}
use Rattle.sums.specs.declared.tree.Merge.TheVariants.{Add, Take, Store}
use Rattle.limits.specs.declared.Refusal.{Refusal}
use Rattle.limits.specs.declared.Refusal.TheVariants.{NoRoom, TooDeep, NotFinite}
use Rattle.sums.specs.Tree.Kinds.{X, has_number}
use Rattle.sums.specs.Tree.Sums.{Sum, none, and, size, levels, entry}
use Rattle.sums.specs.Tree.Order.{cmp_term}
use Rattle.sums.specs.Tree.Good.{is_empty, GoodEntry, Before, Good}
use Rattle.sums.specs.Tree.Map.{by_order, merged, coef_in, put_in, Outcome, sum, refused, and_then_sum, unless, not_finite, formed, each_into, at, absent, lookup, Has, here, there}
use Rattle.sums.proofs.tree.Order.{greater-less}

-- ---- levels

-- a good sum has no more levels than it may have
pub good-levels : (left : ℕ) (s : Sum) → Good left s → levels s ≤ left
unfolding Good levels
good-levels left none h = omega arith
good-levels zero (and k p i c r) h = absurd h
good-levels (suc left) (and k p i c r) h = omega (arith, good-levels left i h.1, good-levels (suc left) r h.3)

-- a good sum is good wherever there are as many levels
pub good-within : (n left : ℕ) (s : Sum) → Good n s → levels s ≤ left → Good left s
unfolding Good levels
good-within n left none h l = tt
good-within zero left (and k p i c r) h l = absurd h
good-within (suc n) zero (and k p i c r) h l = absurd (omega arith)
good-within (suc n) (suc left) (and k p i c r) h l = (h.0, good-within n left i h.1 (omega arith), h.2, good-within (suc n) (suc left) r h.3 (omega arith))

-- a good sum is good with one more level
pub good_more : (left : ℕ) (s : Sum) → Good left s → Good (suc left) s
good_more left s h = good-within left (suc left) s h (omega (arith, good-levels left s h))

-- ---- the coefficient that a key then has is a number, where it is finite

-- both parts fit binary64
pub record Fits (c : Complex) : Type 0 where
  pub re : T (fits binary64 c.re)
  pub im : T (fits binary64 c.im)

-- a sum or a difference fits, and what is stored does where it did
merged-fits : (m : Merge) (a c : Complex) → Fits c → Fits (merged m a c)
merged-fits Add a c h = record { re = add-fits binary64 a.re c.re; im = add-fits binary64 a.im c.im }
merged-fits Take a c h = record { re = sub-fits binary64 a.re c.re; im = sub-fits binary64 a.im c.im }
merged-fits Store a c h = h

-- what holds of each of the three
by-order : {A : Type 0} (P : A → Type 0) (o : Ordering) (a b c : A) → P a → P b → P c → P (by_order o a b c)
by-order P Less a b c p q r = p
by-order P Equal a b c p q r = q
by-order P Greater a b c p q r = r

-- the coefficient that a key then has fits
pub coef-fits : (m : Merge) (x : Entry) (t s : Sum) → Fits x.coef → Fits (coef_in m x t s)
unfolding coef_in
coef-fits m x t none h = merged-fits m complex.zero x.coef h
coef-fits m x t (and l q j d r) h =
    by-order Fits (cmp_term x t (entry l (size j) q d) j) _ _ _ (merged-fits m complex.zero x.coef h) (merged-fits m d x.coef h) (coef-fits m x t r h)

-- a head that a good entry may have, but for its numbers being finite
pub record GoodHead (x : Entry) (t : Sum) : Type 0 where
  pub least : 1 ≤ x.kind
  pub most : x.kind ≤ 8
  pub number : T (fits binary64 x.num)
  pub none_else : has_number x.kind ≡ false → x.num ≡ fin false 0 (pos 0)
  pub coef : Fits x.coef
  pub inside : is_empty t ≡ eqb x.kind X

-- the entry that such a head then is, where its numbers are finite
finite-entry : (m : Merge) (x : Entry) (t s : Sum) → GoodHead x t → finite x.num ≡ true → complex.all_finite (coef_in m x t s) ≡ true → GoodEntry x.kind x.num t (coef_in m x t s)
finite-entry m x t s g n e =
    let f = coef-fits m x t s g.coef in
    let v = coef_in m x t s in
    let c = T_of e in
    record {
      least = g.least;
      most = g.most;
      number = and_i (finite x.num) (fits binary64 x.num) (T_of n) g.number;
      none_else = g.none_else;
      re = and_i (finite v.re) (fits binary64 v.re) (and_l (finite v.re) (finite v.im) c) f.re;
      im = and_i (finite v.im) (fits binary64 v.im) (and_r (finite v.re) (finite v.im) c) f.im;
      inside = g.inside;
    }

-- ---- a term put in keeps the sum good

-- the term put in, where o is its order to the first term of the sum
abbrev pub put_by : Merge → Entry → Sum → ℕ → Float → Sum → Complex → Sum → Ordering → Sum
put_by m x t l q j d r o =
    by_order o (and x.kind x.num t (merged m complex.zero x.coef) (and l q j d r)) (and l q j (merged m d x.coef) r) (and l q j d (put_in m x t r))

-- what came before the first still does
before-put : (m : Merge) (x : Entry) (t : Sum) (k : ℕ) (p : Float) (i s : Sum) → cmp_term (entry k (size i) p complex.zero) i x t ≡ Less → Before k p i s → Before k p i (put_in m x t s)
unfolding put_in
before-put m x t k p i none h b = h
before-put m x t k p i (and l q j d r) h b =
    by-order (Before k p i) (cmp_term x t (entry l (size j) q d) j) _ _ _ h b b

-- where the sum is good, the term's inside is, and so is the entry that it then is, the sum with the term is good
pub put-good : (left : ℕ) (m : Merge) (x : Entry) (t s : Sum) → Good (suc left) s → Good left t → GoodEntry x.kind x.num t (coef_in m x t s) → Good (suc left) (put_in m x t s)
unfolding put_in coef_in Good
put-good left m x t none h g e = (e, g, tt, tt)
put-good left m x t (and l q j d r) h g e = go (cmp_term x t (entry l (size j) q d) j) refl e (put-good left m x t r h.3 g)
  where
    go : (o : Ordering) → cmp_term x t (entry l (size j) q d) j ≡ o
        → GoodEntry x.kind x.num t (by_order o (merged m complex.zero x.coef) (merged m d x.coef) (coef_in m x t r))
        → (GoodEntry x.kind x.num t (coef_in m x t r) → Good (suc left) (put_in m x t r))
        → Good (suc left) (put_by m x t l q j d r o)
    go Less c e f = (e, g, c, h)
    go Equal c e f = (record { least = h.0.least; most = h.0.most; number = h.0.number; none_else = h.0.none_else; re = e.re; im = e.im; inside = h.0.inside }, h.1, h.2, h.3)
    go Greater c e f = (h.0, h.1, before-put m x t l q j r (greater-less x t (entry l (size j) q d) j c) h.2, f e)

-- finite is enough, where the head is one that a good entry may have
pub put-finite : (left : ℕ) (m : Merge) (x : Entry) (t s : Sum) → Good (suc left) s → Good left t → GoodHead x t → finite x.num ≡ true → complex.all_finite (coef_in m x t s) ≡ true
    → Good (suc left) (put_in m x t s)
put-finite left m x t s hs ht g n c = put-good left m x t s hs ht (finite-entry m x t s g n c)

-- ---- how many entries there then are

-- as many as before, where the key was there
pub size-there : (m : Merge) (x : Entry) (t s : Sum) (c : Complex) → lookup x t s ≡ at c → size (put_in m x t s) ≡ size s
unfolding put_in lookup size
size-there m x t none c h = cc
size-there m x t (and l q j d r) c h = go (cmp_term x t (entry l (size j) q d) j) h (size-there m x t r c)
  where
    go : (o : Ordering) → by_order o absent (at d) (lookup x t r) ≡ at c → (lookup x t r ≡ at c → size (put_in m x t r) ≡ size r)
        → size (put_by m x t l q j d r o) ≡ suc (size j + size r)
    go Less h f = cc
    go Equal h f = refl
    go Greater h f = omega (arith, f h)

-- the term's more, where it wasn't
pub size-new : (m : Merge) (x : Entry) (t s : Sum) → lookup x t s ≡ absent → size (put_in m x t s) ≡ size s + (1 + size t)
unfolding put_in lookup size
size-new m x t none h = omega arith
size-new m x t (and l q j d r) h = go (cmp_term x t (entry l (size j) q d) j) h (size-new m x t r)
  where
    go : (o : Ordering) → by_order o absent (at d) (lookup x t r) ≡ absent → (lookup x t r ≡ absent → size (put_in m x t r) ≡ size r + (1 + size t))
        → size (put_by m x t l q j d r o) ≡ suc (size j + size r) + (1 + size t)
    go Less h f = omega arith
    go Equal h f = cc
    go Greater h f = omega (arith, f h)

-- ---- an entry formed

-- what it tells that an entry was formed: the sum has the term put in, and every test passed
pub record Formed (m : Merge) (x : Entry) (t s s' : Sum) : Type 0 where
  pub is : s' ≡ put_in m x t s
  pub num : finite x.num ≡ true
  pub coef : complex.all_finite (coef_in m x t s) ≡ true
  pub deep : levels t ≤ 3
  pub room : size s' ≤ 64

-- a test that lets a sum through passed
unless-sum : (b : Bool) (r : Refusal) (o : Outcome) (s : Sum) → unless b r o ≡ sum s → (b ≡ true) × (o ≡ sum s)
unless-sum true r o s h = (refl, h)
unless-sum false r o s h = (cc, cc)

-- one sum is given, or one refusal, and never both
sum_is : {s s' : Sum} → sum s ≡ sum s' → s ≡ s'
sum_is h = cc

pub refused-is : {q r : Refusal} → refused q ≡ refused r → q ≡ r
refused-is h = cc

pub not-refused : {s : Sum} {q : Refusal} → sum s ≡ refused q → ⊥
not-refused h = let z : ◌≡◌ {A = ℕ} 0 1 = cc in omega arith

-- an entry was formed
pub formed-sum : (m : Merge) (x : Entry) (t s s' : Sum) → formed m x t s ≡ sum s' → Formed m x t s s'
unfolding formed
formed-sum m x t s s' h =
    let room : Outcome = unless (leb (size (put_in m x t s)) 64) NoRoom (sum (put_in m x t s)) in
    let deep : Outcome = unless (leb (levels t) 3) TooDeep room in
    let a = unless-sum (finite x.num) (not_finite x.kind) (unless (complex.all_finite (coef_in m x t s)) NotFinite deep) s' h in
    let b = unless-sum (complex.all_finite (coef_in m x t s)) NotFinite deep s' a.1 in
    let c = unless-sum (leb (levels t) 3) TooDeep room s' b.1 in
    let d = unless-sum (leb (size (put_in m x t s)) 64) NoRoom (sum (put_in m x t s)) s' c.1 in
    let e = sum_is d.1 in
    record { is = sym e; num = a.0; coef = b.0; deep = leb-true (levels t) 3 c.0; room = subst (λ (u : Sum). size u ≤ 64) e (leb-true (size (put_in m x t s)) 64 d.0) }

-- what holds of a refused test's refusal, and of those that may follow, holds of every refusal there is
unless-refused : (P : Refusal → Type 0) (b : Bool) (r : Refusal) (o : Outcome) → (b ≡ false → P r) → ((q : Refusal) → o ≡ refused q → P q) → (q : Refusal) → unless b r o ≡ refused q → P q
unless-refused P true r o p k q h = k q h
unless-refused P false r o p k q h = subst P (refused-is h) (p refl)

-- which refusals an entry formed can give: its number's, where that isn't finite, its coefficient's, its depth's and the room's
pub formed-refusal : (P : Refusal → Type 0) (m : Merge) (x : Entry) (t s : Sum) → (finite x.num ≡ false → P (not_finite x.kind)) → P NotFinite → P TooDeep → P NoRoom
    → (q : Refusal) → formed m x t s ≡ refused q → P q
unfolding formed
formed-refusal P m x t s number coef depth space =
    let room : Outcome = unless (leb (size (put_in m x t s)) 64) NoRoom (sum (put_in m x t s)) in
    let deep : Outcome = unless (leb (levels t) 3) TooDeep room in
    unless-refused P (finite x.num) (not_finite x.kind) (unless (complex.all_finite (coef_in m x t s)) NotFinite deep) number
    (unless-refused P (complex.all_finite (coef_in m x t s)) NotFinite deep (λ e. coef)
    (unless-refused P (leb (levels t) 3) TooDeep room (λ e. depth)
    (unless-refused P (leb (size (put_in m x t s)) 64) NoRoom (sum (put_in m x t s)) (λ e. space) (λ q h. absurd (not-refused h)))))

-- an entry formed in a good sum leaves a good sum
pub formed-good : (m : Merge) (x : Entry) (t s s' : Sum) → GoodHead x t → Good 4 t → Good 4 s → formed m x t s ≡ sum s' → Good 4 s'
formed-good m x t s s' g ht hs e =
    let f = formed-sum m x t s s' e in
    rw f.is (put-finite 3 m x t s hs (good-within 4 3 t ht f.deep) g f.num f.coef)

-- ---- each outermost entry in turn

module _ (f : Entry → Sum → Sum → Outcome) where
  -- nothing left
  pub each_none : (s : Sum) → each_into f s none ≡ sum s
  unfolding each_into
  each_none s = refl

  -- a step that gives a sum, and then the rest
  pub each-sum : (l : ℕ) (q : Float) (j : Sum) (d : Complex) (r s s' : Sum) → f (entry l (size j) q d) j s ≡ sum s' → each_into f s (and l q j d r) ≡ each_into f s' r
  unfolding each_into
  each-sum l q j d r s s' h = ap (λ (o : Outcome). and_then_sum o (λ (u : Sum). each_into f u r)) h

  -- a step that is refused
  pub each-refused : (l : ℕ) (q : Float) (j : Sum) (d : Complex) (r s : Sum) (e : Refusal) → f (entry l (size j) q d) j s ≡ refused e → each_into f s (and l q j d r) ≡ refused e
  unfolding each_into
  each-refused l q j d r s e h = ap (λ (o : Outcome). and_then_sum o (λ (u : Sum). each_into f u r)) h

  -- what each step keeps, for a good entry, the whole keeps, for a good sum
  pub each_keeps : (P : Sum → Type 0) (left : ℕ)
      → ((l : ℕ) (q : Float) (j : Sum) (d : Complex) (s s' : Sum) → GoodEntry l q j d → Good left j → P s → f (entry l (size j) q d) j s ≡ sum s' → P s')
      → (t s s' : Sum) → Good (suc left) t → P s → each_into f s t ≡ sum s' → P s'
  unfolding each_into Good
  each_keeps P left k none s s' g p h = subst P (sum_is h) p
  each_keeps P left k (and l q j d r) s s' g p h = go (f (entry l (size j) q d) j s) refl h (λ (u : Sum) (w : P u). each_keeps P left k r u s' g.3 w)
    where
      go : (o : Outcome) → f (entry l (size j) q d) j s ≡ o → and_then_sum o (λ (u : Sum). each_into f u r) ≡ sum s' → ((u : Sum) → P u → each_into f u r ≡ sum s' → P s') → P s'
      go (sum u) e h c = c u (k l q j d s u g.0 g.1 p e) h
      go (refused e) o h c = absurd (not-refused (sym h))

  -- what holds of the refusal of each entry's step, for the good entries that the sum has, holds of the whole's refusal
  pub each-refusal : (P : Refusal → Type 0) (left : ℕ) (t : Sum)
      → ((l : ℕ) (q : Float) (j : Sum) (d : Complex) (s : Sum) (r : Refusal) → Has l q j d t → GoodEntry l q j d → Good left j → f (entry l (size j) q d) j s ≡ refused r → P r)
      → (s : Sum) (r : Refusal) → Good (suc left) t → each_into f s t ≡ refused r → P r
  unfolding each_into Good
  each-refusal P left none k s r g h = absurd (not-refused h)
  each-refusal P left (and l q j d t) k s r g h =
      go (f (entry l (size j) q d) j s) refl h (λ (u : Sum). each-refusal P left t (λ l' q' j' d' s' r' has. k l' q' j' d' s' r' (there has)) u r g.3)
    where
      go : (o : Outcome) → f (entry l (size j) q d) j s ≡ o → and_then_sum o (λ (u : Sum). each_into f u t) ≡ refused r → ((u : Sum) → each_into f u t ≡ refused r → P r) → P r
      go (sum u) e h c = c u h
      go (refused e) o h c = subst P (refused-is h) (k l q j d s e here g.0 g.1 o)

-- a good entry's head
pub good-head : (l n : ℕ) (q : Float) (j : Sum) (d : Complex) → GoodEntry l q j d → GoodHead (entry l n q d) j
good-head l n q j d g =
    record {
      least = g.least;
      most = g.most;
      number = and_r (finite q) (fits binary64 q) g.number;
      none_else = g.none_else;
      coef = record { re = and_r (finite d.re) (fits binary64 d.re) g.re; im = and_r (finite d.im) (fits binary64 d.im) g.im };
      inside = g.inside;
    }

-- every entry of a good sum formed in a good sum of at most 64 entries leaves such a sum
pub each-formed : (m : Merge) (t s s' : Sum) → Good 4 t → Good 4 s → size s ≤ 64 → each_into (formed m) s t ≡ sum s' → Good 4 s' × (size s' ≤ 64)
each-formed m t s s' ht hs n h =
    each_keeps (formed m) (λ (u : Sum). Good 4 u × (size u ≤ 64)) 3
    (λ l q j d u u' e g p o. (
      formed-good m (entry l (size j) q d) j u u' (good-head l (size j) q j d e) (good_more 3 j g) p.0 o,
      (formed-sum m (entry l (size j) q d) j u u' o).room,
    ))
    t s s' ht (hs, n) h
