-- Looking up: after a term is put in, in a good sum, and in two good sums where each key finds the same. Assumes nothing.
use Prim.Native.Nat.{ℕ, suc}
use native.Mathlib.Omega.{arith}
use mathlib.Core.Path.{◌≡◌, refl, sym, ap, ◌∙◌}
use lib.Ieee.{Float}
use Rattle.std.specs.declared.cmp.Ordering.{Ordering}
use Rattle.std.specs.declared.cmp.Ordering.TheVariants.{Less, Equal, Greater}
use Rattle.numbers.specs.Order.{flipped}
use Rattle.numbers.proofs.Order.{Chain}
use Rattle.numbers.specs.declared.complex.Complex.{Complex}
use Rattle.numbers.specs.Complex.Arith as complex
use Rattle.cells.specs.declared.Entry.{Entry}
use Rattle.sums.specs.declared.tree.Merge.{Merge}
use Rattle.sums.specs.Tree.Sums.{Sum, none, and, size, len, entry}
use Rattle.sums.specs.Tree.Order.{cmp_term}
use Rattle.sums.specs.Tree.Good.{GoodEntry, Before, Good}
use Rattle.sums.specs.Tree.Map.{by_order, merged, coef_in, put_in, Found, at, absent, lookup, Has, here, there}
use Rattle.sums.proofs.tree.Keeps.{put_by}
use Rattle.sums.proofs.tree.Order.{Finite, Key, good-finite, good-key, term-self, term-flip, term-chain, greater-less}

-- ---- the term put in

-- the key that was put in is there, with the coefficient that it then has
pub lookup-put : (m : Merge) (x : Entry) (t s : Sum) → lookup x t (put_in m x t s) ≡ at (coef_in m x t s)
unfolding lookup put_in coef_in
lookup-put m x t none = rw (term-self x t)
lookup-put m x t (and l q j d r) = go (cmp_term x t (entry l (size j) q d) j) refl (lookup-put m x t r)
  where
    go : (o : Ordering) → cmp_term x t (entry l (size j) q d) j ≡ o → lookup x t (put_in m x t r) ≡ at (coef_in m x t r)
        → lookup x t (put_by m x t l q j d r o)
        ≡ at (by_order o (merged m complex.zero x.coef) (merged m d x.coef) (coef_in m x t r))
    go Less e ih = rw (term-self x t)
    go Equal e ih = rw e
    go Greater e ih = rw e ih

-- the coefficient found, or +0
abbrev pub or_zero : Found → Complex
or_zero (at c) = c
or_zero absent = complex.zero

-- the coefficient that a key then has comes of the one that was found
pub coef-lookup : (m : Merge) (x : Entry) (t s : Sum) → coef_in m x t s ≡ merged m (or_zero (lookup x t s)) x.coef
unfolding coef_in lookup
coef-lookup m x t none = refl
coef-lookup m x t (and l q j d r) = go (cmp_term x t (entry l (size j) q d) j) (coef-lookup m x t r)
  where
    go : (o : Ordering) → coef_in m x t r ≡ merged m (or_zero (lookup x t r)) x.coef
        → by_order o (merged m complex.zero x.coef) (merged m d x.coef) (coef_in m x t r) ≡ merged m (or_zero (by_order o absent (at d) (lookup x t r))) x.coef
    go Less ih = refl
    go Equal ih = refl
    go Greater ih = ih

-- ---- any other key

-- the first term of a sum of finite numbers has finite numbers
first_key : (l n : ℕ) (q : Float) (j : Sum) (d : Complex) (r : Sum) → Finite (and l q j d r) → Key (entry l n q d) j
unfolding Finite
first_key l n q j d r f = record { num = f.0; inside = f.1 }

-- keys that are Equal find the same
pub lookup-equal : (x : Entry) (t : Sum) (y : Entry) (u s : Sum) → Key x t → Key y u → Finite s → cmp_term x t y u ≡ Equal → lookup x t s ≡ lookup y u s
unfolding lookup Finite
lookup-equal x t y u none k h f e = refl
lookup-equal x t y u (and l q j d r) k h f e =
    rw ((term-chain x t y u (entry l (size j) q d) j k h (first_key l (size j) q j d r f)).left e, lookup-equal x t y u r k h f.3 e)

-- an order that isn't Equal
unequal : {A : Type 0} (o : Ordering) (a b c z : A) → (o ≡ Equal → ⊥) → (o ≡ Less → a ≡ z) → (o ≡ Greater → c ≡ z) → by_order o a b c ≡ z
unequal Less a b c z n f g = f refl
unequal Equal a b c z n f g = absurd (n refl)
unequal Greater a b c z n f g = g refl

-- the other keys find what they found
pub lookup-other : (m : Merge) (x : Entry) (t : Sum) (y : Entry) (u s : Sum) → Key x t → Key y u → Finite s → (cmp_term y u x t ≡ Equal → ⊥) → lookup y u (put_in m x t s) ≡ lookup y u s
unfolding lookup put_in Finite
lookup-other m x t y u none k h f n = unequal (cmp_term y u x t) absent (at (merged m complex.zero x.coef)) absent absent n (λ e. refl) (λ e. refl)
lookup-other m x t y u (and l q j d r) k h f n = go (cmp_term x t (entry l (size j) q d) j) refl (lookup-other m x t y u r k h f.3 n)
  where
    w : Ordering
    w = cmp_term y u (entry l (size j) q d) j

    v : Key (entry l (size j) q d) j
    v = first_key l (size j) q j d r f

    go : (o : Ordering) → cmp_term x t (entry l (size j) q d) j ≡ o → lookup y u (put_in m x t r) ≡ lookup y u r
        → lookup y u (put_by m x t l q j d r o)
        ≡ by_order w absent (at d) (lookup y u r)
    go Less e ih = unequal (cmp_term y u x t) _ _ _ _ n (λ p. rw ((term-chain y u x t (entry l (size j) q d) j h k v).less p e)) (λ p. refl)
    go Equal e ih =
        unequal w _ _ _ _ (λ p. n ((term-chain y u (entry l (size j) q d) j x t h v k).left p ∙ term-flip x t (entry l (size j) q d) j ∙ ap flipped e))
        (λ p. rw p) (λ p. rw p)
    go Greater e ih = ap (by_order w absent (at d)) ih

-- ---- the keys of a good sum

-- x isn't after y, and y is before z: so x is before z
not_after : {a b c : Ordering} → Chain a b c → (a ≡ Greater → ⊥) → b ≡ Less → c ≡ Less
not_after {a} {b} {c} k n e = go a k n
  where
    go : (a : Ordering) → Chain a b c → (a ≡ Greater → ⊥) → c ≡ Less
    go Less k n = k.less refl e
    go Equal k n = k.left refl ∙ e
    go Greater k n = absurd (n refl)

-- what isn't after a term that comes before a sum isn't in the sum
pub lookup-before : (x : Entry) (t : Sum) (y : Entry) (i s : Sum) → Key x t → Key y i → Finite s → Before y.kind y.num i s → (cmp_term x t y i ≡ Greater → ⊥) → lookup x t s ≡ absent
unfolding lookup
lookup-before x t y i none f g h b n = refl
lookup-before x t y i (and l q j d r) f g h b n = rw (not_after (term-chain x t y i (entry l (size j) q d) j f g (first_key l (size j) q j d r h)) n b)

-- the first key finds the first coefficient
lookup_first : (k : ℕ) (p : Float) (i : Sum) (c : Complex) (r : Sum) → lookup (entry k (size i) p c) i (and k p i c r) ≡ at c
unfolding lookup
lookup_first k p i c r = rw (term-self (entry k (size i) p c) i)

module _ (left k : ℕ) (p : Float) (i : Sum) (c : Complex) where
  -- an entry of a good sum is good
  pub has-good : {s : Sum} → Has k p i c s → Good (suc left) s → GoodEntry k p i c × Good left i
  unfolding Good
  has-good here g = (g.0, g.1)
  has-good (there h) g = has-good h g.3

  -- its term has finite numbers
  has_key : {s : Sum} → Has k p i c s → Good (suc left) s → Key (entry k (size i) p c) i
  has_key h g = let e = has-good h g in good-key left k (size i) p i c e.0 e.1

  -- what comes before the first comes before each
  has-after : {s : Sum} (x : Entry) (t : Sum) → Key x t → Has k p i c s → Good (suc left) s → Before x.kind x.num t s → cmp_term x t (entry k (size i) p c) i ≡ Less
  unfolding Good
  has-after x t f here g b = b
  has-after x t f (there {l = l} {q = q} {j = j} {d = d} h) g b =
      let y = good-key left l (size j) q j d g.0 g.1 in
      (term-chain x t (entry l (size j) q d) j (entry k (size i) p c) i f y (has_key h g.3)).less b
      (has-after (entry l (size j) q d) j y h g.3 g.2)

  -- an entry's own key finds its coefficient
  pub lookup-own : {s : Sum} → Has k p i c s → Good (suc left) s → lookup (entry k (size i) p c) i s ≡ at c
  unfolding lookup Good
  lookup-own (here {r = r}) g = lookup_first k p i c r
  lookup-own (there {l = l} {q = q} {j = j} {d = d} h) g =
      let y = good-key left l (size j) q j d g.0 g.1 in
      rw (term-flip (entry l (size j) q d) j (entry k (size i) p c) i, has-after (entry l (size j) q d) j y h g.3 g.2) (lookup-own h g.3)

-- ---- two sums where each key finds the same

-- as many terms, pairwise Equal, with the same coefficients
unfoldable pub Match : Sum → Sum → Type 0
Match none none = Unit {0}
Match none (and l q j d t) = ⊥
Match (and k p i c s) none = ⊥
Match (and k p i c s) (and l q j d t) = (cmp_term (entry k (size i) p c) i (entry l (size j) q d) j ≡ Equal) × (c ≡ d) × Match s t

-- sums that match have as many outermost entries
pub match-len : (s t : Sum) → Match s t → len s ≡ len t
unfolding Match len
match-len none none h = refl
match-len none (and l q j d t) h = absurd h
match-len (and k p i c s) none h = absurd h
match-len (and k p i c s) (and l q j d t) h = ap suc (match-len s t h.2)

-- sums that match have the same lookups
pub match-lookup : (x : Entry) (u s t : Sum) → Key x u → Finite s → Finite t → Match s t → lookup x u s ≡ lookup x u t
unfolding Match lookup Finite
match-lookup x u none none k f g h = refl
match-lookup x u none (and l q j d t) k f g h = absurd h
match-lookup x u (and n p i c s) none k f g h = absurd h
match-lookup x u (and n p i c s) (and l q j d t) k f g h =
    rw (
      ← ((term-chain x u (entry n (size i) p c) i (entry l (size j) q d) j k (first_key n (size i) p i c s f) (first_key l (size j) q j d t g)).right h.0),
      match-lookup x u s t k f.3
          g.3 h.2,
      h.1,
    )

-- Less isn't Greater
not-less : Less ≡ Greater → ⊥
not-less h = let z : ◌≡◌ {A = ℕ} 0 1 = cc in omega arith

-- Equal isn't Greater
not_equal : Equal ≡ Greater → ⊥
not_equal h = let z : ◌≡◌ {A = ℕ} 0 1 = cc in omega arith

-- what is found isn't absent
never : {d : Complex} → absent ≡ at d → ⊥
never h = let z : ◌≡◌ {A = ℕ} 0 1 = cc in omega arith

-- one coefficient is found
at-is : {c d : Complex} → at c ≡ at d → c ≡ d
at-is h = cc

-- and good sums that have the same lookups match
pub lookup-match : (left : ℕ) (s t : Sum) → Good (suc left) s → Good (suc left) t
    → ((x : Entry) (u : Sum) → GoodEntry x.kind x.num u x.coef → Good left u → lookup x u s ≡ lookup x u t) → Match s t
unfolding Match Good lookup
lookup-match left none none f g h = tt
lookup-match left none (and l q j d t) f g h = absurd (never (h (entry l (size j) q d) j g.0 g.1 ∙ lookup_first l q j d t))
lookup-match left (and k p i c s) none f g h = absurd (never (sym (h (entry k (size i) p c) i f.0 f.1) ∙ lookup_first k p i c s))
lookup-match left (and k p i c s) (and l q j d t) f g h = go (cmp_term x i y j) refl (lookup-match left s t f.3 g.3)
  where
    x : Entry
    x = entry k (size i) p c

    y : Entry
    y = entry l (size j) q d

    kx : Key x i
    kx = good-key left k (size i) p i c f.0 f.1

    ky : Key y j
    ky = good-key left l (size j) q j d g.0 g.1

    own_x : at c ≡ lookup x i (and l q j d t)
    own_x = sym (lookup_first k p i c s) ∙ h x i f.0 f.1

    own-y : lookup y j (and k p i c s) ≡ at d
    own-y = h y j g.0 g.1 ∙ lookup_first l q j d t

    absent-both : (z : Entry) (u : Sum) → Key z u → (cmp_term z u x i ≡ Greater → ⊥) → (cmp_term z u y j ≡ Greater → ⊥) → lookup z u s ≡ lookup z u t
    absent-both z u kz a b = lookup-before z u x i s kz kx (good-finite (suc left) s f.3) f.2 a ∙ sym (lookup-before z u y j t kz ky (good-finite (suc left) t g.3) g.2 b)

    rest : (z : Entry) (u : Sum) → Key z u → (a : Ordering) → cmp_term z u x i ≡ a → cmp_term z u y j ≡ a → by_order a absent (at c) (lookup z u s) ≡ by_order a absent (at d) (lookup z u t)
        → lookup z u s ≡ lookup z u t
    rest z u kz Less a b w = absent-both z u kz (λ n. not-less (sym a ∙ n)) (λ n. not-less (sym b ∙ n))
    rest z u kz Equal a b w = absent-both z u kz (λ n. not_equal (sym a ∙ n)) (λ n. not_equal (sym b ∙ n))
    rest z u kz Greater a b w = w

    rests : cmp_term x i y j ≡ Equal → (z : Entry) (u : Sum) → GoodEntry z.kind z.num u z.coef → Good left u → lookup z u s ≡ lookup z u t
    rests e z u gz gu =
        let kz = good-key left z.kind z.inside z.num u z.coef gz gu in
        let b = (term-chain z u x i y j kz kx ky).right e in
        rest z u kz (cmp_term z u x i) refl b (rw b at (h z u gz gu))

    go : (o : Ordering) → cmp_term x i y j ≡ o
        → (((z : Entry) (u : Sum) → GoodEntry z.kind z.num u z.coef → Good left u → lookup z u s ≡ lookup z u t) → Match s t)
        → (cmp_term x i y j ≡ Equal) × (c ≡ d) × Match s t
    go Less e ih = absurd (never (sym (rw e at own_x)))
    go Equal e ih = (e, at-is (rw e at own_x), ih (rests e))
    go Greater e ih = absurd (never (rw (greater-less x i y j e) at own-y))
