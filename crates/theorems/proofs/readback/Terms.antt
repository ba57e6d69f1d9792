-- The terms of a formula: what is known of each, and that their powers rise strictly. Assumes nothing.
use Prim.Native.Nat.{ℕ, zero, suc, ◌+◌}
use mathlib.Core.Path.{◌≡◌, refl, sym, ◌∙◌, subst}
use mathlib.Core.Bool.{Bool, true, false, ◌&&◌, cond, true≢false}
use mathlib.Core.List.{List, [], ◌∷◌, ◌++◌}
use lib.Dec.{T}
use lib.Ieee.{Float, lt}
use Rattle.numbers.specs.Signs.{Zero}
use Rattle.numbers.specs.Numbers.{is_whole}
use Rattle.numbers.specs.Order.{cmp_num, and_then}
use Rattle.std.specs.declared.cmp.Ordering.TheVariants.{Less, Equal}
use Rattle.numbers.proofs.Order.{cmp-less, then_equal}
use Rattle.numbers.proofs.Zeros.{zero_test}
use Rattle.numbers.specs.declared.complex.Complex.{Complex}
use Rattle.numbers.specs.Complex.Arith as complex
use Rattle.sums.specs.Tree.Kinds.{X}
use Rattle.sums.specs.Tree.Sums.{Sum, none, and, size, len, entry}
use Rattle.sums.specs.Tree.Good.{is_number, is_empty, Before, GoodEntry, Good}
use Rattle.sums.specs.Tree.Order.{cmp_each, cmp_term}
use Rattle.theorems.specs.Reals.{RealSum}
use Rattle.theorems.proofs.Speed.Rising.{is-none, TermKey, first_key, first_good, before-rest}
use Rattle.theorems.specs.Readback.Terms as specs
use Rattle.theorems.specs.Readback.Terms.{Term, terms, is_zero, PowerTerms, NoBigWhole, highest64}
use Rattle.theorems.proofs.readback.Pieces.{Fair}
use Rattle.theorems.proofs.readback.Came.{Over, Below, over-next}

-- what is known of a term
pub record Nice (t : Term) : Type 0 where
  pub number : T (is_number t.power)
  pub coef : Fair t.coef
  pub small : (is_whole t.power && lt highest64 t.power) ≡ false

-- the terms of a sum, entry by entry
pub data TermsListed : Sum → List Term → Type 0 where
  nothing : TermsListed none []
  zero-entry : {k : ℕ} {p : Float} {j : Sum} {c : Complex} {r : Sum} {ts : List Term} → is_zero c ≡ true → TermsListed r ts → TermsListed (and k p j c r) ts
  term-entry : {p : Float} {j : Sum} {c : Complex} {r : Sum} {ts : List Term} → is_zero c ≡ false → Nice (specs.term p c) → TermsListed r ts → TermsListed (and X p j c r) (specs.term p c ∷ ts)

fair : (k : ℕ) (p : Float) (i : Sum) (c : Complex) → GoodEntry k p i c → Zero c.im → is_zero c ≡ false → Fair c
fair k p i c g r n = record { re = g.re; im = g.im; real = r; some = λ z. absurd (true≢false (both z ∙ n)) }
  where
    both : Zero c.re → true ≡ is_zero c
    both z = rw ((zero_test c.re).1 z, (zero_test c.im).1 r)

pub listed : (left : ℕ) (s : Sum) → Good left s → RealSum s → PowerTerms s → NoBigWhole (terms s) → TermsListed s (terms s)
unfolding Good RealSum PowerTerms NoBigWhole terms
listed left none g r p b = nothing
listed zero (and k p i c s) g r w b = absurd g
listed (suc left) (and k p i c s) g r w b = go (is_zero c) refl b (λ n. listed (suc left) s g.3 r.2 w.1 n)
  where
    go : (z : Bool) → is_zero c ≡ z → NoBigWhole (cond z (terms s) (specs.term p c ∷ terms s)) → (NoBigWhole (terms s) → TermsListed s (terms s))
        → TermsListed (and k p i c s) (cond z (terms s) (specs.term p c ∷ terms s))
    go true e n f = zero-entry e (f n)
    go false e n f =
        subst (λ (l : ℕ). TermsListed (and l p i c s) (specs.term p c ∷ terms s)) (sym (w.0 e))
        (term-entry e (record { number = g.0.number; coef = fair k p i c g.0 r.0 e; small = n.0 }) (f n.1))

-- ---- their powers rise

unfoldable pub TermsRise : List Term → Type 0
TermsRise [] = Unit {0}
TermsRise (t ∷ ts) = Below t.power ts × TermsRise ts

-- two powers of x are in the order of their terms
powers-less : (p q : Float) (i j : Sum) (n m : ℕ) → is_empty i ≡ true → is_empty j ≡ true → cmp_term (entry X n p complex.zero) i (entry X m q complex.zero) j ≡ Less → lt p q ≡ true
unfolding cmp_each len
powers-less p q i j n m ei ej h =
    let g : and_then (cmp_num p q) Equal ≡ Less = rw (is-none i ei, is-none j ej) at h in
    (cmp-less p q).0 (sym (then_equal (cmp_num p q)) ∙ g)

module _ (left : ℕ) where
  above : {r : Sum} {ts : List Term} (p : Float) (i : Sum) → TermKey X p i → is_empty i ≡ true → Good left r → TermsListed r ts → Before X p i r → Below p ts
  unfolding Below
  above p i K e g nothing b = tt
  above p i K e g (zero-entry {k = l} {p = q} {j} {c = d} {r} z t) b = above p i K e (first_good left l q j d r g).rest t (before-rest left X l p q i j d r K g b)
  above p i K e g (term-entry {p = q} {j} {c = d} {r} z n t) b =
      let f = first_good left X q j d r g in
      (powers-less p q i j (size i) (size j) e f.entry-good.inside b, above p i K e f.rest t (before-rest left X X p q i j d r K g b))

  pub rising : {s : Sum} {ts : List Term} → Good left s → TermsListed s ts → TermsRise ts
  unfolding TermsRise
  rising g nothing = tt
  rising g (zero-entry {k = l} {p = q} {j} {c = d} {r} z t) = rising (first_good left l q j d r g).rest t
  rising g (term-entry {p = q} {j} {c = d} {r} z n t) =
      let f = first_good left X q j d r g in
      (above q j (first_key left f) f.entry-good.inside f.rest t f.before, rising f.rest t)

-- every power of the second list is above all of the first
unfoldable pub AllOver : List Term → List Term → Type 0
AllOver ds [] = Unit {0}
AllOver ds (t ∷ ts) = Over t.power ds × AllOver ds ts

pub all-over-none : (ts : List Term) → AllOver [] ts
unfolding AllOver Over
all-over-none [] = tt
all-over-none (t ∷ ts) = (tt, all-over-none ts)

-- one more came
pub all-over-next : (ds : List Term) (t : Term) (ts : List Term) → AllOver ds ts → Below t.power ts → AllOver (ds ++ t ∷ []) ts
unfolding AllOver Below
all-over-next ds t [] o b = tt
all-over-next ds t (s ∷ ts) o b = (over-next s.power ds t o.0 b.0, all-over-next ds t ts o.1 b.1)
