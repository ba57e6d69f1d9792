-- The powers of a good sum rise strictly, and there are no more of them than entries. Assumes nothing.
use Prim.Native.Nat.{ℕ, suc, ◌-◌, ◌≤◌, ◌<◌}
use mathlib.Core.Path.{◌≡◌, refl, sym, ◌∙◌}
use mathlib.Core.Bool.{true, true≢false}
use mathlib.Core.List.{List}
use native.Mathlib.Omega.{arith}
use lib.Dec.{T, ltb→lt}
use lib.ListN.{length}
use lib.Ieee.{Float, lt, of_bits}
use lib.Ieee.Scale.{finite}
use Rattle.numbers.specs.Constants.{half64}
use Rattle.numbers.specs.Signs.{zero64, one64}
use Rattle.numbers.specs.Order.{cmp_num, and_then}
use Rattle.std.specs.declared.cmp.Ordering.TheVariants.{Less, Equal}
use Rattle.numbers.proofs.Bools.{T_of}
use Rattle.numbers.proofs.Order.{cmp-less, then_equal, lt-irreflexive, lt-transitive, lt-eq-left, lt-eq-right}
use Rattle.numbers.proofs.Wholes.{means-lt, means-1, small-whole}
use Rattle.numbers.specs.declared.complex.Complex.{Complex}
use Rattle.numbers.specs.Complex.Arith as complex
use Rattle.sums.specs.Tree.Kinds as kinds
use Rattle.sums.specs.Tree.Sums.{Sum, none, and, size, len, entry}
use Rattle.sums.specs.Tree.Good.{is_empty, Before, Good}
use Rattle.sums.specs.Tree.Order.{cmp_each, cmp_term}
use Rattle.sums.proofs.tree.Order.{Key, good-key, term-chain}
use Rattle.sums.proofs.order.Walk.{GoodFirst, good-and}
use Rattle.values.specs.Value.{Exponent, whole, half, Power}
use Rattle.theorems.specs.Terms.{IsWholeOrHalf, twice, Rising}
use Rattle.theorems.proofs.Speed.Terms.{means-0, half-finite}
use Rattle.theorems.proofs.Speed.Steps.{number-finite}
use Rattle.theorems.proofs.Speed.Listed.{Listed, nothing, zero_term, term}

pub is-none : (i : Sum) → is_empty i ≡ true → i ≡ none
is-none none e = refl
is-none (and k p j c r) e = let z : ◌≡◌ {A = ℕ} 0 1 = cc in absurd (omega arith)

-- a half lies between 0 and 1
half-above : lt zero64 half64 ≡ true
unfolding lt of_bits
half-above = refl

half-below : lt half64 one64 ≡ true
unfolding lt of_bits
half-below = refl

-- exponents are in the order of the numbers that they are
exponents-less : (p q : Float) (k l : Exponent) → T (finite p) → T (finite q) → IsWholeOrHalf p k → IsWholeOrHalf q l → lt p q ≡ true → twice k < twice l
exponents-less p q (whole k) (whole l) fp fq wp wq t =
    let h : k < l = ltb→lt k l (T_of (sym (means-lt ((small-whole p k).0 wp).1 ((small-whole q l).0 wq).1) ∙ t)) in
    omega arith
exponents-less p q (whole k) half fp fq wp wq t =
    let b = lt-transitive p half64 one64 (sym (lt-eq-right p q half64 fp fq half-finite wq) ∙ t) half-below in
    let h : k < 1 = ltb→lt k 1 (T_of (sym (means-lt ((small-whole p k).0 wp).1 means-1) ∙ b)) in
    omega arith
exponents-less p q half (whole l) fp fq wp wq t =
    let a = lt-transitive zero64 half64 q half-above (sym (lt-eq-left p half64 q fp half-finite fq wp) ∙ t) in
    let h : 0 < l = ltb→lt 0 l (T_of (sym (means-lt means-0 ((small-whole q l).0 wq).1) ∙ a)) in
    omega arith
exponents-less p q half half fp fq wp wq t =
    absurd (true≢false (sym t ∙ lt-eq-left p half64 q fp half-finite fq wp ∙ lt-eq-right half64 q half64 half-finite fq half-finite wq ∙ lt-irreflexive half64))

-- two powers of x are in the order of their terms
powers-less : (p q : Float) (i j : Sum) (n m : ℕ) (k l : Exponent) → is_empty i ≡ true → is_empty j ≡ true → T (finite p) → T (finite q) → IsWholeOrHalf p k → IsWholeOrHalf q l
    → cmp_term (entry kinds.X n p complex.zero) i (entry kinds.X m q complex.zero) j ≡ Less → twice k < twice l
unfolding cmp_each len
powers-less p q i j n m k l ei ej fp fq wp wq h =
    let g : and_then (cmp_num p q) Equal ≡ Less = rw (is-none i ei, is-none j ej) at h in
    exponents-less p q k l fp fq wp wq ((cmp-less p q).0 (sym (then_equal (cmp_num p q)) ∙ g))

-- ---- the terms of a good sum

abbrev pub TermKey : ℕ → Float → Sum → Type 0
TermKey k p i = Key (entry k (size i) p complex.zero) i

module _ (left : ℕ) where
  pub first_key : {l : ℕ} {q : Float} {j : Sum} {d : Complex} {r : Sum} → GoodFirst left (entry l (size j) q d) j r → TermKey l q j
  first_key {l} {q} {j} {d} f =
      let K = good-key (left - 1) l (size j) q j d f.entry-good f.inner in
      record { num = K.num; inside = K.inside }

  pub first_good : (l : ℕ) (q : Float) (j : Sum) (d : Complex) (r : Sum) → Good left (and l q j d r) → GoodFirst left (entry l (size j) q d) j r
  first_good l q j d r g = good-and left (entry l (size j) q d) j r g

  -- what comes before a good sum comes before the rest of it
  pub before-rest : (k l : ℕ) (p q : Float) (i j : Sum) (d : Complex) (r : Sum) → TermKey k p i → Good left (and l q j d r) → Before k p i (and l q j d r) → Before k p i r
  before-rest k l p q i j d none K g b = tt
  before-rest k l p q i j d (and l' q' j' d' r') K g b =
      let f = first_good l q j d (and l' q' j' d' r') g in
      let next = first_good l' q' j' d' r' f.rest in
      (term-chain (entry k (size i) p complex.zero) i (entry l (size j) q complex.zero) j (entry l' (size j') q' complex.zero) j' K (first_key f) (first_key next)
      ).less b f.before

  above : {r : Sum} {ts : List Power} (p : Float) (i : Sum) (k : Exponent) → TermKey kinds.X p i → is_empty i ≡ true → T (finite p) → IsWholeOrHalf p k
      → Good left r → Listed r ts → Before kinds.X p i r → Rising (suc (twice k)) ts
  above p i k K e fp w g nothing b = tt
  above p i k K e fp w g (zero_term {k = l} {p = q} {j} {c = d} {r} z t) b =
      above p i k K e fp w (first_good l q j d r g).rest t (before-rest kinds.X l p q i j d r K g b)
  above p i k K e fp w g (term {p = q} {k = l} {j} {c = d} {r} z re wq t) b =
      let f = first_good kinds.X q j d r g in
      let fq = T_of (number-finite q f.entry-good.number) in
      (powers-less p q i j (size i) (size j) k l e f.entry-good.inside fp fq w wq b, above q j l (first_key f) f.entry-good.inside fq wq f.rest t f.before)

  pub rising : {s : Sum} {ts : List Power} → Good left s → Listed s ts → Rising 0 ts
  rising g nothing = tt
  rising g (zero_term {k = l} {p = q} {j} {c = d} {r} z t) = rising (first_good l q j d r g).rest t
  rising g (term {p = q} {k = l} {j} {c = d} {r} z re wq t) =
      let f = first_good kinds.X q j d r g in
      (omega arith, above q j l (first_key f) f.entry-good.inside (T_of (number-finite q f.entry-good.number)) wq f.rest t f.before)

-- each term is an entry of the sum
pub few-terms : {s : Sum} {ts : List Power} → Listed s ts → length ts ≤ size s
unfolding size
few-terms nothing = omega arith
few-terms (zero_term z t) = let h = few-terms t in omega arith
few-terms (term z re w t) = let h = few-terms t in omega arith
