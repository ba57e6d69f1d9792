-- The derivative and the integral of a good sum are good sums. Assumes nothing.
use Prim.Native.Nat.{ℕ, ◌≤◌}
use native.Mathlib.Omega.{arith}
use mathlib.Core.Path.{◌≡◌, refl, sym, subst, ◌∙◌}
use mathlib.Core.Bool.{Bool, true, false, cond}
use lib.Dec.{T, eqb}
use lib.Ieee.{Float, eq, binary64, fits, of_bits}
use lib.Ieee.Bits.{of_bits-fits}
use lib.Ieee.Fits.{and_i, add-fits, sub-fits, mul-fits, div-fits}
use lib.Ieee.Scale.{finite}
use Rattle.numbers.specs.Constants.{euler}
use Rattle.numbers.specs.Ops.{◌⊕◌, ◌⊖◌}
use Rattle.numbers.specs.Signs.{zero64, one64}
use Rattle.numbers.specs.declared.complex.Complex.{Complex}
use Rattle.numbers.specs.Complex.Arith as complex
use Rattle.cells.specs.declared.Entry.{Entry}
use Rattle.sums.specs.declared.tree.Merge.{Merge}
use Rattle.sums.specs.declared.tree.Merge.TheVariants.{Add, Take, Store}
use Rattle.limits.specs.declared.Refusal.TheVariants.{TooComplex}
use Rattle.sums.specs.Tree.Kinds as kinds
use Rattle.sums.specs.Tree.Sums.{Sum, none, and, size, entry}
use Rattle.sums.specs.Tree.Same.{same_sum}
use Rattle.sums.specs.Tree.Good.{is_number, is_empty, GoodEntry, Good}
use Rattle.sums.specs.Tree.Map.{Outcome, sum, refused, Found, at, absent, formed, each_into}
use Rattle.sums.proofs.tree.Keeps.{Fits, GoodHead, good-head, good_more}
use Rattle.arithmetic.specs.Singles.{GoodSum, is_x}
use Rattle.arithmetic.specs.Product.{product}
use Rattle.arithmetic.proofs.Steps.{never, differ, sum_is, then-sum, unless-sum, either}
use Rattle.arithmetic.proofs.Goodness.{fits-times, fits-negated, x-head, over-head, good-formed, good-every, each-good, GoodTerm, none-good, good-zero, good-x_to, good-product}
use Rattle.std.specs.Prelude.{Option, Some, None}
use Rattle.calculus.specs.Derivative.{slope, vanishes, prime, by_prime, first_coef, turned_to, by_ln, derive_x, derive_div, derive_exp, derive_by, ln_of, derive_log, derive_into, or_zero, derive}
use Rattle.calculus.specs.Integral.{x, stored, integrate_x, integrate_by, integrate_into, integrate}

-- ---- coefficients that fit

-- times a real number
pub fits-times_real : (c : Complex) (p : Float) → Fits (complex.times_real c p)
fits-times_real c p = record { re = mul-fits binary64 _ _; im = mul-fits binary64 _ _ }

-- by a real number
pub fits-over_real : (c : Complex) (p : Float) → Fits (complex.over_real c p)
fits-over_real c p = record { re = div-fits binary64 _ _; im = div-fits binary64 _ _ }

-- ---- terms of another kind

-- a term of a kind without a number, with a good inside, was formed in s
pub record Turned (s r : Sum) : Type 0 where
  pub how : Merge
  pub head : Entry
  pub inside : Sum
  pub fit : GoodHead head inside
  pub numberless : kinds.has_number head.kind ≡ false
  pub good : Good 4 inside
  pub is : formed how head inside s ≡ sum r

turned : (k n : ℕ) (c : Complex) (m : Merge) (s r : Sum) → 1 ≤ k → k ≤ 8 → kinds.has_number k ≡ false → (i : Sum) → is_empty i ≡ false → Good 4 i → Fits c
    → formed m (entry k n zero64 c) i s ≡ sum r → Turned s r
turned k n c m s r a b l i e g f h =
    record { how = m; head = entry k n zero64 c; inside = i; fit = over-head k n i c a b l e f; numberless = l; good = g; is = h }

-- it leaves a good sum
pub good-turned : {s r : Sum} → Good 4 s → Turned s r → GoodSum r
good-turned {s} {r} g t = good-formed t.how t.head t.inside s r t.fit t.good g t.is

-- ---- derivatives

-- a good sum as it is built, which may still be empty
abbrev pub Kept : Sum → Type 0
Kept s = Good 4 s × (size s ≤ 64)

kept : {r : Sum} → GoodSum r → Kept r
kept g = (g.good, g.room)

by-prime : (P : Sum → Type 0) (f : Complex → Outcome) (v : Found) (r : Sum) → ((d : Complex) → f d ≡ sum r → P r) → by_prime v f ≡ sum r → P r
by-prime P f absent r k h = never h
by-prime P f (at d) r k h = k d h

by-ln : (P : Sum → Type 0) (f : Float → Outcome) (l : Option Float) (r : Sum) → ((v : Float) → f v ≡ sum r → P r) → by_ln l f ≡ sum r → P r
by-ln P f (Some v) r k h = k v h
by-ln P f None r k h = never h

-- a power of x
pub derive-is-x : (k n : ℕ) (p : Float) (c : Complex) (j s : Sum) → eqb k kinds.X ≡ true → derive_into (entry k n p c) j s ≡ derive_x (entry k n p c) s
unfolding derive_into
derive-is-x k n p c j s e = rw e

module _ (l : ℕ) (q : Float) (j : Sum) (d : Complex) (s r : Sum) where
  x-good : Kept s → derive_x (entry l (size j) q d) s ≡ sum r → Kept r
  x-good ks h =
      either Kept (vanishes q d) (sum s) (formed Add (entry kinds.X 0 (q ⊖ one64) (slope q d)) none s) r
      (λ e. subst Kept (sum_is e) ks)
      (λ e. kept (good-formed Add (entry kinds.X 0 (q ⊖ one64) (slope q d)) none s r (x-head 0 (q ⊖ one64) (slope q d) (sub-fits binary64 q one64) (fits-times_real d q)) none-good ks.0 e))
      h

  module _ (gj : GoodSum j) where
    -- a term of another kind of the same inside
    same-turned : (k : ℕ) (c : Complex) (m : Merge) → 1 ≤ k → k ≤ 8 → kinds.has_number k ≡ false → Fits c → turned_to k c j m s ≡ sum r → Turned s r
    same-turned k c m a b n f h = turned k (size j) c m s r a b n j gj.some gj.good f h

    div-turned : Fits d → derive_div (entry l (size j) q d) j s ≡ sum r → Turned s r
    div-turned f h =
        let w = then-sum (product j j) (λ w. turned_to kinds.Div d w Add s) r h in
        let v = good-product gj gj w.1 in
        turned kinds.Div (size w.0) d Add s r (omega arith) (omega arith) refl w.0 v.some v.good f w.2

    exp-turned : derive_exp (entry l (size j) q d) j s ≡ sum r → Turned s r
    exp-turned h =
        same-turned kinds.Exp (complex.times d (first_coef j)) Add (omega arith) (omega arith) refl (fits-times d (first_coef j))
        (unless-sum (is_x j) TooComplex (turned_to kinds.Exp (complex.times d (first_coef j)) j Add s) r h).1

    by_turned : (k : ℕ) (m : Merge) → 1 ≤ k → k ≤ 8 → kinds.has_number k ≡ false → derive_by k m (entry l (size j) q d) j s ≡ sum r → Turned s r
    by_turned k m a b n h =
        by-prime (Turned s) (λ v. turned_to k (complex.times d v) j m s) (prime j) r (λ v e. same-turned k (complex.times d v) m a b n (fits-times d v) e) h

    log-turned : derive_log (entry l (size j) q d) j s ≡ sum r → Turned s r
    log-turned h =
        by-prime (Turned s) (λ v. by_ln (ln_of q) (λ w. turned_to kinds.Div (complex.over_real (complex.times d v) w) j Add s)) (prime j) r
        (λ v e. by-ln (Turned s) (λ w. turned_to kinds.Div (complex.over_real (complex.times d v) w) j Add s) (ln_of q) r
        (λ w o. same-turned kinds.Div (complex.over_real (complex.times d v) w) Add (omega arith) (omega arith) refl (fits-over_real (complex.times d v) w) o) e)
        h

  -- any other term becomes one of a kind without a number
  pub derive-turned : eqb l kinds.X ≡ false → GoodEntry l q j d → Good 4 j → size j ≤ 64 → derive_into (entry l (size j) q d) j s ≡ sum r → Turned s r
  unfolding derive_into
  derive-turned z e gj n h = others (rw z at h)
    where
      o3 : Outcome
      o3 = cond (eqb l kinds.SinH) (derive_by kinds.CosH Add (entry l (size j) q d) j s) (derive_by kinds.SinH Add (entry l (size j) q d) j s)

      o4 : Outcome
      o4 = cond (eqb l kinds.Cos) (derive_by kinds.Sin Take (entry l (size j) q d) j s) o3

      o5 : Outcome
      o5 = cond (eqb l kinds.Sin) (derive_by kinds.Cos Add (entry l (size j) q d) j s) o4

      o6 : Outcome
      o6 = cond (eqb l kinds.Exp) (derive_exp (entry l (size j) q d) j s) o5

      o7 : Outcome
      o7 = cond (eqb l kinds.Log) (derive_log (entry l (size j) q d) j s) o6

      g : GoodSum j
      g = record { good = gj; room = n; some = e.inside ∙ z }

      others : cond (eqb l kinds.Div) (derive_div (entry l (size j) q d) j s) o7 ≡ sum r → Turned s r
      others h =
          either (Turned s) (eqb l kinds.Div) (derive_div (entry l (size j) q d) j s) o7 r (div-turned g (good-head l (size j) q j d e).coef)
          (either (Turned s) (eqb l kinds.Log) (derive_log (entry l (size j) q d) j s) o6 r (log-turned g)
          (either (Turned s) (eqb l kinds.Exp) (derive_exp (entry l (size j) q d) j s) o5 r (exp-turned g)
          (either (Turned s) (eqb l kinds.Sin) (derive_by kinds.Cos Add (entry l (size j) q d) j s) o4 r (by_turned g kinds.Cos Add (omega arith) (omega arith) refl)
          (either (Turned s) (eqb l kinds.Cos) (derive_by kinds.Sin Take (entry l (size j) q d) j s) o3 r (by_turned g kinds.Sin Take (omega arith) (omega arith) refl)
          (either (Turned s) (eqb l kinds.SinH) (derive_by kinds.CosH Add (entry l (size j) q d) j s) (derive_by kinds.SinH Add (entry l (size j) q d) j s) r
          (by_turned g kinds.CosH Add (omega arith) (omega arith) refl) (by_turned g kinds.SinH Add (omega arith) (omega arith) refl))))))
          h

  into-good : GoodEntry l q j d → Good 4 j → size j ≤ 64 → Kept s → derive_into (entry l (size j) q d) j s ≡ sum r → Kept r
  into-good e gj n ks h = go (eqb l kinds.X) refl
    where
      go : (b : Bool) → eqb l kinds.X ≡ b → Kept r
      go true z = x-good ks (sym (derive-is-x l (size j) q d j s z) ∙ h)
      go false z = kept (good-turned ks.0 (derive-turned z e gj n h))

each-kept : (t s r : Sum) → Good 4 t → size t ≤ 64 → Kept s → each_into derive_into s t ≡ sum r → Kept r
unfolding each_into Good size
each-kept none s r g n k h = subst Kept (sum_is h) k
each-kept (and l q j d t) s r g n k h =
    let w = then-sum (derive_into (entry l (size j) q d) j s) (λ u. each_into derive_into u t) r h in
    each-kept t w.0 r g.3 (omega arith) (into-good l q j d s w.0 g.0 (good_more 3 j g.1) (omega arith) k w.1) w.2

none_kept : Kept none
unfolding size
none_kept = (none-good, omega arith)

or-zero-good : (u r : Sum) → Kept u → or_zero u ≡ sum r → GoodSum r
or-zero-good none r k h = subst GoodSum (sum_is h) good-zero
or-zero-good (and l q j d t) r k h = subst GoodSum (sum_is h) (record { good = k.0; room = k.1; some = refl })

-- the derivative of a good sum
pub derive-good : (s : Sum) {r : Sum} → GoodSum s → derive s ≡ sum r → GoodSum r
unfolding derive
derive-good s {r} g h =
    let w = then-sum (each_into derive_into none s) or_zero r h in
    or-zero-good w.0 r (each-kept s none w.0 g.good g.room none_kept w.1) w.2

-- ---- integrals

one_number : T (is_number one64)
unfolding of_bits
one_number = and_i (finite one64) (fits binary64 one64) tt (of_bits-fits binary64 0x3ff0000000000000)

zero_number : T (is_number zero64)
unfolding of_bits
zero_number = and_i (finite zero64) (fits binary64 zero64) tt (of_bits-fits binary64 0)

-- x is a good sum
pub x-is-good : GoodSum x
x-is-good = good-x_to one64 complex.one one_number one_number zero_number

-- the natural logarithm of x
pub log-head-good : (c : Complex) → Fits c → GoodHead (entry kinds.Log 1 euler c) x
log-head-good c f = record { least = omega arith; most = omega arith; number = of_bits-fits binary64 0x4005bf0a8b145769; none_else = λ z. differ z; coef = f; inside = refl }

-- a power of x
pub integrate-is-x : (k n : ℕ) (p : Float) (c : Complex) (j s : Sum) → eqb k kinds.X ≡ true → integrate_into (entry k n p c) j s ≡ integrate_x (entry k n p c) s
unfolding integrate_into
integrate-is-x k n p c j s e = rw e

module _ (l : ℕ) (q : Float) (j : Sum) (d : Complex) (s r : Sum) (e : GoodEntry l q j d) where
  fits-d : Fits d
  fits-d = (good-head l (size j) q j d e).coef

  int-x-good : Good 4 s → integrate_x (entry l (size j) q d) s ≡ sum r → GoodSum r
  int-x-good gs h =
      either GoodSum (eq (q ⊕ one64) zero64) (stored kinds.Log euler d s) (formed Store (entry kinds.X 0 (q ⊕ one64) (complex.over_real d (q ⊕ one64))) none s) r
      (good-formed Store (entry kinds.Log 1 euler d) x s r (log-head-good d fits-d) x-is-good.good gs)
      (good-formed Store (entry kinds.X 0 (q ⊕ one64) (complex.over_real d (q ⊕ one64))) none s r
      (x-head 0 (q ⊕ one64) (complex.over_real d (q ⊕ one64)) (add-fits binary64 q one64) (fits-over_real d (q ⊕ one64))) none-good gs)
      h

  int-by-turned : (k : ℕ) (c : Complex) → 1 ≤ k → k ≤ 8 → kinds.has_number k ≡ false → Fits c → integrate_by k c j s ≡ sum r → Turned s r
  int-by-turned k c a b n f h = turned k 1 c Store s r a b n x refl x-is-good.good f (unless-sum (same_sum j x) TooComplex (stored k zero64 c s) r h).1

  -- any other term becomes one of a kind without a number
  pub integrate-turned : eqb l kinds.X ≡ false → integrate_into (entry l (size j) q d) j s ≡ sum r → Turned s r
  unfolding integrate_into
  integrate-turned z h =
      either (Turned s) (eqb l kinds.Sin) (integrate_by kinds.Cos (complex.negated d) j s) o3 r (int-by-turned kinds.Cos (complex.negated d) (omega arith) (omega arith) refl (fits-negated fits-d))
      (either (Turned s) (eqb l kinds.Cos) (integrate_by kinds.Sin d j s) o2 r (int-by-turned kinds.Sin d (omega arith) (omega arith) refl fits-d)
      (either (Turned s) (eqb l kinds.SinH) (integrate_by kinds.CosH d j s) o1 r (int-by-turned kinds.CosH d (omega arith) (omega arith) refl fits-d)
      (either (Turned s) (eqb l kinds.CosH) (integrate_by kinds.SinH d j s) (refused TooComplex) r (int-by-turned kinds.SinH d (omega arith) (omega arith) refl fits-d) (λ z. never z))))
      (rw z at h)
    where
      o1 : Outcome
      o1 = cond (eqb l kinds.CosH) (integrate_by kinds.SinH d j s) (refused TooComplex)

      o2 : Outcome
      o2 = cond (eqb l kinds.SinH) (integrate_by kinds.CosH d j s) o1

      o3 : Outcome
      o3 = cond (eqb l kinds.Cos) (integrate_by kinds.Sin d j s) o2

  int-good : Good 4 s → integrate_into (entry l (size j) q d) j s ≡ sum r → GoodSum r
  int-good gs h = go (eqb l kinds.X) refl
    where
      go : (b : Bool) → eqb l kinds.X ≡ b → GoodSum r
      go true z = int-x-good gs (sym (integrate-is-x l (size j) q d j s z) ∙ h)
      go false z = good-turned gs (integrate-turned z h)

-- the integral of a good sum
pub integrate-good : (s : Sum) {r : Sum} → GoodSum s → integrate s ≡ sum r → GoodSum r
unfolding integrate
integrate-good s {r} g h = each-good integrate_into GoodTerm (λ l q j d u v e gu o. int-good l q j d u v e.0 gu o) s none r (good-every s g.good) none-good (λ z. differ (sym z ∙ g.some)) h
