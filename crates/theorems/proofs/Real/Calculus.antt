-- The derivative and the integral of a real sum are real. Assumes nothing.
use Prim.Native.Nat.{ℕ}
use mathlib.Core.Path.{◌≡◌, subst}
use mathlib.Core.Bool.{Bool, true, false, cond}
use lib.Dec.{eqb}
use lib.Ieee.{Float, eq}
use Rattle.numbers.specs.Constants.{euler}
use Rattle.numbers.specs.Ops.{◌⊕◌, ◌⊖◌}
use Rattle.numbers.specs.Signs.{zero64, one64}
use Rattle.numbers.specs.declared.complex.Complex.{Complex}
use Rattle.numbers.specs.Complex.Arith as complex
use Rattle.numbers.specs.Complex.Contract.Real.{Real}
use Rattle.numbers.proofs.complex.Real.{real-negated}
use Rattle.sums.specs.declared.tree.Merge.{Merge}
use Rattle.sums.specs.declared.tree.Merge.TheVariants.{Add, Take, Store}
use Rattle.limits.specs.declared.Refusal.TheVariants.{TooComplex}
use Rattle.sums.specs.Tree.Kinds as kinds
use Rattle.sums.specs.Tree.Sums.{Sum, none, and, size, entry}
use Rattle.sums.specs.Tree.Same.{same_sum}
use Rattle.sums.specs.Tree.Map.{Outcome, sum, refused, Found, at, absent, formed, each_into}
use Rattle.arithmetic.specs.Singles.{is_x}
use Rattle.arithmetic.specs.Product.{product}
use Rattle.arithmetic.proofs.Steps.{never, sum_is, then-sum, unless-sum, either}
use Rattle.std.specs.Prelude.{Option, Some, None}
use Rattle.calculus.specs.Derivative.{slope, vanishes, prime_step, found_then, prime_from, prime, by_prime, first_coef, turned_to, by_ln, derive_x, derive_div, derive_exp, derive_by, ln_of, derive_log, derive_into, or_zero, derive}
use Rattle.calculus.specs.Integral.{x, stored, integrate_x, integrate_by, integrate_into, integrate}
use Rattle.theorems.specs.Reals.{RealSum}
use Rattle.theorems.proofs.Real.Coefs.{RealOnce, real-is, plus-real, times-real, times_real-real, over_real-real}
use Rattle.theorems.proofs.Real.Terms.{none-real, single-real, constant_real, formed-real, each-real, product-real}

-- ---- the derivative of a function's argument

-- a coefficient that was found is real, if it is finite
abbrev FoundReal : Found → Type 0
FoundReal absent = Unit {0}
FoundReal (at c) = RealOnce c

step-real : (acc : Complex) (p : Float) (c : Complex) → RealOnce acc → Real c → FoundReal (prime_step acc p c)
step-real acc p c ha hc = go (vanishes p c) (eq (p ⊖ one64) zero64)
  where
    go : (v e : Bool) → FoundReal (cond v (at acc) (cond e (at (complex.plus acc (slope p c))) absent))
    go true e = ha
    go false true = plus-real acc (slope p c) ha (times_real-real c p (λ f. hc))
    go false false = tt

then-real : (v : Found) (f : Complex → Found) → FoundReal v → ((c : Complex) → RealOnce c → FoundReal (f c)) → FoundReal (found_then v f)
then-real absent f h k = tt
then-real (at c) f h k = k c h

from-real : (acc : Complex) (s : Sum) → RealOnce acc → RealSum s → FoundReal (prime_from acc s)
unfolding prime_from RealSum
from-real acc none ha hs = ha
from-real acc (and k p i c r) ha hs =
    go (eqb k kinds.X) (then-real (prime_step acc p c) (λ next. prime_from next r) (step-real acc p c ha hs.0) (λ next hn. from-real next r hn hs.2))
  where
    go : (b : Bool) → FoundReal (found_then (prime_step acc p c) (λ next. prime_from next r)) → FoundReal (cond b (found_then (prime_step acc p c) (λ next. prime_from next r)) absent)
    go true h = h
    go false h = tt

prime-real : (s : Sum) → RealSum s → FoundReal (prime s)
prime-real s hs = from-real complex.zero s (λ f. real-is zero64) hs

-- ---- derivatives

by-prime : (f : Complex → Outcome) (v : Found) (r : Sum) → FoundReal v → ((d : Complex) → RealOnce d → f d ≡ sum r → RealSum r) → by_prime v f ≡ sum r → RealSum r
by-prime f absent r hv k h = never h
by-prime f (at d) r hv k h = k d hv h

by-ln : (f : Float → Outcome) (l : Option Float) (r : Sum) → ((v : Float) → f v ≡ sum r → RealSum r) → by_ln l f ≡ sum r → RealSum r
by-ln f (Some v) r k h = k v h
by-ln f None r k h = never h

first-real : (s : Sum) → RealSum s → Real (first_coef s)
unfolding RealSum
first-real none h = real-is zero64
first-real (and k p i c r) h = h.0

module _ (l : ℕ) (q : Float) (j : Sum) (d : Complex) (s r : Sum) (hd : Real d) (hj : RealSum j) (hs : RealSum s) where
  turned-real : (k : ℕ) (c : Complex) (m : Merge) (i : Sum) → RealOnce c → RealSum i → turned_to k c i m s ≡ sum r → RealSum r
  turned-real k c m i hc hi h = formed-real m (entry k (size i) zero64 c) i s r hc hi hs h

  x-real : derive_x (entry l (size j) q d) s ≡ sum r → RealSum r
  x-real h =
      either RealSum (vanishes q d) (sum s) (formed Add (entry kinds.X 0 (q ⊖ one64) (slope q d)) none s) r
      (λ e. subst RealSum (sum_is e) hs)
      (formed-real Add (entry kinds.X 0 (q ⊖ one64) (slope q d)) none s r (times_real-real d q (λ f. hd)) none-real hs)
      h

  div-real : derive_div (entry l (size j) q d) j s ≡ sum r → RealSum r
  div-real h =
      let w = then-sum (product j j) (λ w. turned_to kinds.Div d w Add s) r h in
      turned-real kinds.Div d Add w.0 (λ f. hd) (product-real j j w.0 hj hj w.1) w.2

  exp-real : derive_exp (entry l (size j) q d) j s ≡ sum r → RealSum r
  exp-real h =
      let c = complex.times d (first_coef j) in
      turned-real kinds.Exp c Add j (times-real d (first_coef j) (λ f. hd) (λ f. first-real j hj)) hj (unless-sum (is_x j) TooComplex (turned_to kinds.Exp c j Add s) r h).1

  by-real : (k : ℕ) (m : Merge) → derive_by k m (entry l (size j) q d) j s ≡ sum r → RealSum r
  by-real k m h =
      by-prime (λ v. turned_to k (complex.times d v) j m s) (prime j) r (prime-real j hj)
      (λ v hv e. turned-real k (complex.times d v) m j (times-real d v (λ f. hd) hv) hj e) h

  log-real : derive_log (entry l (size j) q d) j s ≡ sum r → RealSum r
  log-real h =
      by-prime (λ v. by_ln (ln_of q) (λ w. turned_to kinds.Div (complex.over_real (complex.times d v) w) j Add s)) (prime j) r (prime-real j hj)
      (λ v hv e. by-ln (λ w. turned_to kinds.Div (complex.over_real (complex.times d v) w) j Add s) (ln_of q) r
      (λ w o. turned-real kinds.Div (complex.over_real (complex.times d v) w) Add j (over_real-real (complex.times d v) w (times-real d v (λ f. hd) hv)) hj o) e)
      h

  -- the derivative of one real entry
  into-real : derive_into (entry l (size j) q d) j s ≡ sum r → RealSum r
  unfolding derive_into
  into-real h =
      either RealSum (eqb l kinds.X) (derive_x (entry l (size j) q d) s) o7 r x-real
      (either RealSum (eqb l kinds.Div) (derive_div (entry l (size j) q d) j s) o6 r div-real
      (either RealSum (eqb l kinds.Log) (derive_log (entry l (size j) q d) j s) o5 r log-real
      (either RealSum (eqb l kinds.Exp) (derive_exp (entry l (size j) q d) j s) o4 r exp-real
      (either RealSum (eqb l kinds.Sin) (derive_by kinds.Cos Add (entry l (size j) q d) j s) o3 r (by-real kinds.Cos Add)
      (either RealSum (eqb l kinds.Cos) (derive_by kinds.Sin Take (entry l (size j) q d) j s) o2 r (by-real kinds.Sin Take)
      (either RealSum (eqb l kinds.SinH) (derive_by kinds.CosH Add (entry l (size j) q d) j s) (derive_by kinds.SinH Add (entry l (size j) q d) j s) r
      (by-real kinds.CosH Add) (by-real kinds.SinH Add)))))))
      h
    where
      o2 : Outcome
      o2 = cond (eqb l kinds.SinH) (derive_by kinds.CosH Add (entry l (size j) q d) j s) (derive_by kinds.SinH Add (entry l (size j) q d) j s)

      o3 : Outcome
      o3 = cond (eqb l kinds.Cos) (derive_by kinds.Sin Take (entry l (size j) q d) j s) o2

      o4 : Outcome
      o4 = cond (eqb l kinds.Sin) (derive_by kinds.Cos Add (entry l (size j) q d) j s) o3

      o5 : Outcome
      o5 = cond (eqb l kinds.Exp) (derive_exp (entry l (size j) q d) j s) o4

      o6 : Outcome
      o6 = cond (eqb l kinds.Log) (derive_log (entry l (size j) q d) j s) o5

      o7 : Outcome
      o7 = cond (eqb l kinds.Div) (derive_div (entry l (size j) q d) j s) o6

or-zero-real : (u r : Sum) → RealSum u → or_zero u ≡ sum r → RealSum r
or-zero-real none r h e = subst RealSum (sum_is e) (constant_real zero64)
or-zero-real (and l q j d t) r h e = subst RealSum (sum_is e) h

-- the derivative of a real sum
pub derive-real : (s : Sum) {r : Sum} → RealSum s → derive s ≡ sum r → RealSum r
unfolding derive
derive-real s {r} hs h =
    let w = then-sum (each_into derive_into none s) or_zero r h in
    or-zero-real w.0 r (each-real derive_into into-real s none w.0 hs none-real w.1) w.2

-- ---- integrals

module _ (l : ℕ) (q : Float) (j : Sum) (d : Complex) (s r : Sum) (hd : Real d) (hj : RealSum j) (hs : RealSum s) where
  stored-real : (k : ℕ) (b : Float) (c : Complex) → Real c → stored k b c s ≡ sum r → RealSum r
  stored-real k b c hc h = formed-real Store (entry k 1 b c) x s r (λ f. hc) (single-real kinds.X one64 none complex.one (real-is one64) none-real) hs h

  int-x-real : integrate_x (entry l (size j) q d) s ≡ sum r → RealSum r
  int-x-real h =
      let c = complex.over_real d (q ⊕ one64) in
      either RealSum (eq (q ⊕ one64) zero64) (stored kinds.Log euler d s) (formed Store (entry kinds.X 0 (q ⊕ one64) c) none s) r (stored-real kinds.Log euler d hd)
      (formed-real Store (entry kinds.X 0 (q ⊕ one64) c) none s r (over_real-real d (q ⊕ one64) (λ f. hd)) none-real hs)
      h

  int-by-real : (k : ℕ) (c : Complex) → Real c → integrate_by k c j s ≡ sum r → RealSum r
  int-by-real k c hc h = stored-real k zero64 c hc (unless-sum (same_sum j x) TooComplex (stored k zero64 c s) r h).1

  -- the integral of one real entry
  int-real : integrate_into (entry l (size j) q d) j s ≡ sum r → RealSum r
  unfolding integrate_into
  int-real h =
      either RealSum (eqb l kinds.X) (integrate_x (entry l (size j) q d) s) o4 r int-x-real
      (either RealSum (eqb l kinds.Sin) (integrate_by kinds.Cos (complex.negated d) j s) o3 r (int-by-real kinds.Cos (complex.negated d) (real-negated d hd))
      (either RealSum (eqb l kinds.Cos) (integrate_by kinds.Sin d j s) o2 r (int-by-real kinds.Sin d hd)
      (either RealSum (eqb l kinds.SinH) (integrate_by kinds.CosH d j s) o1 r (int-by-real kinds.CosH d hd)
      (either RealSum (eqb l kinds.CosH) (integrate_by kinds.SinH d j s) (refused TooComplex) r (int-by-real kinds.SinH d hd) (λ z. never z)))))
      h
    where
      o1 : Outcome
      o1 = cond (eqb l kinds.CosH) (integrate_by kinds.SinH d j s) (refused TooComplex)

      o2 : Outcome
      o2 = cond (eqb l kinds.SinH) (integrate_by kinds.CosH d j s) o1

      o3 : Outcome
      o3 = cond (eqb l kinds.Cos) (integrate_by kinds.Sin d j s) o2

      o4 : Outcome
      o4 = cond (eqb l kinds.Sin) (integrate_by kinds.Cos (complex.negated d) j s) o3

-- the integral of a real sum
pub integrate-real : (s : Sum) {r : Sum} → RealSum s → integrate s ≡ sum r → RealSum r
unfolding integrate
integrate-real s {r} hs h = each-real integrate_into int-real s none r hs none-real h
