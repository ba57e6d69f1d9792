-- What is formed of real coefficients is real or isn't finite, and nothing that isn't finite is put into a sum. Assumes nothing.
use mathlib.Core.Bool.{Bool, true, false, cond}
use lib.Dec.{T}
use lib.Ieee.{Float, binary64}
use lib.Ieee.Fits.{and_i, and_l, and_r}
use lib.Ieee.Scale.{finite}
use Rattle.numbers.specs.Numbers.{is_whole}
use Rattle.numbers.specs.Ops.{◌⊕◌, ◌⊗◌}
use Rattle.numbers.specs.Signs.{Zero, zero64, one64}
use Rattle.numbers.proofs.Values.{bits-0}
use Rattle.numbers.proofs.Zeros.{zero_of, mul-zero-left}
use Rattle.numbers.proofs.Finite.{neg-finite, add-finite, sub-finite, mul-finite, div-finite}
use Rattle.numbers.specs.declared.complex.Complex.{Complex}
use Rattle.numbers.specs.Complex.Arith as complex
use Rattle.numbers.specs.Complex.Contract.Real.{Real}
use Rattle.numbers.proofs.complex.Real.{real-plus, real-minus, real-negated, real-times, real-times_real, real-over, real-over_real}
use Rattle.sums.specs.declared.tree.Merge.{Merge}
use Rattle.sums.specs.declared.tree.Merge.TheVariants.{Add, Take, Store}
use Rattle.sums.specs.Tree.Map.{merged}
use Rattle.arithmetic.specs.Power.{root_of_one}

-- real, where it is finite
abbrev pub RealOnce : Complex → Type 0
RealOnce c = T (complex.all_finite c) → Real c

-- a number by its real part alone
pub real-is : (x : Float) → Real (complex.real x)
real-is x = zero_of zero64 false bits-0

re-finite : (c : Complex) → T (complex.all_finite c) → T (finite c.re)
re-finite c f = and_l (finite c.re) (finite c.im) f

im-finite : (c : Complex) → T (complex.all_finite c) → T (finite c.im)
im-finite c f = and_r (finite c.re) (finite c.im) f

all-finite : (c : Complex) → T (finite c.re) → T (finite c.im) → T (complex.all_finite c)
all-finite c f g = and_i (finite c.re) (finite c.im) f g

pub negated-real : (a : Complex) → RealOnce a → RealOnce (complex.negated a)
negated-real a p f =
    let r = rw (neg-finite a.re) at (re-finite (complex.negated a) f) in
    let i = rw (neg-finite a.im) at (im-finite (complex.negated a) f) in
    real-negated a (p (all-finite a r i))

module _ (a b : Complex) (p : RealOnce a) (q : RealOnce b) where
  pub plus-real : RealOnce (complex.plus a b)
  plus-real f =
      let r = add-finite binary64 a.re b.re (re-finite (complex.plus a b) f) in
      let i = add-finite binary64 a.im b.im (im-finite (complex.plus a b) f) in
      real-plus a b (p (all-finite a r.0 i.0)) (q (all-finite b r.1 i.1))

  pub minus-real : RealOnce (complex.minus a b)
  minus-real f =
      let r = sub-finite binary64 a.re b.re (re-finite (complex.minus a b) f) in
      let i = sub-finite binary64 a.im b.im (im-finite (complex.minus a b) f) in
      real-minus a b (p (all-finite a r.0 i.0)) (q (all-finite b r.1 i.1))

  pub times-real : RealOnce (complex.times a b)
  times-real f =
      let d = sub-finite binary64 (a.re ⊗ b.re) (a.im ⊗ b.im) (re-finite (complex.times a b) f) in
      let r = mul-finite binary64 a.re b.re d.0 in
      let i = mul-finite binary64 a.im b.im d.1 in
      real-times a b r.0 r.1 (p (all-finite a r.0 i.0)) (q (all-finite b r.1 i.1))

  pub over-real : RealOnce (complex.over a b)
  over-real f =
      let n = (div-finite binary64 (a.re ⊗ b.re ⊕ a.im ⊗ b.im) (complex.norm b) (re-finite (complex.over a b) f)).0 in
      let d = add-finite binary64 (a.re ⊗ b.re) (a.im ⊗ b.im) n in
      let r = mul-finite binary64 a.re b.re d.0 in
      let i = mul-finite binary64 a.im b.im d.1 in
      real-over a b r.0 r.1 (p (all-finite a r.0 i.0)) (q (all-finite b r.1 i.1)) f

module _ (a : Complex) (x : Float) (p : RealOnce a) where
  pub times_real-real : RealOnce (complex.times_real a x)
  times_real-real f =
      let r = mul-finite binary64 a.re x (re-finite (complex.times_real a x) f) in
      let i = mul-finite binary64 a.im x (im-finite (complex.times_real a x) f) in
      real-times_real a x r.1 (p (all-finite a r.0 i.0))

  pub over_real-real : RealOnce (complex.over_real a x)
  over_real-real f =
      let r = div-finite binary64 a.re x (re-finite (complex.over_real a x) f) in
      let i = div-finite binary64 a.im x (im-finite (complex.over_real a x) f) in
      real-over_real a x (p (all-finite a r.0 i.0)) f

-- what a key's coefficient becomes
pub merged-real : (m : Merge) (old c : Complex) → RealOnce old → RealOnce c → RealOnce (merged m old c)
merged-real Add old c p q = plus-real old c p q
merged-real Take old c p q = minus-real old c p q
merged-real Store old c p q = q

-- 1 to a power that may not be whole
pub root-real : (c : Complex) (e : Float) → Real c → RealOnce (root_of_one c e)
root-real c e p f = go (is_whole e) (im-finite (root_of_one c e) f)
  where
    go : (b : Bool) → T (finite (cond b zero64 (c.im ⊗ e))) → Zero (cond b zero64 (c.im ⊗ e))
    go true g = real-is one64
    go false g = mul-zero-left binary64 c.im e p (mul-finite binary64 c.im e g).1
