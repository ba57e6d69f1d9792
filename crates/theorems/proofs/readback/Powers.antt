-- Powers of x, and coefficients times them, as reading forms them: x itself is raised before it is multiplied, so its coefficient is 1. Assumes nothing.
use Prim.Native.Nat.{ℕ, zero, suc, ◌+◌, ◌≤◌}
use mathlib.Core.Path.{◌≡◌, refl, sym, ap, ◌∙◌}
use mathlib.Core.Bool.{Bool, true, false, ◌&&◌, ◌||◌, cond, true≢false}
use mathlib.Core.Logic.{◌⊎◌, inl, inr}
use native.Mathlib.Omega.{arith}
use borrow.Author.Tests.{ltb-false}
use lib.Dec.{T}
use lib.IntN.{ℤ, pos, negsuc}
use lib.Ieee.{Float, binary64, fits, of_bits, eq, lt, le, add, mul, sub}
use lib.Ieee.Bits.{is_true, of_bits-fits}
use lib.Ieee.Fits.{add-fits}
use lib.Ieee.Scale.{finite}
use Rattle.std.specs.Prelude.{Some}
use Rattle.numbers.specs.Signs.{zero64, one64, Zero}
use Rattle.numbers.specs.Ops.{◌⊕◌, ◌⊗◌}
use Rattle.numbers.specs.Numbers.{is_whole, below_epsilon}
use Rattle.numbers.specs.Wholes.{Means}
use Rattle.numbers.proofs.Bools.{T_of}
use Rattle.numbers.proofs.Order.{eq-same}
use Rattle.numbers.proofs.Units.{1-times}
use Rattle.numbers.proofs.Wholes.{means-finite, means-eq, means-lt, means-fin, means-1, whole-means, small-whole, more-1}
use Rattle.numbers.proofs.Zeros.{zero_test, zero-finite, mul-zero-left}
use Rattle.numbers.specs.declared.complex.Complex.{Complex}
use Rattle.numbers.specs.Complex.Arith as complex
use Rattle.sums.specs.Tree.Kinds.{X}
use Rattle.sums.specs.Tree.Sums.{Sum, none, size, levels}
use Rattle.sums.specs.Tree.Map.{sum, coef_in, put_in, formed, each_into}
use Rattle.sums.specs.Tree.Good.{is_number}
use Rattle.arithmetic.specs.Singles.{single, constant, as_constant}
use Rattle.arithmetic.specs.Product.{rowable, mulable, mul_into, product}
use Rattle.arithmetic.specs.Power.{raised, whole_power, rootable, unit_coefs, root_of_one, rooted, power, pow}
use Rattle.theorems.proofs.Speed.Steps.{number-finite}
use Rattle.theorems.proofs.Speed.Terms.{means-0}
use Rattle.theorems.specs.Readback.Terms.{highest64}
use Rattle.theorems.proofs.readback.Steps.{x, number_fits, alone-formed}

-- x to the q, with coefficient 1
abbrev pub x_to : Float → Sum
x_to q = single X q none complex.one

-- the product of two terms
pub product-terms : (q r : Float) (a b : Complex) → finite (q ⊕ r) ≡ true → complex.all_finite (complex.plus complex.zero (complex.times a b)) ≡ true
    → product (single X q none a) (single X r none b) ≡ sum (single X (q ⊕ r) none (complex.plus complex.zero (complex.times a b)))
unfolding product mulable rowable mul_into each_into formed coef_in put_in levels size
product-terms q r a b e f = rw (e, f)

one-times-one : complex.plus complex.zero (complex.times complex.one complex.one) ≡ complex.one
unfolding of_bits add mul sub
one-times-one = refl

pub product-x : (q : Float) → finite (q ⊕ one64) ≡ true → product (x_to q) x ≡ sum (x_to (q ⊕ one64))
unfolding of_bits
product-x q e = product-terms q one64 complex.one complex.one e (ap complex.all_finite one-times-one) ∙ ap (λ (c : Complex). sum (single X (q ⊕ one64) none c)) one-times-one

-- ---- whole powers

-- x to the q, times x, n times more
record Raised (n j : ℕ) (q : Float) : Type 0 where
  to : Float
  is : raised n (x_to q) x ≡ sum (x_to to)
  means : Means to (pos (suc j + n))
  fit : T (fits binary64 to)

add-zero : (j : ℕ) → j + 0 ≡ j
add-zero j = omega arith

raise : (n j : ℕ) (q : Float) → T (fits binary64 q) → Means q (pos (suc j)) → suc j + n ≤ 64 → Raised n j q
unfolding raised
raise zero j q f m h = record { to = q; is = refl; means = rw (add-zero (suc j)) m; fit = f }
raise (suc n) j q f m h =
    let up : Means (q ⊕ one64) (pos (suc (suc j))) = more-1 m (omega arith) in
    let g = raise n (suc j) (q ⊕ one64) (add-fits binary64 q one64) up (omega arith) in
    let e : suc (suc j) + n ≡ suc j + suc n = omega arith in
    record { to = g.to; is = rw (product-x q (is_true (finite (q ⊕ one64)) (means-finite up))) g.is; means = rw e at g.means; fit = g.fit }

means-64 : Means highest64 (pos 64)
unfolding of_bits
means-64 = means-fin false 1 6

and-holds : (a b : Bool) → a ≡ true → (a && b) ≡ false → b ≡ false
and-holds true b e f = f
and-holds false b e f = absurd (true≢false (sym e))

-- a whole number from 0 to 64
small_power : (p : Float) → is_whole p ≡ true → le zero64 p ≡ true → lt highest64 p ≡ false → (n : ℕ) × (n ≤ 64) × Means p (pos n)
unfolding le
small_power p w l b = go (whole-means p w).0 (whole-means p w).1
  where
    go : (z : ℤ) → Means p z → (n : ℕ) × (n ≤ 64) × Means p (pos n)
    go (pos n) m = (n, omega (arith, ltb-false 64 n (sym (means-lt means-64 m) ∙ b)), m)
    go (negsuc n) m = below (lt zero64 p) (eq zero64 p) (means-lt means-0 m) refl l
      where
        below : (a b : Bool) → a ≡ false → eq zero64 p ≡ b → (a || b) ≡ true → (n : ℕ) × (n ≤ 64) × Means p (pos n)
        below false true e f t = let z = (means-eq means-0 m).0 f in let y : ◌≡◌ {A = ℕ} 0 1 = cc in absurd (omega arith)
        below false false e f t = absurd (true≢false (sym t))
        below true b e f t = absurd (true≢false e)

-- ---- x to a power

pub one_not_zero : eq one64 zero64 ≡ false
unfolding eq of_bits
one_not_zero = refl

pub zero-is-zero : eq zero64 zero64 ≡ true
unfolding eq of_bits
zero-is-zero = refl

pub one-is-one : eq one64 one64 ≡ true
unfolding eq of_bits
one-is-one = refl

zero-small : below_epsilon zero64 ≡ true
unfolding below_epsilon lt of_bits
zero-small = refl

pub one-finite : finite one64 ≡ true
unfolding of_bits
one-finite = refl

pow-x : (p : Float) → pow x (constant (complex.real p)) ≡ power x p
unfolding pow as_constant
pow-x p = rw (one_not_zero, zero-is-zero, zero-small)

-- the coefficient that is then there: 1, and an imaginary part of zero
pub unit-im : (p : Float) → T (finite p) → Zero (root_of_one complex.one p).im
unit-im p f = go (is_whole p)
  where
    go : (b : Bool) → Zero (cond b zero64 (zero64 ⊗ p))
    go true = (zero_test zero64).0 zero-is-zero
    go false = mul-zero-left binary64 zero64 p ((zero_test zero64).0 zero-is-zero) f

module _ (p : Float) (t : T (is_number p)) where
  -- by a number that isn't whole, or is below 0
  pub pow-other : (is_whole p && le zero64 p) ≡ false → pow x (constant (complex.real p)) ≡ sum (single X p none (root_of_one complex.one p))
  unfolding rootable unit_coefs rooted
  pow-other o =
      pow-x p
      ∙ rw (o, one-is-one, zero-is-zero, 1-times p (number_fits p t))
      (alone-formed p (root_of_one complex.one p) (number-finite p t) (rw (one-finite, is_true (finite (root_of_one complex.one p).im) unit-finite)))
    where
      unit-finite : T (finite (root_of_one complex.one p).im)
      unit-finite = zero-finite (root_of_one complex.one p).im (unit-im p (T_of (number-finite p t)))

  -- by a whole number up to 64: as many products
  pub pow-whole : (is_whole p && le zero64 p) ≡ true → (is_whole p && lt highest64 p) ≡ false → eq p zero64 ≡ false → pow x (constant (complex.real p)) ≡ sum (x_to p)
  pow-whole o b z = go (is_whole p) (le zero64 p) refl refl o
    where
      same : (q : Float) (n : ℕ) → T (fits binary64 q) → Means q (pos n) → Means p (pos n) → q ≡ p
      same q n f m k = by (eq-same binary64 q p f (number_fits p t) ((means-eq m k).1 refl))
        where
          by : (q ≡ p) ⊎ (Zero q × Zero p) → q ≡ p
          by (inl e) = e
          by (inr e) = absurd (true≢false (sym ((zero_test p).1 e.1) ∙ z))

      of : (n : ℕ) → n ≤ 64 → Means p (pos n) → whole_power x (Some n) ≡ sum (x_to p)
      of zero h m = absurd (true≢false (sym ((means-eq m means-0).1 refl) ∙ z))
      of (suc n) h m =
          let g = raise n 0 one64 (of_bits-fits binary64 0x3ff0000000000000) means-1 (omega arith) in
          let e : 1 + n ≡ suc n = omega arith in
          g.is ∙ ap (λ (q : Float). sum (x_to q)) (same g.to (suc n) g.fit (rw e at g.means) m)

      go : (w l : Bool) → is_whole p ≡ w → le zero64 p ≡ l → (w && l) ≡ true → pow x (constant (complex.real p)) ≡ sum (x_to p)
      go true true w l e =
          let s = small_power p w l (and-holds (is_whole p) (lt highest64 p) w b) in
          pow-x p ∙ rw (w, l, (small-whole p s.0).1 (s.1, s.2)) (of s.0 s.1 s.2)
      go true false w l e = absurd (true≢false (sym e))
      go false l w l' e = absurd (true≢false (sym e))
