-- Powers and logarithms by what their operands are. Assumes nothing.
use Prim.Native.Nat.{ℕ, ◌<◌}
use native.Mathlib.Omega.{arith}
use mathlib.Core.Path.{◌≡◌, refl, sym, ap, ◌∙◌}
use mathlib.Core.Bool.{Bool, true, false, ◌&&◌, cond}
use lib.Ieee.{Float, le, binary64, fits}
use lib.Ieee.Bits.{is_true}
use lib.Ieee.Fits.{and_l}
use lib.Ieee.Scale.{finite}
use borrow.Author.Tests.{ne_eqb}
use Rattle.numbers.specs.Constants.{euler}
use Rattle.numbers.specs.Numbers.{is_whole, small_whole}
use Rattle.numbers.specs.Signs.{zero64}
use Rattle.numbers.proofs.Values.{bits-0}
use Rattle.numbers.specs.declared.complex.Complex.{Complex}
use Rattle.numbers.specs.Complex.Arith as complex
use Rattle.limits.specs.declared.Refusal.TheVariants.{TooComplex, NeedsMath}
use Rattle.sums.specs.Tree.Kinds.{Log, Exp}
use Rattle.sums.specs.Tree.Sums.{Sum, none, and, size, entry}
use Rattle.sums.specs.Tree.Good.{Good}
use Rattle.sums.specs.Tree.Map.{Outcome, refused, Found, at, absent, unless}
use Rattle.arithmetic.specs.Singles.{is_one, alone, as_constant, is_x}
use Rattle.arithmetic.specs.Power.{whole_power, rootable, unit_coefs, rooted, power, by_real, is_euler, pow, log}
use Rattle.arithmetic.specs.Pairs.{whole_pairs, power_pairs, real_pairs, pow_pairs}
use Rattle.arithmetic.proofs.Steps.{differ}
use Rattle.sums.specs.Contract.Heads.{GoodHead}
use Rattle.std.specs.Prelude.{Option, Some, None}
use Rattle.arithmetic.specs.Add.Contract.Operands.{constant_of}
use Rattle.powers.specs.Raise.Contract.Reals.{real_of, euler_is}

-- ---- what is asked of a constant

module _ (k : Option Complex) (c : Complex) (e : k ≡ Some c) where
  pub real-yes : complex.is_real c ≡ true → Some c.re ≡ real_of k
  real-yes h = rw (e, h)

  pub real-no : complex.is_real c ≡ false → None ≡ real_of k
  real-no h = rw (e, h)

  pub euler-test : {r : Bool} {x : Float} → x ≡ euler → r ≡ complex.same c (complex.complex x zero64) → r ≡ euler_is k
  euler-test f h = rw (h, f, e)

pub euler-is : (f : Found) → euler_is (constant_of f) ≡ is_euler f
euler-is (at c) = refl
euler-is absent = refl

-- the constant whose real number it is
found : (f : Found) (e : Float) → real_of (constant_of f) ≡ Some e → (c : Complex) × (f ≡ at c) × (complex.is_real c ≡ true) × (c.re ≡ e)
found absent e h = absurd (let z : ◌≡◌ {A = ℕ} 0 1 = cc in omega arith)
found (at c) e h = go (complex.is_real c) refl h
  where
    go : (b : Bool) → complex.is_real c ≡ b → cond b (Some c.re) None ≡ Some e → (d : Complex) × (at c ≡ at d) × (complex.is_real d ≡ true) × (d.re ≡ e)
    go true z h = (c, refl, z, cc)
    go false z h = absurd (let z : ◌≡◌ {A = ℕ} 0 1 = cc in omega arith)

-- a real number
pub by-real-is : (f : Found) (g : Float → Outcome) (e : Float) → real_of (constant_of f) ≡ Some e → by_real f g ≡ g e
by-real-is f g e h = let w = found f e h in rw (w.1, w.2) (ap g w.3)

-- and the pairs by it
real-pairs-is : (f : Found) (g : Float → ℕ) (e : Float) → real_of (constant_of f) ≡ Some e → real_pairs f g ≡ g e
real-pairs-is f g e h = let w = found f e h in rw (w.1, w.2) (ap g w.3)

-- none
pub by-real-not : (f : Found) (g : Float → Outcome) → real_of (constant_of f) ≡ None → by_real f g ≡ refused TooComplex
by-real-not absent g h = refl
by-real-not (at c) g h = go (complex.is_real c) h
  where
    go : (b : Bool) → cond b (Some c.re) None ≡ None → unless b TooComplex (g c.re) ≡ refused TooComplex
    go true h = absurd (let z : ◌≡◌ {A = ℕ} 0 1 = cc in omega arith)
    go false h = refl

-- it is finite, where the sum is good
pub real-finite : (t : Sum) (e : Float) → Good 4 t → real_of (constant_of (as_constant t)) ≡ Some e → finite e ≡ true
unfolding as_constant Good
real-finite none e g h = absurd (let z : ◌≡◌ {A = ℕ} 0 1 = cc in omega arith)
real-finite (and k p i c none) e g h = go (is_one k p) h
  where
    found : (b : Bool) → cond b (Some c.re) None ≡ Some e → finite e ≡ true
    found true h = ap finite (let same : e ≡ c.re = cc in same) ∙ is_true _ (and_l (finite c.re) (fits binary64 c.re) g.0.re)
    found false h = absurd (let z : ◌≡◌ {A = ℕ} 0 1 = cc in omega arith)

    go : (b : Bool) → real_of (constant_of (cond b (at c) absent)) ≡ Some e → finite e ≡ true
    go true h = found (complex.is_real c) h
    go false h = absurd (let z : ◌≡◌ {A = ℕ} 0 1 = cc in omega arith)
real-finite (and k p i c (and l q j d r)) e g h = absurd (let z : ◌≡◌ {A = ℕ} 0 1 = cc in omega arith)

-- ---- powers

module _ (s : Sum) (e : Float) where
  pub power-whole : is_whole e && le zero64 e ≡ true → power s e ≡ whole_power s (small_whole e)
  power-whole h = rw h

  module _ (h : is_whole e && le zero64 e ≡ false) where
    pub power-several : rootable s ≡ false → power s e ≡ refused TooComplex
    power-several r = rw (h, r)

    module _ (r : rootable s ≡ true) where
      pub power-math : unit_coefs s ≡ false → power s e ≡ refused NeedsMath
      power-math u = rw (h, r, u)

      pub power-root : unit_coefs s ≡ true → power s e ≡ rooted e s
      power-root u = rw (h, r, u)

  -- the pairs of a whole power, and none of a root
  pub power-pairs-whole : is_whole e && le zero64 e ≡ true → power_pairs s e ≡ whole_pairs s (small_whole e)
  power-pairs-whole h = rw h

  pub power-pairs-root : is_whole e && le zero64 e ≡ false → power_pairs s e ≡ 0
  power-pairs-root h = rw h

module _ (s t : Sum) where
  -- E to a single x
  pub pow-exp : is_euler (as_constant s) && is_x t ≡ true → pow s t ≡ alone Exp zero64 t complex.one
  unfolding pow
  pow-exp h = rw h

  pub pow-pairs-exp : is_euler (as_constant s) && is_x t ≡ true → pow_pairs s t ≡ 0
  unfolding pow_pairs
  pow-pairs-exp h = rw h

  module _ (h : is_euler (as_constant s) && is_x t ≡ false) where
    -- a real power
    pub pow-real : (e : Float) → real_of (constant_of (as_constant t)) ≡ Some e → pow s t ≡ power s e
    unfolding pow
    pow-real e r = rw h (by-real-is (as_constant t) (power s) e r)

    pub pow-pairs-real : (e : Float) → real_of (constant_of (as_constant t)) ≡ Some e → pow_pairs s t ≡ power_pairs s e
    unfolding pow_pairs
    pow-pairs-real e r = rw h (real-pairs-is (as_constant t) (power_pairs s) e r)

    -- any other
    pub pow-not : real_of (constant_of (as_constant t)) ≡ None → pow s t ≡ refused TooComplex
    unfolding pow
    pow-not r = rw h (by-real-not (as_constant t) (power s) r)

  -- a real base
  pub log-real : (e : Float) → real_of (constant_of (as_constant t)) ≡ Some e → log s t ≡ alone Log e s complex.one
  unfolding log
  log-real e r = by-real-is (as_constant t) (λ base. alone Log base s complex.one) e r

  pub log-not : real_of (constant_of (as_constant t)) ≡ None → log s t ≡ refused TooComplex
  unfolding log
  log-not r = by-real-not (as_constant t) (λ base. alone Log base s complex.one) r

-- ---- terms over a sum

-- x has one cell
pub x-some : (t : Sum) → is_x t ≡ true → 0 < size t
unfolding is_x size
x-some none h = differ (sym h)
x-some (and k p i c r) h = omega arith

pub exp-head : (n : ℕ) → 0 < n → GoodHead (entry Exp n zero64 complex.one)
exp-head n h = record { least = omega arith; most = omega arith; none_else = λ z. bits-0; inside = ne_eqb n 0 (λ z. omega arith) }

pub log-head : (n : ℕ) (p : Float) → 0 < n → GoodHead (entry Log n p complex.one)
log-head n p h = record { least = omega arith; most = omega arith; none_else = λ z. differ z; inside = ne_eqb n 0 (λ z. omega arith) }
