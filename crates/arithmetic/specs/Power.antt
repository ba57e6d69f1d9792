-- The Rust's power and logarithm of a sum, and the primitives that are made of them.
use Rattle.std.specs.Prelude.{ℕ, zero, suc, Bool, true, false, ◌&&◌, not, cond, eqb, Float, Option, Some, None}
use Rattle.std.specs.Float.Ieee.{le, of_bits}
use Rattle.std.specs.Float.{binary64}
use Rattle.numbers.specs.Constants.{euler}
use Rattle.numbers.specs.Numbers.{is_whole, small_whole}
use Rattle.numbers.specs.Ops.{◌⊗◌}
use Rattle.numbers.specs.Signs.{zero64, one64}
use Rattle.numbers.specs.declared.complex.Complex.{Complex}
use Rattle.numbers.specs.Complex.Arith as complex
use Rattle.limits.specs.declared.Refusal.TheVariants.{TooComplex, NeedsMath, BigPower}
use Rattle.sums.specs.Tree.Kinds.{X, Div, Log, Exp}
use Rattle.sums.specs.Tree.Sums.{Sum, none, and, size, entry}
use Rattle.sums.specs.Tree.Map.{Outcome, sum, refused, Found, at, absent, and_then_sum, unless}
use Rattle.arithmetic.specs.Singles.{single, alone, constant, as_constant, is_x}
use Rattle.arithmetic.specs.Adding.{add_sums, sub_sums}
use Rattle.arithmetic.specs.Product.{mulable, product}
use Rattle.arithmetic.specs.Quotient.{quotient}

-- n more products with s
unfoldable pub raised : ℕ → Sum → Sum → Outcome
raised zero acc s = sum acc
raised (suc n) acc s = and_then_sum (product acc s) (λ acc'. raised n acc' s)

-- by a whole number: 0 gives constant 0; n multiplies n - 1 times, to highest_power; above that the first product is still asked for 7
abbrev pub whole_power : Sum → Option ℕ → Outcome
whole_power s (Some zero) = sum (constant complex.zero)
whole_power s (Some (suc n)) = raised n s s
whole_power s None = unless (mulable s s) TooComplex (refused BigPower)

-- by any other number: one term only, an X or a Div of such a sum
unfoldable pub rootable : Sum → Bool
rootable none = false
rootable (and k p i c none) = cond (eqb k X) true (eqb k Div && rootable i)
rootable (and k p i c (and l q j d r)) = false

-- the coefficient is 1, all the way down
unfoldable pub unit_coefs : Sum → Bool
unit_coefs none = true
unit_coefs (and k p i c r) = complex.same c complex.one && unit_coefs i

-- 1 to the power e; im keeps a sign where e isn't whole
abbrev pub root_of_one : Complex → Float → Complex
root_of_one c e = complex.complex one64 (cond (is_whole e) zero64 (c.im ⊗ e))

unfoldable pub rooted : Float → Sum → Outcome
rooted e none = sum none
rooted e (and k p i c r) = cond (eqb k X) (alone X (p ⊗ e) none (root_of_one c e)) (and_then_sum (rooted e i) (λ w. alone Div zero64 w (root_of_one c e)))

abbrev pub power : Sum → Float → Outcome
power s e =
    cond (is_whole e && le zero64 e) (whole_power s (small_whole e))
    (unless (rootable s) TooComplex (unless (unit_coefs s) NeedsMath (rooted e s)))

-- a constant's real number, where |im| < 2^-52
abbrev pub by_real : Found → (Float → Outcome) → Outcome
by_real absent f = refused TooComplex
by_real (at c) f = unless (complex.is_real c) TooComplex (f c.re)

abbrev pub is_euler : Found → Bool
is_euler absent = false
is_euler (at c) = complex.same c (complex.real euler)

-- the base s to the power t: the constant E to a single x gives Exp
unfoldable pub pow : Sum → Sum → Outcome
pow s t = cond (is_euler (as_constant s) && is_x t) (alone Exp zero64 t complex.one) (by_real (as_constant t) (power s))

-- the logarithm of s to the base t
unfoldable pub log : Sum → Sum → Outcome
log s t = by_real (as_constant t) (λ base. alone Log base s complex.one)

-- ---- the primitives made of them

abbrev pub number : ℕ → Sum
number bits = constant (complex.real (of_bits binary64 bits))

abbrev pub sqrt : Sum → Outcome
sqrt s = pow s (number 0x3fe0000000000000)

abbrev pub exp : Sum → Outcome
exp s = pow (constant (complex.real euler)) s

abbrev pub exp2 : Sum → Outcome
exp2 s = pow (number 0x4000000000000000) s

abbrev pub exp10 : Sum → Outcome
exp10 s = pow (number 0x4024000000000000) s

abbrev pub ln : Sum → Outcome
ln s = log s (constant (complex.real euler))

abbrev pub log2 : Sum → Outcome
log2 s = log s (number 0x4000000000000000)

abbrev pub log10 : Sum → Outcome
log10 s = log s (number 0x4024000000000000)

abbrev pub reciprocal : Sum → Outcome
reciprocal s = quotient (constant complex.one) s

-- 1 - s
abbrev pub not_sum : Sum → Outcome
not_sum s = sub_sums (constant complex.one) s

-- b + a·i: of two constants by one operation each, else by a product and a sum
abbrev pub complex_of : Sum → Sum → Found → Found → Outcome
complex_of a b (at c) (at d) = alone X zero64 none (complex.plus (complex.times c complex.imaginary) d)
complex_of a b (at c) absent = and_then_sum (product a (constant complex.imaginary)) (λ w. add_sums b w)
complex_of a b absent d = and_then_sum (product a (constant complex.imaginary)) (λ w. add_sums b w)

abbrev pub complex_sum : Sum → Sum → Outcome
complex_sum a b = complex_of a b (as_constant a) (as_constant b)
