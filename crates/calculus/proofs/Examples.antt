-- Sums with terms of several kinds derived and integrated, computed: at the powers of x they are what the power rules say. Assumes nothing.
use Prim.Native.Nat.{ℕ}
use mathlib.Core.Path.{◌≡◌, refl}
use mathlib.Core.Bool.{true, false}
use mathlib.Core.List.{[], ◌∷◌}
use lib.Ieee.{Float, neg, add, sub, mul, div, eq, lt, of_bits}
use Rattle.numbers.specs.Constants.{euler, two64}
use Rattle.numbers.specs.Signs.{zero64, one64}
use Rattle.numbers.specs.declared.complex.Complex.{Complex}
use Rattle.numbers.specs.Complex.Arith as complex
use Rattle.sums.specs.Tree.Kinds as kinds
use Rattle.sums.specs.Tree.Sums.{Sum, none, and, size, len, levels}
use Rattle.sums.specs.Tree.Order.{cmp_each}
use Rattle.sums.specs.Tree.Same.{same_sum}
use Rattle.sums.specs.Tree.Map.{sum, at, coef_in, put_in, formed, each_into}
use Rattle.arithmetic.specs.Singles.{constant}
use Rattle.calculus.specs.Derivative.{prime_from, derive_into, derive}
use Rattle.calculus.specs.Integral.{x, integrate_into, integrate}
use Rattle.calculus.specs.Rules.{slopes_at, all_vanish, last_at, last_log}

-- c times x to the p, before the rest
abbrev x-to : Float → Complex → Sum → Sum
x-to p c r = and kinds.X p none c r

-- c times a function of x, and no more
abbrev of-x : ℕ → Complex → Sum
of-x k c = and k zero64 x c none

abbrev two : Complex
two = complex.real two64

-- x² + d·sin x
abbrev square-and-sine : Complex → Sum
square-and-sine d = x-to two64 complex.one (of-x kinds.Sin d)

-- 2 + sin x
abbrev two-and-sine : Sum
two-and-sine = x-to zero64 two (of-x kinds.Sin complex.one)

-- 1/x + 2x + cos x
abbrev powers-and-cosine : Sum
powers-and-cosine = x-to (neg one64) complex.one (x-to one64 two (of-x kinds.Cos complex.one))

-- x² + sin x has the derivative 2x + cos x, and x² + 0·sin x has 2x + 0·cos x: the slope is 2 at the power 1, and there is none at the power 0
pub square-and-sine-derived :
    (derive (square-and-sine complex.one) ≡ sum (x-to one64 two (of-x kinds.Cos complex.one)))
    × (derive (square-and-sine complex.zero) ≡ sum (x-to one64 two (of-x kinds.Cos complex.zero)))
    × (slopes_at one64 (square-and-sine complex.zero) ≡ two ∷ [])
    × (slopes_at zero64 (square-and-sine complex.zero) ≡ [])
unfolding derive derive_into prime_from slopes_at each_into formed put_in coef_in cmp_each size len levels add sub mul eq lt of_bits
square-and-sine-derived = (refl, refl, refl, refl)

-- 2 + sin x has the derivative cos x, with nothing at the power 0, and 2 alone has constant 0
pub two-and-sine-derived :
    (derive two-and-sine ≡ sum (of-x kinds.Cos complex.one))
    × (all_vanish two-and-sine ≡ false)
    × (derive (constant two) ≡ sum (constant complex.zero))
    × (all_vanish (constant two) ≡ true)
unfolding derive derive_into prime_from all_vanish each_into formed put_in coef_in cmp_each size len levels add sub mul eq lt of_bits
two-and-sine-derived = (refl, refl, refl, refl)

-- 1/x + 2x + cos x has the integral x² + ln x + sin x
pub powers-and-cosine-integrated :
    (integrate powers-and-cosine ≡ sum (x-to two64 complex.one (and kinds.Log euler x complex.one (of-x kinds.Sin complex.one))))
    × (last_at two64 powers-and-cosine ≡ at complex.one)
    × (last_log powers-and-cosine ≡ at complex.one)
unfolding integrate integrate_into last_at last_log same_sum each_into formed put_in coef_in cmp_each size len levels neg add div eq lt of_bits
powers-and-cosine-integrated = (refl, refl, refl)
