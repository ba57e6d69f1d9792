-- The coefficient of x to a power, by a sum's first entry. Assumes nothing.
use Prim.Native.Nat.{ℕ}
use mathlib.Core.Path.{◌≡◌, refl}
use mathlib.Core.Bool.{Bool, true, false, ◌&&◌, cond}
use lib.Dec.{eqb}
use lib.Ieee.{Float, eq}
use Rattle.numbers.specs.declared.complex.Complex.{Complex}
use Rattle.sums.specs.Tree.Kinds as kinds
use Rattle.sums.specs.Tree.Sums.{Sum, and}
use Rattle.sums.specs.Tree.Map.{at}
use Rattle.arithmetic.specs.Powers.{coef_at}
use Rattle.inverse.specs.Inverse.{or_zero, coef_of}

pub coef-first : (q : Float) (k : ℕ) (p : Float) (i : Sum) (c : Complex) (r : Sum) → coef_of q (and k p i c r) ≡ cond (eqb k kinds.X && eq p q) c (coef_of q r)
unfolding coef_of coef_at
coef-first q k p i c r = by (eqb k kinds.X && eq p q)
  where
    by : (b : Bool) → or_zero (cond b (at c) (coef_at q r)) ≡ cond b c (or_zero (coef_at q r))
    by true = refl
    by false = refl
