-- A constant formed of two numbers' bits. Assumes nothing.
use Prim.Native.Nat.{ℕ}
use mathlib.Core.Path.{◌≡◌, refl}
use mathlib.Core.Bool.{Bool, false, ◌&&◌}
use lib.Ieee.{binary64, of_bits}
use lib.Ieee.Bits.{of_bits-fits}
use lib.Ieee.Scale.{finite}
use Rattle.numbers.specs.Signs.{zero64}
use Rattle.numbers.specs.Complex.Arith as complex
use Rattle.numbers.proofs.Finite.{zero-is-finite}
use Rattle.limits.specs.declared.Refusal.TheVariants.{NotFinite}
use Rattle.sums.specs.Tree.Sums.{Sum, none, size}
use Rattle.sums.specs.Tree.Map.{sum, refused, formed, coef_in}
use Rattle.arithmetic.specs.Singles.{GoodSum}
use Rattle.arithmetic.proofs.Goodness.{x-head, none-good, good-alone}
use Rattle.stack.specs.Steps.{constant_of}

-- a constant
pub constant-good : (re im : ℕ) {r : Sum} → constant_of re im ≡ sum r → GoodSum r
constant-good re im h =
    good-alone (x-head (size none) zero64 (complex.complex (of_bits binary64 re) (of_bits binary64 im)) (of_bits-fits binary64 0)
    (record { re = of_bits-fits binary64 re; im = of_bits-fits binary64 im })) none-good h

-- no number is formed of bits that are of none
pub not_finite : (re im : ℕ) {x y : Bool} → x ≡ finite (of_bits binary64 re) → y ≡ finite (of_bits binary64 im) → x && y ≡ false → constant_of re im ≡ refused NotFinite
unfolding formed coef_in
not_finite re im {x} {y} e d h =
    let f : finite (of_bits binary64 re) && finite (of_bits binary64 im) ≡ false = rw (← e, ← d) h in
    rw (zero-is-finite, f) refl
