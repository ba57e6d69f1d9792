-- The value of single terms, of none and of two. Assumes nothing.
use mathlib.Core.Path.{◌≡◌, refl}
use mathlib.Core.List.{[], ◌∷◌}
use lib.Ieee.{Float, eq, of_bits, mul}
use Rattle.numbers.specs.Signs.{zero64, one64}
use Rattle.numbers.specs.Constants.{two64}
use Rattle.numbers.specs.Ops.{◌⊕◌, ◌⊗◌}
use Rattle.numbers.specs.Radical.Root.{root}
use Rattle.numbers.specs.declared.complex.Complex.{Complex}
use Rattle.numbers.specs.Complex.Arith as complex
use Rattle.running.specs.Primitives.{times}
use Rattle.values.specs.Value.{whole, half, power, value, term_value, plus_terms}

-- 2, without an imaginary part
abbrev two : Complex
two = record { re = two64; im = zero64 }

module _ (x : Float) where
  of_none : value x [] ≡ x ⊗ zero64
  unfolding value
  of_none = refl

  of-2 : value x (power (whole 0) two ∷ []) ≡ x ⊗ zero64 ⊕ two64
  unfolding value plus_terms term_value
  of-2 = refl

  -- bare x, then twice its square
  of-x-and-square : value x (power (whole 1) complex.one ∷ power (whole 2) two ∷ []) ≡ x ⊕ x ⊗ x ⊗ two64
  unfolding value plus_terms term_value times eq of_bits mul
  of-x-and-square = refl

  of-root : value x (power half two ∷ []) ≡ root x ⊗ two64
  unfolding value plus_terms term_value eq of_bits mul
  of-root = refl
