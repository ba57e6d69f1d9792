-- Powers of x and of its square root with their coefficients, and their value at x, from the terms alone.
use Rattle.std.specs.Prelude.{ℕ, zero, suc, Bool, true, false, List, [], ◌∷◌, Float}
use Rattle.numbers.specs.Signs.{zero64}
use Rattle.numbers.specs.Ops.{◌⊕◌, ◌⊗◌}
use Rattle.numbers.specs.Radical.Root.{root}
use Rattle.numbers.specs.declared.complex.Complex.{Complex}
use Rattle.numbers.specs.Complex.Arith as complex
use Rattle.running.specs.Primitives.{times}

-- an exponent: a whole number, or 0.5
pub data Exponent : Type 0 where
  whole : ℕ → Exponent
  half : Exponent

-- c times x to the power k
pub data Power : Type 0 where
  power : Exponent → Complex → Power

-- ---- the value; of a coefficient the real part counts

-- whether a coefficient is 1, as a pair
abbrev pub is_one : Complex → Bool
is_one c = complex.same c complex.one

abbrev pub times_unless : Bool → Float → Float → Float
times_unless true v c = v
times_unless false v c = v ⊗ c

-- power 0 is x times 0 plus c; others are the product of x from the left, or the root of x, then times the coefficient unless 1
unfoldable pub term_value : Float → Exponent → Complex → Float
term_value x (whole zero) c = x ⊗ zero64 ⊕ c.re
term_value x (whole (suc n)) c = times_unless (is_one c) (times n x x) c.re
term_value x half c = times_unless (is_one c) (root x) c.re

unfoldable pub plus_terms : Float → Float → List Power → Float
plus_terms x r [] = r
plus_terms x r (power k c ∷ ts) = plus_terms x (r ⊕ term_value x k c) ts

-- the terms added in rising power, from the left; no terms: x times 0
unfoldable pub value : Float → List Power → Float
value x [] = x ⊗ zero64
value x (power k c ∷ ts) = plus_terms x (term_value x k c) ts
