-- The pairs that some lists multiply, as document 02 has them.
use Rattle.std.specs.Prelude.{ℕ, ◌≡◌, List, [], ◌∷◌, Float}
use Rattle.std.specs.Float.{binary64}
use Rattle.std.specs.Float.Ieee.{of_bits}
use Rattle.numbers.specs.Signs.{one64}
use Rattle.formats.specs.declared.record.Record.{Record}
use Rattle.formats.specs.declared.record.Kind.TheVariants as kind
use Rattle.formats.specs.declared.record.Modifier.TheVariants.{Both}
use Rattle.formats.specs.declared.record.Primitive.TheVariants.{Add, Mul, Pow, Dup, Pop, Exp2, Complex}
use Rattle.formats.specs.Names.{modifier_no}
use Rattle.writing.specs.Draft.Writing.{record_of, push, does}
use Rattle.algebra.specs.Reading.{read_list, pairs_of}
use Rattle.theorems.specs.Cases.{bytes_of}

-- the pairs that `read` tells
abbrev pub told : List Record → ℕ
told rs = pairs_of (read_list (bytes_of rs))

abbrev two : Float
two = of_bits binary64 0x4000000000000000

abbrev three : Float
three = of_bits binary64 0x4008000000000000

abbrev five : Float
five = of_bits binary64 0x4014000000000000

-- Both over a body of n records that takes no argument: it runs twice
abbrev both : ℕ → Record
both n = record_of kind.Modifier (modifier_no Both) 0 n 0 0

abbrev body_of : ℕ → Record
body_of n = record_of kind.Body 0 0 n 0 0

-- a product and a power are counted, and a body twice where it runs twice; Complex and a power of 2 are not, though they multiply
pub record PairsTold : Type 0 where
  pub square : told (does Dup ∷ does Mul ∷ []) ≡ 1
  pub cube : told (push three ∷ does Pow ∷ []) ≡ 2
  pub cube_of_two : told (push one64 ∷ does Add ∷ push three ∷ does Pow ∷ []) ≡ 10
  pub twice : told (both 3 ∷ body_of 2 ∷ push two ∷ does Mul ∷ []) ≡ 2
  pub constant : told (does Pop ∷ push five ∷ does Exp2 ∷ []) ≡ 0
  pub imaginary : told (does Dup ∷ does Complex ∷ []) ≡ 0
