-- What is asked of a constant that is a power, a base or E.
use Rattle.std.specs.Prelude.{Bool, false, cond, Option, Some, None, Float}
use Rattle.numbers.specs.Constants.{euler}
use Rattle.numbers.specs.Complex.Arith as complex
use Rattle.numbers.specs.declared.complex.Complex.{Complex}

-- its real number, where |im| < 2^-52
abbrev pub real_of : Option Complex → Option Float
real_of (Some c) = cond (complex.is_real c) (Some c.re) None
real_of None = None

-- whether it is E
abbrev pub euler_is : Option Complex → Bool
euler_is (Some c) = complex.same c (complex.real euler)
euler_is None = false
