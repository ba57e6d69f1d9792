-- In each arm the primitive is the arm's, and its base or exponent is finite.
use Rattle.primitives.proofs.Constants.{half-finite, two-finite, ten-finite, euler-finite}
use lib.Ieee.{binary64, of_bits}
use Rattle.arithmetic.proofs.add.Places.{room-result, result-operand}
use Rattle.powers.proofs.raise.Constants.{pow-constant}
use Rattle.primitives.proofs.form_one.Goals as goal

pub power_by-requires : goal.power_by-requires
power_by-requires c = (half-finite, c.requires.1, c.requires.2)

pub pow_of-requires : goal.pow_of-requires
pow_of-requires c = (rw c.e-e.ensures euler-finite, result-operand c.requires.1, room-result c.args.w c.requires.2)

pub pow_of-requires-in-Exp2 : goal.pow_of-requires-in-Exp2
pow_of-requires-in-Exp2 c = (two-finite, result-operand c.requires.1, room-result c.args.w c.requires.2)

pub pow_of-requires-in-Exp10 : goal.pow_of-requires-in-Exp10
pow_of-requires-in-Exp10 c = (ten-finite, result-operand c.requires.1, room-result c.args.w c.requires.2)

pub returns-in-Sqrt-clause-of_one : goal.returns-in-Sqrt-clause-of_one
returns-in-Sqrt-clause-of_one c s ls = rw c.in-Sqrt.is (rw (pow-constant s (of_bits binary64 0x3fe0000000000000)) (c.power_by.ensures.of_one s ls))
