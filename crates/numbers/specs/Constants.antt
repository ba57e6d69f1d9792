-- The constants, by their bits: the binary64 numbers nearest e, ln 2 and ln 10, 2 to the -52, a half and 2.
use Rattle.std.specs.Prelude.{Float}
use Rattle.std.specs.Float.{binary64}
use Rattle.std.specs.Float.Ieee.{of_bits}

abbrev pub euler : Float
euler = of_bits binary64 0x4005bf0a8b145769

abbrev pub ln2 : Float
ln2 = of_bits binary64 0x3fe62e42fefa39ef

abbrev pub ln10 : Float
ln10 = of_bits binary64 0x40026bb1bbb55516

abbrev pub epsilon : Float
epsilon = of_bits binary64 0x3cb0000000000000

abbrev pub half64 : Float
half64 = of_bits binary64 0x3fe0000000000000

abbrev pub two64 : Float
two64 = of_bits binary64 0x4000000000000000
