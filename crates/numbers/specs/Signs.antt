-- Zeros, ones and signs. There are two zeros, +0 and -0.
use Rattle.std.specs.Prelude.{◌*◌, ◌≡◌, Bool, false, pos, Float}
use Rattle.std.specs.Float.{nan, inf, fin, binary64}
use Rattle.std.specs.Float.Ieee.{up, of_bits}

-- the literals 0.0 and 1.0, by their bits
abbrev pub zero64 : Float
zero64 = of_bits binary64 0

abbrev pub one64 : Float
one64 = of_bits binary64 0x3ff0000000000000

-- +0, and -0 for true
abbrev pub ±0 : Bool → Float
±0 s = fin s 0 (pos 0)

-- 1, and -1 for true
abbrev pub ±1 : Bool → Float
±1 s = fin s 1 (pos 0)

-- negative; a NaN counts as positive
abbrev pub sign : Float → Bool
sign nan = false
sign (inf s) = s
sign (fin s m e) = s

-- +0 or -0
abbrev pub Zero : Float → Type 0
Zero nan = ⊥
Zero (inf s) = ⊥
Zero (fin s m e) = m * up e ≡ 0
