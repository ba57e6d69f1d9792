-- Roots that `root` computes, by bits. Assumes nothing.
use mathlib.Core.Path.{◌≡◌, refl}
use lib.Ieee
use lib.Ieee.{binary64, of_bits}
use Rattle.numbers.specs.Radical.Root.{root}

-- of 4
pub root-4 : root (of_bits binary64 0x4010000000000000) ≡ of_bits binary64 0x4000000000000000
unfolding root of_bits Ieee.units Ieee.size
root-4 = refl

-- of 2
pub root-2 : root (of_bits binary64 0x4000000000000000) ≡ of_bits binary64 0x3ff6a09e667f3bcd
unfolding root of_bits Ieee.units Ieee.size
root-2 = refl

-- of the smallest number, 2 ^ -1074, it is 2 ^ -537
pub root-smallest : root (of_bits binary64 1) ≡ of_bits binary64 0x1e60000000000000
unfolding root of_bits Ieee.units Ieee.size
root-smallest = refl

-- of the largest number
pub root-largest : root (of_bits binary64 0x7fefffffffffffff) ≡ of_bits binary64 0x5fefffffffffffff
unfolding root of_bits Ieee.units Ieee.size
root-largest = refl

-- of -0
pub root-minus-0 : root (of_bits binary64 0x8000000000000000) ≡ of_bits binary64 0x8000000000000000
unfolding root of_bits
root-minus-0 = refl
