-- The bits on the way are a number's. Assumes nothing.
use Prim.Native.Nat.{◌-◌, ◌/◌}
use native.Mathlib.Omega.{arith}
use Rattle.numbers.proofs.radical.Patterns.{no-nan-bits}
use Rattle.numbers.proofs.radical.near_root.Goals as goal

pub float_from_bits-y : goal.float_from_bits-y
float_from_bits-y c = no-nan-bits c.args.bits (omega (arith, c.requires))

pub float_from_bits-first : goal.float_from_bits-first
float_from_bits-first c = no-nan-bits (0x5fe6eb50c7b537a9 - c.args.bits / 2) (omega arith)
