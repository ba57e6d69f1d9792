-- `numbers::finite_bits` meets its contract. Assumes nothing.
use mathlib.Core.Path.{sym}
use Rattle.numbers.proofs.Bits.{finite-bits}
use Rattle.numbers.proofs.finite_bits.Goals as goal

pub returns : goal.returns
returns c = sym (finite-bits c.args.b)
