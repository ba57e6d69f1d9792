-- Assumes nothing.
use native.Mathlib.Omega.{arith}
use Rattle.formats.proofs.record.Bytes.{number-by-eight}
use Rattle.formats.proofs.record.eight.Goals as goal

pub returns : goal.returns
returns c = omega (arith, c.from_le_bytes.ensures, number-by-eight c.args.s.now c.args.at (omega arith))
