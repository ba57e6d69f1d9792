-- Assumes nothing.
use native.Mathlib.Omega.{arith}
use Rattle.formats.proofs.record.Bytes.{number-four}
use Rattle.formats.proofs.record.four.Goals as goal

pub returns : goal.returns
returns c =
    let e = number-four c.args.s.now c.args.at (omega arith) in
    (omega (arith, c.from_le_bytes.ensures), omega arith)
