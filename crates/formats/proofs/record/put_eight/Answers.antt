-- Assumes nothing.
use mathlib.Core.Path.{◌∙◌}
use native.Mathlib.Omega.{arith}
use Rattle.formats.proofs.record.Bytes.{length-bytes, bytes-le-eight, put_mid-sets}
use Rattle.formats.proofs.record.put_eight.Goals as goal

pub returns : goal.returns
returns c =
    put_mid-sets c.args.out.now _ _ c.args.at _ (omega arith) (omega (arith, length-bytes 8 c.args.v))
    (c.copy_from_slice.ensures.after ∙ c.to_le_bytes.ensures ∙ bytes-le-eight c.args.v)
