-- The words say what the fields are. Assumes nothing.
use native.Mathlib.Omega.{arith}
use Rattle.formats.proofs.record.Stands.{words-simple}
use Rattle.formats.proofs.fields.is_simple.Goals as goal

pub returns : goal.returns
returns c =
    words-simple c.args.list.now (λ i. omega (arith, c.type_inv.list i)) c.args.i (omega arith) _ _ _
    c.eight-head.ensures
    c.eight-re.ensures
    c.eight-im.ensures
