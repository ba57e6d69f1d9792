-- `then_by` meets its contract: the number, then the primitive.
use Rattle.inverse.proofs.Words.{spelt-join}
use Rattle.inverse.proofs.then_by.Goals as goal

pub returns : goal.returns
returns c = spelt-join c.then_number-t.ensures (c.then_do.ensures _)
