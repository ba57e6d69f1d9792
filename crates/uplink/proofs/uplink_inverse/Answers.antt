-- The entry's answer, told.
use Rattle.algebra.specs.Replies as entry
use Rattle.uplink.proofs.Telling.{told-count}
use Rattle.uplink.proofs.uplink_inverse.Goals as goal

pub returns : goal.returns
returns c = told-count entry.inverse c.inverse.result c.answer_numbers-n.ensures c.inverse.ensures
