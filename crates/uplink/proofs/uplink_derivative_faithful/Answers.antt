-- The entry's answer, told.
use Rattle.algebra.specs.Replies as entry
use Rattle.uplink.proofs.Telling.{told-count}
use Rattle.uplink.proofs.uplink_derivative_faithful.Goals as goal

pub returns : goal.returns
returns c = told-count entry.derivative_faithful c.derivative_faithful.result c.answer_numbers-n.ensures c.derivative_faithful.ensures
