-- The entry's answer, told.
use Rattle.algebra.specs.Replies as entry
use Rattle.uplink.proofs.Telling.{told-count}
use Rattle.uplink.proofs.uplink_integral_faithful.Goals as goal

pub returns : goal.returns
returns c = told-count entry.integral_faithful c.integral_faithful.result c.answer_numbers-n.ensures c.integral_faithful.ensures
