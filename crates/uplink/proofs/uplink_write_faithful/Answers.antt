-- The entry's answer, told; a flag other than 0 is true.
use Rattle.algebra.specs.Replies as entry
use Rattle.uplink.proofs.Telling.{told-count}
use Rattle.uplink.proofs.uplink_write_faithful.Goals as goal

pub returns : goal.returns
returns c = told-count (entry.write_faithful _) c.write_faithful.result c.answer_numbers-n.ensures c.write_faithful.ensures
