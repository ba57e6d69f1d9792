-- The entry's answer, told; a flag other than 0 is true.
use Rattle.algebra.specs.Replies as entry
use Rattle.uplink.proofs.Telling.{told-count}
use Rattle.uplink.proofs.uplink_write.Goals as goal

pub returns : goal.returns
returns c = told-count (entry.write _) c.write.result c.answer_numbers-n.ensures c.write.ensures
