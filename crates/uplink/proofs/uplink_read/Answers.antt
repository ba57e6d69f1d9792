-- The entry's answer, told.
use Rattle.algebra.specs.Replies as entry
use Rattle.uplink.proofs.Telling.{told-pairs}
use Rattle.uplink.proofs.uplink_read.Goals as goal

pub returns : goal.returns
returns c = told-pairs entry.read c.read.result c.read_numbers-n.ensures c.read.ensures
