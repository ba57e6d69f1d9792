-- The entry's answer, told.
use Rattle.uplink.proofs.Telling.{told-value}
use Rattle.uplink.proofs.uplink_value.Goals as goal

pub returns : goal.returns
returns c = told-value c.value.result c.value.ensures c.value_numbers-n.ensures
