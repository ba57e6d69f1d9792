-- The bits of a finite number are no NaN's.
use Rattle.numbers.proofs.Bits.{no-nans}
use Rattle.replay_lists.proofs.at_x.number_of.Goals as goal

pub float_from_bits-result : goal.float_from_bits-result
float_from_bits-result c = no-nans _ c.finite_bits.ensures c.if-finite_bits.true
