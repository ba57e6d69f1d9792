-- `push` meets its contract: a finite number is no NaN.
use Rattle.numbers.proofs.Bits.{no_nan}
use Rattle.writing.proofs.draft.push.Goals as goal

pub float_to_bits-result : goal.float_to_bits-result
float_to_bits-result c = no_nan _ c.requires
