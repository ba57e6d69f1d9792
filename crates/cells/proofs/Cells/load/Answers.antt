-- `Cells::load` meets its contract: the bits of a finite number are no NaN's.
use lib.Ieee.Bits.{nan_bits_is}
use Rattle.numbers.proofs.Bits.{no_nan}
use Rattle.cells.proofs.Cells.load.Goals as goal

pub float_from_bits-re : goal.float_from_bits-re
float_from_bits-re c = rw nan_bits_is (no_nan _ c.requires.1.re)

pub float_from_bits-im : goal.float_from_bits-im
float_from_bits-im c = rw nan_bits_is (no_nan _ c.requires.1.im)

pub float_from_bits-result : goal.float_from_bits-result
float_from_bits-result c = rw nan_bits_is (no_nan _ c.requires.1.num)
