-- `Book::store` meets its contract: a finite number is no NaN.
use Rattle.numbers.proofs.Bits.{no_nan}
use Rattle.cells.proofs.Book.store.Goals as goal

pub float_to_bits-num : goal.float_to_bits-num
float_to_bits-num c = no_nan _ c.requires.1.num

pub float_to_bits-re : goal.float_to_bits-re
float_to_bits-re c = no_nan _ c.requires.1.re

pub float_to_bits-im : goal.float_to_bits-im
float_to_bits-im c = no_nan _ c.requires.1.im
