-- `push_pair` meets its contract: a finite number is no NaN.
use lib.Ieee.Fits.{and_l, and_r}
use lib.Ieee.Scale.{finite}
use Rattle.numbers.proofs.Bits.{no_nan}
use Rattle.writing.proofs.draft.push_pair.Goals as goal

pub float_to_bits-result : goal.float_to_bits-result
float_to_bits-result c = no_nan _ (and_l (finite c.args.c.re) (finite c.args.c.im) c.requires)

pub float_to_bits-result-2 : goal.float_to_bits-result-2
float_to_bits-result-2 c = no_nan _ (and_r (finite c.args.c.re) (finite c.args.c.im) c.requires)
