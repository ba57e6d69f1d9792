-- `numbers::below_epsilon` meets its contract: both its tests are against 2^-52. Assumes nothing.
use Rattle.numbers.proofs.below_epsilon.Goals as goal
use Rattle.numbers.proofs.Small.{epsilon-test}

pub returns : goal.returns
returns c = rw (c.eps.ensures, c.eps-2.ensures) (epsilon-test c.args.x)
