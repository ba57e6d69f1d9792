-- `numbers::is_finite` meets its contract. Assumes nothing.
use Rattle.numbers.proofs.is_finite.Goals as goal
use Rattle.numbers.proofs.Finite.{finite-test}

pub returns : goal.returns
returns c = finite-test c.args.x
