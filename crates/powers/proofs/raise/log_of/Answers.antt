-- The base is a constant.
use Rattle.powers.proofs.raise.Constants.{log-constant}
use Rattle.powers.proofs.raise.log_of.Goals as goal

pub returns-clause-of_one : goal.returns-clause-of_one
returns-clause-of_one c s l = rw (log-constant s c.args.base) (c.over.ensures.of_one s l)
