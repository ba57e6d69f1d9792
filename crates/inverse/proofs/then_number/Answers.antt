-- `then_number` meets its contract: a number after what was said.
use Rattle.inverse.proofs.Words.{spelt-number}
use Rattle.inverse.proofs.then_number.Goals as goal

pub returns : goal.returns
returns c = spelt-number _ c.in_ok-d.was c.say_number.ensures
