-- `then_do` meets its contract: a primitive after what was said.
use Rattle.inverse.proofs.Words.{spelt-act}
use Rattle.inverse.proofs.then_do.Goals as goal

pub returns : goal.returns
returns c = spelt-act _ c.in_ok-d.was c.say_primitive-e.ensures
