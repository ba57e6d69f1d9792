-- `write_over` meets its contract: by whether the coefficient is 1.
use Rattle.writing.proofs.Parts.{over-long}
use Rattle.writing.proofs.write_over.Goals as goal

pub returns : goal.returns
returns c = over-long c.if-unit.false c.say_real-e.ensures c.say_both.ensures
