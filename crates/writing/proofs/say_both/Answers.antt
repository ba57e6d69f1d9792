-- `say_both` meets its contract: one record, then the other.
use Rattle.writing.specs.Draft.Writing.{does}
use Rattle.writing.proofs.Parts.{both-drawn}
use Rattle.writing.proofs.say_both.Goals as goal

pub returns : goal.returns
returns c = both-drawn (does c.args.p) (does c.args.q) c.say_primitive-e.ensures c.say_primitive.ensures
