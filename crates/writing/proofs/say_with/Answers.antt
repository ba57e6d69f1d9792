-- `say_with` meets its contract: the number, then the primitive.
use Rattle.writing.specs.Draft.Writing.{push, does}
use Rattle.writing.proofs.Parts.{both-drawn}
use Rattle.writing.proofs.say_with.Goals as goal

pub returns : goal.returns
returns c = both-drawn (push c.args.x) (does c.args.p) c.say_real-e.ensures c.say_primitive.ensures
