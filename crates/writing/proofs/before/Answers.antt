-- `before` meets its contract: nothing before the first; else x again, or an On.
use Rattle.writing.proofs.Parts.{before-x, before_more}
use Rattle.writing.proofs.before.Goals as goal

pub returns-then-d : goal.returns-then-d
returns-then-d c = before-x c.if-first.false c.if-d.true c.say_primitive.ensures

pub returns : goal.returns
returns c = before_more c.if-first.false c.if-d.false c.wrap.ensures
