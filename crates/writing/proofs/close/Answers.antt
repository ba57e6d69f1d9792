-- `close` meets its contract: what is written stays; else Identity, or x times 0.
use Rattle.writing.proofs.Parts.{close-full, close-x, close-zero}
use Rattle.writing.proofs.close.Goals as goal

pub returns-then-d : goal.returns-then-d
returns-then-d c = close-full _ c.if-d.true

pub returns-then-identity : goal.returns-then-identity
returns-then-identity c = close-x c.if-d.false c.if-identity.true c.say_primitive.ensures

pub returns : goal.returns
returns c = close-zero c.if-d.false c.if-identity.false c.say_with.ensures
