-- The terms are read one after the other, and the first of another kind decides.
use Rattle.powers.proofs.divide.Powers.{power-more, power-other, power-end}
use Rattle.powers.proofs.divide.all_x.Goals as goal

pub returns-then-kinds-q-ne-X : goal.returns-then-kinds-q-ne-X
returns-then-kinds-q-ne-X c numbers p t l = power-other (c.loop-q.invariant numbers p t l) c.loop-q-test.true c.if-kinds-q-ne-X.true

pub loop-q-preserved : goal.loop-q-preserved
loop-q-preserved c numbers p t l = power-more (c.loop-q.invariant numbers p t l) c.loop-q-test.true c.if-kinds-q-ne-X.false

pub returns : goal.returns
returns c numbers p t l = power-end (c.loop-q.invariant numbers p t l) c.loop-q-test.false
