-- Each cell is read: it ends the walk, or its inside is what is asked.
use Rattle.std.proofs.Common.{sym}
use Rattle.powers.proofs.raise.Down.{down-reads, root-several, root-x, root-other, root-div, root_none}
use Rattle.powers.proofs.raise.can_root.Goals as goal

pub load-x-requires : goal.load-x-requires
load-x-requires c = down-reads (c.loop-k.invariant _ c.requires.1) c.loop-k-test.true

pub returns-then-k-x : goal.returns-then-k-x
returns-then-k-x c s l = sym (root-several c.load-x.ensures (c.loop-k.invariant s l) c.loop-k-test.true c.if-k-x.true)

pub returns-then-x-eq-X : goal.returns-then-x-eq-X
returns-then-x-eq-X c s l = sym (root-x c.load-x.ensures (c.loop-k.invariant s l) c.loop-k-test.true c.if-k-x.false c.if-x-eq-X.true)

pub returns-then-x-ne-DIV : goal.returns-then-x-ne-DIV
returns-then-x-ne-DIV c s l = sym (root-other c.load-x.ensures (c.loop-k.invariant s l) c.loop-k-test.true c.if-k-x.false c.if-x-eq-X.false c.if-x-ne-DIV.true)

pub loop-k-preserved : goal.loop-k-preserved
loop-k-preserved c s l = root-div c.load-x.ensures (c.loop-k.invariant s l) c.loop-k-test.true c.if-k-x.false c.if-x-eq-X.false c.if-x-ne-DIV.false

pub returns : goal.returns
returns c s l = sym (root_none (c.loop-k.invariant s l) c.loop-k-test.false)
