-- `coef_of` meets its contract: the next entry has the power, or what is left has the same coefficient.
use Rattle.std.proofs.Common.{arith}
use Rattle.cells.specs.Contract.Book.{shown}
use Rattle.arithmetic.proofs.add.Lying.{readable}
use Rattle.inverse.proofs.Searching.{seek-end, seek_found, seek-next}
use Rattle.inverse.proofs.coef_of.Goals as goal

pub load-x-requires : goal.load-x-requires
load-x-requires c = readable c.loop-i.i c.requires.1 c.loop-i.invariant.0 c.loop-i-test.true

pub returns-then-x-q : goal.returns-then-x-q
returns-then-x-q c = seek_found (shown c.args.book.now) c.args.j c.args.m c.args.q c.loop-i.i c.loop-i.invariant.1 c.loop-i-test.true c.load-x.ensures c.if-x-q.true

pub loop-i-preserved : goal.loop-i-preserved
loop-i-preserved c = (
  omega arith,
  seek-next (shown c.args.book.now) c.args.j c.args.m c.args.q c.loop-i.i c.loop-i.invariant.1 c.loop-i-test.true c.load-x.ensures c.wide.ensures c.if-x-q.false,
)

pub returns : goal.returns
returns c = seek-end (shown c.args.book.now) c.args.j c.args.m c.args.q c.loop-i.i c.loop-i.invariant.1 c.loop-i-test.false
