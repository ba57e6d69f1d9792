-- `others_of` meets its contract: what is left goes on from what was found.
use Rattle.std.proofs.Common.{arith}
use Rattle.cells.specs.Contract.Book.{shown}
use Rattle.arithmetic.proofs.add.Lying.{readable}
use Rattle.inverse.proofs.Searching.{look-start, look-end, look-next}
use Rattle.inverse.proofs.others_of.Goals as goal

pub loop-i-init : goal.loop-i-init
loop-i-init c = (omega arith, look-start (shown c.args.book.now) c.args.j c.args.m)

pub load-x-requires : goal.load-x-requires
load-x-requires c = readable c.loop-i.i c.requires.1 c.loop-i.invariant.0 c.loop-i-test.true

pub loop-i-preserved : goal.loop-i-preserved
loop-i-preserved c = (
  omega arith,
  look-next (shown c.args.book.now) c.args.j c.args.m c.loop-i.i c.loop-i.found c.loop-i.invariant.1 c.loop-i-test.true c.load-x.ensures c.wide.ensures c.next_other-found.ensures,
)

pub returns : goal.returns
returns c = look-end (shown c.args.book.now) c.args.j c.args.m c.loop-i.i c.loop-i.found c.loop-i.invariant.1 c.loop-i-test.false
