-- `sums::bytes::put_sum` meets its contract: one cell more is written in each turn.
use Rattle.cells.specs.Contract.Book.{shown}
use Rattle.sums.proofs.bytes.Laws.{fives, put-none, put-more, put_all, bits_none, bits-more}
use Rattle.sums.proofs.bytes.put_sum.Goals as goal

pub loop-j-init : goal.loop-j-init
loop-j-init c = let f = fives (shown c.args.book.now) in record { bytes = put-none f c.args.i _; bits = bits_none f c.args.i }

pub loop-j-preserved : goal.loop-j-preserved
loop-j-preserved c =
    let f = fives (shown c.args.book.now) in
    let now = c.loop-j in
    let wrote = c.put_cell.ensures in
    record {
      bytes = put-more f c.args.i now.j _ _ _ now.invariant.bytes wrote.bytes;
      bits = bits-more f c.args.i now.j now.invariant.bits record { num = wrote.num; re = wrote.re; im = wrote.im };
    }

pub returns : goal.returns
returns c = put_all (shown c.args.book.now) c.args.i c.args.n c.loop-j.j _ _ _ c.loop-j.invariant.bytes c.loop-j.auto.j-end c.loop-j-test.false c.loop-j.invariant.bits
