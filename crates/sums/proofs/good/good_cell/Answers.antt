-- `sums::good::good_cell` meets its contract: its five tests are those of a fine cell.
use Rattle.cells.specs.Contract.Book.{shown}
use Rattle.sums.proofs.good.Cells.{fine-tests}
use Rattle.sums.proofs.good.good_cell.Goals as goal

pub returns : goal.returns
returns c =
    fine-tests (shown c.args.book.now) c.args.k c.args.end c.requires.0 c.good_head.ensures.1 _ _ _ _ c.finite_bits.ensures c.finite_bits-2.ensures c.finite_bits-3.ensures
    c.good_head.ensures.0
