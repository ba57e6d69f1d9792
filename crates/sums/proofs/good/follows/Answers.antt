-- `sums::good::follows` meets its contract: the two terms that were read are compared.
use Rattle.cells.specs.Contract.Book.{shown}
use Rattle.sums.proofs.good.Rising.{compared}
use Rattle.sums.proofs.good.follows.Goals as goal

pub returns : goal.returns
returns c = compared (shown c.args.book.now) _ _ _ _ _ _ _ c.load-x.ensures c.load-y.ensures c.if-k-last.false c.cmp_term.ensures c.is_less.ensures
