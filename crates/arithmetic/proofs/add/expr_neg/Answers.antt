-- The sum is copied, and negated there.
use Rattle.std.proofs.Common.{◌+◌, arith}
use Rattle.cells.specs.Contract.Book.{seen}
use Rattle.cells.proofs.Laws.{room-less}
use Rattle.sums.specs.Tree.Sums.{Sum}
use Rattle.sums.specs.Contract.Lies.{Lies}
use Rattle.sums.proofs.order.Walk.{lies-copied}
use Rattle.arithmetic.proofs.add.expr_neg.Goals as goal
use Rattle.arithmetic.proofs.add.expr_neg.Goals.{After-copy_within}

copied : (c : After-copy_within) (s : Sum) → Lies (seen c.args.book.now) c.args.i (c.args.i + c.args.n) 4 s → Lies (seen c.copy_within.new.self) c.args.p (c.args.p + c.args.n) 4 s
copied c s ls = lies-copied c.copy_within.ensures.copied (room-less {n = c.args.p + 64} (omega (arith, c.requires.0.few)) c.requires.1) ls

pub neg_each-requires : goal.neg_each-requires
neg_each-requires c = (c.requires.0.held.0, copied (goal.at.neg_each-requires c).After-copy_within _ c.requires.0.held.1)

pub returns-clause-of_one : goal.returns-clause-of_one
returns-clause-of_one c s ls = c.neg_each.ensures.of_one s (copied (goal.at.returns-clause-of_one c).After-copy_within s ls)
