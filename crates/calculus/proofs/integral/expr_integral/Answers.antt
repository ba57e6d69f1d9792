-- x is laid behind the result, and each entry is integrated.
use Rattle.std.proofs.Common.{◌+◌, arith}
use Rattle.cells.specs.Contract.Book.{seen}
use Rattle.cells.specs.Contract.Moves.{Kept}
use Rattle.cells.proofs.Laws.{room-same, kept-wider, put-kept}
use Rattle.arithmetic.proofs.add.Lying.{clear, lies-clear}
use Rattle.powers.proofs.raise.Turns.{source-kept}
use Rattle.calculus.proofs.integral.Storing.{x-laid}
use Rattle.calculus.proofs.integral.expr_integral.Goals as goal
use Rattle.calculus.proofs.integral.expr_integral.Goals.{After-store}

kept : (c : After-store) → Kept (seen c.args.book.now) (seen c.store.new.self) c.args.w (c.args.w + (64 + 64))
kept c = kept-wider (omega arith) (omega arith) (put-kept c.store.ensures.put)

pub integrate_each-requires : goal.integrate_each-requires
integrate_each-requires c =
    let k = kept (goal.at.integrate_each-requires c).After-store in
    (source-kept k c.requires.0, room-same k.long c.requires.1, x-laid c.args.w c.requires.1 c.store.ensures.put)

pub returns-clause-of_one : goal.returns-clause-of_one
returns-clause-of_one c t lt = c.integrate_each.ensures.of_one t (lies-clear (kept (goal.at.returns-clause-of_one c).After-store) (clear c.requires.0.apart) lt)
