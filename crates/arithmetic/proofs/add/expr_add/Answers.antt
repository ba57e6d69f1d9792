-- The first sum is copied, and each entry of the second is added into it.
use Rattle.std.proofs.Common.{◌+◌, arith}
use Rattle.cells.specs.Contract.Book.{seen}
use Rattle.cells.specs.Contract.Moves.{Kept}
use Rattle.cells.proofs.Laws.{room-less, room-same, kept-wider, copied-kept}
use Rattle.sums.specs.Tree.Sums.{Sum}
use Rattle.sums.specs.Contract.Lies.{Lies}
use Rattle.sums.proofs.order.Walk.{lies-copied}
use Rattle.arithmetic.proofs.add.Lying.{clear, lies-clear, operand-kept}
use Rattle.arithmetic.proofs.add.expr_add.Goals as goal
use Rattle.arithmetic.proofs.add.expr_add.Goals.{After-copy_within}

copied : (c : After-copy_within) (s : Sum) → Lies (seen c.args.book.now) c.args.i (c.args.i + c.args.n) 4 s → Lies (seen c.copy_within.new.self) c.args.p (c.args.p + c.args.n) 4 s
copied c s ls = lies-copied c.copy_within.ensures.copied (room-less {n = c.args.p + 64} (omega (arith, c.requires.0.few)) c.requires.2) ls

kept : (c : After-copy_within) → Kept (seen c.args.book.now) (seen c.copy_within.new.self) c.args.p (c.args.p + 64)
kept c = kept-wider (omega arith) (omega (arith, c.requires.0.few)) (copied-kept c.copy_within.ensures.copied)

pub add_each-requires : goal.add_each-requires
add_each-requires c =
    let d = (goal.at.add_each-requires c).After-copy_within in (
      operand-kept (kept d) c.requires.1,
      record { few = c.requires.0.few; room = room-same (kept d).long c.requires.2; held = (c.requires.0.held.0, copied d _ c.requires.0.held.1) },
    )

pub returns-clause-of_two : goal.returns-clause-of_two
returns-clause-of_two c s t ls lt =
    let d = (goal.at.returns-clause-of_two c).After-copy_within in
    c.add_each.ensures.of_two s t (copied d s ls) (lies-clear (kept d) (clear c.requires.1.apart) lt)
