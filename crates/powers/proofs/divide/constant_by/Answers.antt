-- 0 is copied: the sum lies at its place too.
use Rattle.std.proofs.Common.{◌+◌, arith}
use Rattle.cells.proofs.Laws.{room-less}
use Rattle.sums.proofs.order.Walk.{lies-copied}
use Rattle.powers.proofs.divide.constant_by.Goals as goal

pub returns-then-zero-clause-of_two : goal.returns-then-zero-clause-of_two
returns-then-zero-clause-of_two c s t ls lt =
    let few = c.requires.left.few in
    rw (← c.is_zero-zero.ensures, c.if-zero.true) (few, lies-copied c.copy_within.ensures.copied (room-less {n = c.args.w + (64 + 64)} (omega arith) c.requires.room) ls)
