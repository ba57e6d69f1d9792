-- The sum lies where its cells were copied to.
use Rattle.std.proofs.Common.{◌+◌, arith}
use Rattle.cells.proofs.Laws.{room-less}
use Rattle.sums.proofs.order.Walk.{lies-copied}
use Rattle.primitives.proofs.copied.Goals as goal

pub returns-clause-of_one : goal.returns-clause-of_one
returns-clause-of_one c s ls =
    let few = c.requires.0.few in
    (few, lies-copied c.copy_within.ensures.copied (room-less {n = c.args.p + 64} (omega arith) c.requires.1) ls)
