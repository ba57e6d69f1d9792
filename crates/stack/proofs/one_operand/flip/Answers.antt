-- The lower sum is copied to the working places, the upper one sinks to where it was, and the copy is brought on top.
use Rattle.std.proofs.Common.{arith}
use Rattle.cells.specs.Contract.Book.{seen}
use Rattle.cells.proofs.Laws.{room-less, copied-kept}
use Rattle.stack.specs.Contract.Arena.{slots, of, Space}
use Rattle.stack.proofs.slots.Laws.{space-less, space-same}
use Rattle.stack.proofs.one_operand.Working.{kept-outside}
use Rattle.stack.proofs.one_operand.Turning.{below, turned}
use Rattle.stack.proofs.one_operand.flip.Goals as goal
use Rattle.stack.proofs.one_operand.flip.Goals.{After-copy_within}

-- the arena is as large as it was
space : (c : After-copy_within) → Space (of (seen c.copy_within.new.self) c.args.arena.now.sizes.now) c.args.u
space c = space-same (kept-outside c.args.arena.now.sizes.now (copied-kept c.copy_within.ensures.copied)).long c.requires.space

pub overflow_sub-i : goal.overflow_sub-i
overflow_sub-i c = let b = below c.requires.tops.0 c.requires.tops.1.1 in omega arith

pub overflow_sub-i-2 : goal.overflow_sub-i-2
overflow_sub-i-2 c = let b = below c.requires.tops.0 c.requires.tops.1.1 in omega arith

pub copy_within-requires : goal.copy_within-requires
copy_within-requires c =
    let b = below c.requires.tops.0 c.requires.tops.1.1 in
    let room = c.requires.space.cells in
    (room-less {n = c.args.u} (omega arith) room, room-less {n = c.args.u} (omega arith) room)

pub sink-requires : goal.sink-requires
sink-requires c =
    let b = below c.requires.tops.0 c.requires.tops.1.1 in
    (omega arith, space-less {n = c.args.u} (omega arith) (space (goal.at.sink-requires c).After-copy_within))

pub bring-requires : goal.bring-requires
bring-requires c =
    let b = below c.requires.tops.0 c.requires.tops.1.1 in (
      b.second,
      b.second-few,
      omega arith,
      space-less {n = c.args.u} (omega arith) (space-same {a' = slots c.sink.new.arena} c.sink.ensures.sunk.outside.long (space (goal.at.bring-requires c).After-copy_within)),
    )

pub returns-clause-turned : goal.returns-clause-turned
returns-clause-turned c =
    turned {b = seen c.copy_within.new.self} c.args.u c.args.n c.args.m c.requires.space c.requires.tops.0 (below c.requires.tops.0 c.requires.tops.1.1)
    c.copy_within.ensures.copied c.sink.ensures.sunk c.bring.ensures.outside c.bring.ensures.of_one
