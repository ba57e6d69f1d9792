-- The deepest c of the sums held lie from v on, and are copied down to the stack's end.
use Rattle.std.proofs.Common.{◌+◌, ◌-◌, ◌≤◌, None, Some}
use Rattle.stack.specs.Contract.Arena.{slots}
use Rattle.stack.proofs.slots.Laws.{space-less}
use Rattle.modifiers.specs.Holding.{deepest}
use Rattle.modifiers.proofs.hold.Moves.{Found, found-for, search-held, lowest-at, lowest-within, lent_never, lent_fits, lent-full}
use Rattle.modifiers.proofs.lend.lend_deepest.Goals as goal
use Rattle.modifiers.proofs.lend.lend_deepest.Goals.{In-Some}

-- what the search found of the sums held
found : (c : In-Some) → Found (slots c.args.arena.now) c.args.v (c.args.v + c.args.m) (c.args.k - c.args.c) (Some c.in-Some.w)
found c = found-for (slots c.args.arena.now) c.args.v (c.args.v + c.args.m) (Some c.in-Some.w) c.less.ensures (rw c.sizes.ensures at c.in-Some.ensures)

within : (c : In-Some) → (c.args.v ≤ c.in-Some.w) × (c.args.v + (c.in-Some.w - c.args.v) ≤ c.args.v + c.args.m)
within c = lowest-within (c.args.k - c.args.c) c.in-Some.w c.requires.2.0 (found c) c.requires.2.1

pub measure-d-requires : goal.measure-d-requires
measure-d-requires c = rw c.sizes.ensures (search-held c.args.v (c.args.v + c.args.m) c.requires.2.0 c.requires.1 c.requires.2.1)

pub returns-in_default-clause-stacked : goal.returns-in_default-clause-stacked
returns-in_default-clause-stacked c ss up len =
    absurd (lent_never c.args.k c.args.c ss (found-for (slots c.args.arena.now) c.args.v (c.args.v + c.args.m) None c.less.ensures (rw c.sizes.ensures at c.in_default.ensures)) len up)

pub overflow_sub-n : goal.overflow_sub-n
overflow_sub-n c = (within c).0

pub returns-then-v-used-clause-stacked : goal.returns-then-v-used-clause-stacked
returns-then-v-used-clause-stacked c ss up len =
    let d = (goal.at.returns-then-v-used-clause-stacked c).In-Some in
    lent-full c.args.at (c.in-Some.w - c.args.v) (deepest c.args.c ss) c.requires.0 (lowest-at c.args.k c.args.c c.in-Some.w ss (found d) len up) c.if-v-used.true

pub sink-requires : goal.sink-requires
sink-requires c = (c.requires.0.some.1.below, space-less (within (goal.at.sink-requires c).In-Some).1 c.requires.1)

pub returns-clause-stacked : goal.returns-clause-stacked
returns-clause-stacked c ss up len =
    let d = (goal.at.returns-clause-stacked c).In-Some in
    lent_fits c.args.at (c.in-Some.w - c.args.v) (deepest c.args.c ss) c.requires.0 (space-less (within d).1 c.requires.1)
    (lowest-at c.args.k c.args.c c.in-Some.w ss (found d) len up) c.if-v-used.false c.sink.ensures.sunk
