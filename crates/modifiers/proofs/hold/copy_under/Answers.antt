-- The deepest of the top k is found among them, and copied below them.
use Rattle.std.proofs.Common.{◌-◌, ◌+◌, ◌≤◌, None, Some}
use Rattle.stack.specs.Contract.Arena.{slots}
use Rattle.modifiers.proofs.hold.Moves.{Found, found-for, search-asks, search-top, copied-short, copied-never, copied-asks, copied}
use Rattle.modifiers.proofs.hold.copy_under.Goals as goal
use Rattle.modifiers.proofs.hold.copy_under.Goals.{In-Some, In-Some-e, In_default-e}

-- the top k begin at w
found : (c : In-Some) → Found (slots c.args.arena.now) 128 c.args.env.used c.args.k (Some c.in-Some.w)
found c = rw c.sizes.ensures at c.in-Some.ensures

-- all but the deepest of them begin at u
next : (c : In-Some-e) → Found (slots c.args.arena.now) c.in-Some.w c.args.env.used (c.args.k - 1) (Some c.in-Some-e.u)
next c = found-for (slots c.args.arena.now) c.in-Some.w c.args.env.used (Some c.in-Some-e.u) c.less.ensures (rw c.sizes-2.ensures at c.in-Some-e.ensures)

missed : (c : In_default-e) → Found (slots c.args.arena.now) c.in-Some.w c.args.env.used (c.args.k - 1) None
missed c = found-for (slots c.args.arena.now) c.in-Some.w c.args.env.used None c.less.ensures (rw c.sizes-2.ensures at c.in_default-e.ensures)

asks : (c : In-Some-e) → (c.in-Some.w ≤ c.in-Some-e.u) × (c.in-Some.w + (c.in-Some-e.u - c.in-Some.w) ≤ c.args.env.used)
asks c = copied-asks c.args.k c.in-Some.w c.in-Some-e.u c.requires (rw c.sizes.ensures at c.in-Some.ensures) (next c)

pub measure-d-requires : goal.measure-d-requires
measure-d-requires c = rw c.sizes.ensures (search-asks c.requires)

pub returns-in_default-clause-begins : goal.returns-in_default-clause-begins
returns-in_default-clause-begins c = copied-short c.args.at c.args.k c.too_few.result c.too_few.ensures (rw c.sizes.ensures at c.in_default.ensures)

pub measure-e-requires : goal.measure-e-requires
measure-e-requires c = rw c.sizes-2.ensures (search-top c.args.k c.in-Some.w c.requires (rw c.sizes.ensures at c.in-Some.ensures))

pub returns-in_default-e-clause-begins : goal.returns-in_default-e-clause-begins
returns-in_default-e-clause-begins c =
    absurd (copied-never c.args.k c.in-Some.w c.requires.some.0.stack (rw c.sizes.ensures at c.in-Some.ensures)
    (missed (goal.at.returns-in_default-e-clause-begins c).In_default-e) c.requires.some.1.stack)

pub overflow_sub-u : goal.overflow_sub-u
overflow_sub-u c = (asks c).0

pub copy_below-requires : goal.copy_below-requires
copy_below-requires c = (c.requires, (asks (goal.at.copy_below-requires c).In-Some-e).1)

pub returns-clause-begins : goal.returns-clause-begins
returns-clause-begins c =
    copied c.args.at c.args.k c.in-Some.w c.in-Some-e.u c.copy_below.result (rw c.sizes.ensures at c.in-Some.ensures)
    (next (goal.at.returns-clause-begins c).In-Some-e) c.copy_below.ensures.copies_below
