-- The block of the top k is raised to end at v.
use Rattle.modifiers.proofs.hold.Moves.{search-asks, raise-asks, held-short, held-under}
use Rattle.modifiers.proofs.hold.hold.Goals as goal

pub measure-d-requires : goal.measure-d-requires
measure-d-requires c = rw c.sizes.ensures (search-asks c.requires)

pub returns-in_default-clause-begins : goal.returns-in_default-clause-begins
returns-in_default-clause-begins c = held-short c.args.at c.args.k c.too_few.result c.too_few.ensures (rw c.sizes.ensures at c.in_default.ensures)

pub raise-requires : goal.raise-requires
raise-requires c = raise-asks c.args.k c.in-Some.w c.requires (rw c.sizes.ensures at c.in-Some.ensures)

pub overflow_sub-result : goal.overflow_sub-result
overflow_sub-result c = (raise-asks c.args.k c.in-Some.w c.requires (rw c.sizes.ensures at c.in-Some.ensures)).0

pub returns-clause-begins : goal.returns-clause-begins
returns-clause-begins c = held-under c.args.at c.args.k c.in-Some.w c.requires (rw c.sizes.ensures at c.in-Some.ensures) c.raise.ensures.raised
