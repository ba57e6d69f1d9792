-- By what the modifier does with what it takes off.
use Rattle.modifiers.proofs.begin.Manners.{begin-drops, begin-copies, begin-holds}
use Rattle.modifiers.proofs.begin.begin.Goals as goal

pub returns-in-Drops-clause-begins : goal.returns-in-Drops-clause-begins
returns-in-Drops-clause-begins c = begin-drops c.args.at c.args.n c.begins_by.ensures c.modifier_of-m.ensures c.in-Drops.is (rw (c.cells.ensures, c.sizes.ensures) at c.drop_top.ensures)

pub returns-in-Copies-clause-begins : goal.returns-in-Copies-clause-begins
returns-in-Copies-clause-begins c = begin-copies c.args.at c.args.n c.begins_by.ensures c.modifier_of-m.ensures c.in-Copies.is c.copy_under.ensures.begins

pub returns-in-Holds-clause-begins : goal.returns-in-Holds-clause-begins
returns-in-Holds-clause-begins c = begin-holds c.args.at c.args.n c.begins_by.ensures c.modifier_of-m.ensures c.in-Holds.is c.hold_for.ensures.begins
