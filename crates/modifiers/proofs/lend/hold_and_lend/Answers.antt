-- What is lent is copied below what is held.
use Rattle.stack.specs.declared.state.Ran.TheVariants.{Went, Stopped}
use Rattle.modifiers.proofs.hold.Moves.{lend-asks, held-and-lent}
use Rattle.modifiers.proofs.lend.hold_and_lend.Goals as goal

pub lend_deepest-l-requires : goal.lend_deepest-l-requires
lend_deepest-l-requires c = lend-asks c.args.at c.args.k c.requires c.in-Held.ensures.begins

pub returns-in-Went-clause-begins : goal.returns-in-Went-clause-begins
returns-in-Went-clause-begins c =
    held-and-lent c.args.at c.args.k c.args.c c.lend_deepest-l.result (Went c.in-Went.g) c.in-Went.is c.requires
    c.in-Held.ensures.begins c.lend_deepest-l.ensures.stacked

pub returns-in-Stopped-clause-begins : goal.returns-in-Stopped-clause-begins
returns-in-Stopped-clause-begins c =
    held-and-lent c.args.at c.args.k c.args.c c.lend_deepest-l.result (Stopped c.in-Stopped.q c.in-Stopped.p c.in-Stopped.b) c.in-Stopped.is c.requires
    c.in-Held.ensures.begins c.lend_deepest-l.ensures.stacked
