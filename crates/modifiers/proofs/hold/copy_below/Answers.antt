-- The top is raised by d cells, and its lowest d are copied into the gap.
use Rattle.modifiers.proofs.hold.Moves.{copied-full, copied-fits}
use Rattle.modifiers.proofs.hold.copy_below.Goals as goal

pub returns-then-v-used-clause-copies_below : goal.returns-then-v-used-clause-copies_below
returns-then-v-used-clause-copies_below c = copied-full c.args.w c.args.d c.args.at c.requires.0 c.if-v-used.true

pub returns-clause-copies_below : goal.returns-clause-copies_below
returns-clause-copies_below c = copied-fits c.args.w c.args.d c.args.at c.requires.0 c.requires.1 c.if-v-used.false c.raise.ensures.raised c.sink.ensures.sunk
