-- The cells are copied, and the size is written at the last.
use Rattle.stack.proofs.slots.Moving.{brought}
use Rattle.stack.proofs.slots.bring.Goals as goal

pub returns-clause-of_one : goal.returns-clause-of_one
returns-clause-of_one c = (brought _ _ _ c.args.arena.now.sizes.now c.copy_within.ensures.copied c.requires.0 c.requires.1 c.requires.3).1
