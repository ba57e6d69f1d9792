-- x is stored in the first cell of the stack, and its size beside it.
use Rattle.reading.proofs.env.Ends.{x-ready}
use Rattle.reading.proofs.env.begin_with_x.Goals as goal

pub returns-clause-reaches : goal.returns-clause-reaches
returns-clause-reaches c top reaches = x-ready c.args.arena.now.sizes.now top reaches c.store.ensures.put
