-- The block from v on is copied down to the stack's end.
use Rattle.modifiers.proofs.hold.Moves.{put_back}
use Rattle.modifiers.proofs.lend.put_back.Goals as goal

pub returns-clause-puts_back : goal.returns-clause-puts_back
returns-clause-puts_back c = put_back c.args.m c.requires.0 c.requires.1 c.sink.ensures.sunk
