-- A refusal is handed on.
use Rattle.algebra.proofs.lists.Making.{refused-gives}
use Rattle.algebra.proofs.lists.make_of.Goals as goal

pub returns-in-Refused-clause-data_as : goal.returns-in-Refused-clause-data_as
returns-in-Refused-clause-data_as c x g = rw c.flagged.ensures (refused-gives c.args.w x c.args.got _ c.args.out.now c.in-Refused.is g c.refuse.ensures)
