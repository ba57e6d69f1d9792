-- What was written is answered.
use Rattle.algebra.proofs.answer.Giving.{list-given}
use Rattle.algebra.proofs.answer.Writers.{write-by, given-as}
use Rattle.algebra.proofs.answer.write_sum.Goals as goal

pub returns : goal.returns
returns c s l = rw c.answer_of.ensures (given-as (write-by c.args.writer c.args.complex s) (list-given (c.list_by-wrote.ensures s l)))
