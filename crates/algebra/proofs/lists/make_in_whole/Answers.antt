-- Nothing is held from the start.
use Rattle.algebra.specs.Reading.{read_list}
use Rattle.algebra.proofs.lists.Trying.{whole-list}
use Rattle.algebra.proofs.lists.make_in_whole.Goals as goal

pub returns : goal.returns
returns c = c.make_of.ensures.data_as (read_list c.args.list.now) (rw whole-list at c.read_sum-data.ensures.data_as)
