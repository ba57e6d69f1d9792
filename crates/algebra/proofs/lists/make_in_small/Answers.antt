-- What is made with so many entries held from the start as there are places fewer.
use Rattle.std.proofs.Common.{◌-◌}
use Rattle.algebra.specs.Contract.Lists.{list_held}
use Rattle.algebra.proofs.lists.Trying.{first-try}
use Rattle.algebra.proofs.lists.make_in_small.Goals as goal

pub returns : goal.returns
returns c = first-try c.args.w (1152 - 256) c.args.list.now (c.make_of.ensures.data_as (list_held (1152 - 256) c.args.list.now) c.read_sum-data.ensures.data_as)
