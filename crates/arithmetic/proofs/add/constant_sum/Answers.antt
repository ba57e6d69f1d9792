-- x to the 0 is put into the empty sum.
use Rattle.std.proofs.Common.{arith}
use Rattle.sums.specs.Tree.Sums.{none, size}
use Rattle.arithmetic.proofs.add.Lying.{nothing}
use Rattle.arithmetic.proofs.add.constant_sum.Goals as goal

pub put_power-requires : goal.put_power-requires
put_power-requires c = (omega arith, c.requires, (none, nothing c.args.p c.requires))

pub returns-clause-agrees : goal.returns-clause-agrees
unfolding size
returns-clause-agrees c = c.put_power.ensures.of_one none (nothing c.args.p c.requires)
