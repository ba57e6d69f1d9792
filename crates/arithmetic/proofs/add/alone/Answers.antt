-- The term is put into the empty sum.
use Rattle.std.proofs.Common.{arith}
use Rattle.sums.specs.Tree.Sums.{none}
use Rattle.arithmetic.proofs.add.Lying.{nothing}
use Rattle.arithmetic.proofs.add.alone.Goals as goal

pub put_block-requires-clause-n_le_sum_entries : goal.put_block-requires-clause-n_le_sum_entries
put_block-requires-clause-n_le_sum_entries c = (omega arith, c.requires.3, (none, nothing c.args.p c.requires.3))

pub returns-clause-of_one : goal.returns-clause-of_one
returns-clause-of_one c t lt = c.put_block.ensures.of_two none t (nothing c.args.p c.requires.3) lt
