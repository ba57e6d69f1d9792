-- `of_constant` meets its contract: x is dropped, and the number said.
use Rattle.std.proofs.Common.{false, arith}
use Rattle.inverse.proofs.Words.{start-ready, spelt-join, told}
use Rattle.inverse.proofs.of_constant.Goals as goal

pub then_do-t-requires : goal.then_do-t-requires
then_do-t-requires c = start-ready _ _ c.start.ensures 1 (omega arith) c.requires

pub then_number-requires : goal.then_number-requires
then_number-requires c = (c.then_do-t.ensures false).ready 1 (start-ready _ _ c.start.ensures 2 (omega arith) c.requires)

pub returns : goal.returns
returns c = told (spelt-join (c.then_do-t.ensures _) c.then_number.ensures) c.start.ensures
