-- `simple_quadratic` meets its contract: three steps, one after the other.
use Rattle.std.proofs.Common.{arith}
use Rattle.inverse.proofs.Words.{start-ready, spelt-join, told}
use Rattle.inverse.proofs.simple_quadratic.Goals as goal

pub then_by-t-requires : goal.then_by-t-requires
then_by-t-requires c = start-ready _ _ c.start.ensures 2 (omega arith) c.requires

pub then_by-u-requires : goal.then_by-u-requires
then_by-u-requires c = c.then_by-t.ensures.ready 2 (start-ready _ _ c.start.ensures 4 (omega arith) c.requires)

pub then_do-requires : goal.then_do-requires
then_do-requires c = (spelt-join c.then_by-t.ensures c.then_by-u.ensures).ready 1 (start-ready _ _ c.start.ensures 5 (omega arith) c.requires)

pub returns : goal.returns
returns c = told (spelt-join c.then_by-t.ensures (spelt-join c.then_by-u.ensures (c.then_do.ensures _))) c.start.ensures
