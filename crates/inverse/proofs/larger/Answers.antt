-- `larger` meets its contract: six steps, one after the other.
use Rattle.std.proofs.Common.{arith}
use Rattle.inverse.proofs.Words.{less-ready, spelt-join}
use Rattle.inverse.proofs.larger.Goals as goal

pub then_by-u-requires : goal.then_by-u-requires
then_by-u-requires c = (c.then_do-t.ensures c.args.complex).ready 2 (less-ready _ _ 3 8 (omega arith) c.requires)

pub then_do-v-requires : goal.then_do-v-requires
then_do-v-requires c = (spelt-join (c.then_do-t.ensures c.args.complex) c.then_by-u.ensures).ready 1 (less-ready _ _ 4 8 (omega arith) c.requires)

pub then_do-w-requires : goal.then_do-w-requires
then_do-w-requires c =
    let flag = c.args.complex in
    (spelt-join (c.then_do-t.ensures flag) (spelt-join c.then_by-u.ensures (c.then_do-v.ensures flag))).ready 1 (less-ready _ _ 5 8 (omega arith) c.requires)

pub then_by-x-requires : goal.then_by-x-requires
then_by-x-requires c =
    let flag = c.args.complex in
    (spelt-join (c.then_do-t.ensures flag) (spelt-join c.then_by-u.ensures (spelt-join (c.then_do-v.ensures flag) (c.then_do-w.ensures flag)))).ready 2
    (less-ready _ _ 7 8 (omega arith) c.requires)

pub then_do-requires : goal.then_do-requires
then_do-requires c =
    let flag = c.args.complex in
    (spelt-join (c.then_do-t.ensures flag) (spelt-join c.then_by-u.ensures (spelt-join (c.then_do-v.ensures flag) (spelt-join (c.then_do-w.ensures flag) c.then_by-x.ensures)))).ready 1 c.requires

pub returns : goal.returns
returns c =
    let flag = c.args.complex in
    spelt-join (c.then_do-t.ensures flag)
    (spelt-join c.then_by-u.ensures (spelt-join (c.then_do-v.ensures flag) (spelt-join (c.then_do-w.ensures flag) (spelt-join c.then_by-x.ensures (c.then_do.ensures flag)))))
