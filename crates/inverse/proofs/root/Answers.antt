-- `root` meets its contract: five steps, one after the other.
use Rattle.std.proofs.Common.{arith}
use Rattle.inverse.proofs.Words.{less-ready, spelt-join, spelt-as}
use Rattle.inverse.proofs.Forms.{root-words}
use Rattle.inverse.proofs.root.Goals as goal

pub then_by-v-requires : goal.then_by-v-requires
then_by-v-requires c = (spelt-join c.then_by-t.ensures (c.then_do-u.ensures c.args.complex)).ready 2 (less-ready _ _ 5 8 (omega arith) c.requires)

pub then_by-w-requires : goal.then_by-w-requires
then_by-w-requires c =
    (spelt-join c.then_by-t.ensures (spelt-join (c.then_do-u.ensures c.args.complex) c.then_by-v.ensures)).ready 2 (less-ready _ _ 7 8 (omega arith) c.requires)

pub then_do-requires : goal.then_do-requires
then_do-requires c = (spelt-join c.then_by-t.ensures (spelt-join (c.then_do-u.ensures c.args.complex) (spelt-join c.then_by-v.ensures c.then_by-w.ensures))).ready 1 c.requires

pub returns : goal.returns
returns c =
    let flag = c.args.complex in
    spelt-as (spelt-join c.then_by-t.ensures (spelt-join (c.then_do-u.ensures flag) (spelt-join c.then_by-v.ensures (spelt-join c.then_by-w.ensures (c.then_do.ensures flag))))) 8 (omega arith) _
    (root-words c.args.a c.args.q c.args.c c.mul_real.ensures c.mul.ensures)
