-- `unpower` meets its contract: by the power, as the Rust compares it.
use Rattle.std.proofs.Common.{arith}
use Rattle.inverse.proofs.Words.{spelt-join, spelt-as}
use Rattle.inverse.proofs.Forms.{unpower-root, unpower-over, unpower-else}
use Rattle.inverse.proofs.unpower.Goals as goal

pub then_do-requires : goal.then_do-requires
then_do-requires c = (c.then_do-t.ensures c.args.complex).ready 1 c.requires

pub returns-then-p : goal.returns-then-p
returns-then-p c = spelt-as (spelt-join (c.then_do-t.ensures c.args.complex) (c.then_do.ensures c.args.complex)) 2 (omega arith) _ (unpower-root c.args.p c.if-p.true)

pub returns-then-p-2 : goal.returns-then-p-2
returns-then-p-2 c = spelt-as (c.then_do-then-p-2.ensures c.args.complex) 2 (omega arith) _ (unpower-over c.args.p c.if-p.false c.if-p-2.true)

pub returns : goal.returns
returns c = spelt-as c.then_by.ensures 2 (omega arith) _ (unpower-else c.args.p c.new.ensures c.if-p.false c.if-p-2.false)
