-- `linear` meets its contract: through the origin or not; there, by the factor.
use Rattle.std.proofs.Common.{arith}
use Rattle.inverse.proofs.Words.{start-ready, spelt-join, spelt-as, told}
use Rattle.inverse.proofs.Forms.{linear-off, linear-one, linear-above, linear-below}
use Rattle.inverse.proofs.linear.Goals as goal

pub then_by-t-requires : goal.then_by-t-requires
then_by-t-requires c = start-ready _ _ c.start.ensures 2 (omega arith) c.requires

pub then_by-requires : goal.then_by-requires
then_by-requires c = c.then_by-t.ensures.ready 2 (start-ready _ _ c.start.ensures 4 (omega arith) c.requires)

pub returns-then-not-is_zero : goal.returns-then-not-is_zero
returns-then-not-is_zero c =
    told (spelt-as (spelt-join c.then_by-t.ensures c.then_by.ensures) 4 (omega arith) _ (linear-off c.args.q c.args.c c.is_zero.ensures c.if-not-is_zero.true)) c.start.ensures

pub then_do-requires : goal.then_do-requires
then_do-requires c = start-ready _ _ c.start-then-is_one.ensures 1 (omega arith) c.requires

pub returns-then-is_one : goal.returns-then-is_one
returns-then-is_one c =
    told
    (spelt-as (c.then_do.ensures c.args.complex) 1 (omega arith) _ (linear-one c.args.q c.args.c c.is_zero.ensures c.if-not-is_zero.false c.is_one.ensures c.if-is_one.true))
    c.start-then-is_one.ensures

pub then_by-requires-then-abs_above_one : goal.then_by-requires-then-abs_above_one
then_by-requires-then-abs_above_one c = start-ready _ _ c.start-then-abs_above_one.ensures 2 (omega arith) c.requires

pub returns-then-abs_above_one : goal.returns-then-abs_above_one
returns-then-abs_above_one c =
    told
    (spelt-as c.then_by-then-abs_above_one.ensures 2 (omega arith) _
    (linear-above c.args.q c.args.c c.is_zero.ensures c.if-not-is_zero.false c.is_one.ensures c.if-is_one.false c.abs_above_one.ensures c.if-abs_above_one.true))
    c.start-then-abs_above_one.ensures

pub then_by-requires-2 : goal.then_by-requires-2
then_by-requires-2 c = start-ready _ _ c.start-2.ensures 2 (omega arith) c.requires

pub returns : goal.returns
returns c =
    told
    (spelt-as c.then_by-2.ensures 2 (omega arith) _
    (linear-below c.args.q c.args.c c.is_zero.ensures c.if-not-is_zero.false c.is_one.ensures c.if-is_one.false c.abs_above_one.ensures c.one_over.ensures c.if-abs_above_one.false))
    c.start-2.ensures
