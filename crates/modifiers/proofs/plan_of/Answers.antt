-- The first body's end and its arguments are read off it.
use Rattle.std.proofs.Common.{arith}
use Rattle.modifiers.proofs.Plans.{bodies-some, plan-made}
use Rattle.modifiers.proofs.plan_of.Goals as goal

pub record_at-f-requires : goal.record_at-f-requires
record_at-f-requires c = omega (arith, c.requires.0.2.room, bodies-some c.args.list.now c.args.at c.args.r c.requires.1)

pub returns : goal.returns
returns c left t =
    plan-made c.args.list.now c.args.at c.args.r c.record_at-f.result c.modifier_of.result c.wide.result left c.plan_by.result c.plan_by.ensures
    c.modifier_of.ensures c.wide.ensures c.record_at-f.ensures.0 c.requires.1 t
