-- `of_power` meets its contract: three parts, one after the other.
use Rattle.std.proofs.Common.{arith}
use Rattle.inverse.proofs.Words.{start-ready, spelt-join, told, told-as}
use Rattle.inverse.proofs.Forms.{power-known}
use Rattle.inverse.proofs.of_power.Goals as goal

pub less_constant-t-requires : goal.less_constant-t-requires
less_constant-t-requires c = start-ready _ _ c.start.ensures 2 (omega arith) c.requires

pub over_factor-u-requires : goal.over_factor-u-requires
over_factor-u-requires c = c.less_constant-t.ensures.ready 2 (start-ready _ _ c.start.ensures 4 (omega arith) c.requires)

pub unpower-requires : goal.unpower-requires
unpower-requires c = (spelt-join c.less_constant-t.ensures c.over_factor-u.ensures).ready 2 (start-ready _ _ c.start.ensures 6 (omega arith) c.requires)

pub returns : goal.returns
returns c =
    told-as (told (spelt-join c.less_constant-t.ensures (spelt-join c.over_factor-u.ensures c.unpower.ensures)) c.start.ensures) _
    (power-known c.args.complex c.args.k c.args.p c.args.c c.is_int.ensures c.if-not-is_int.false)
