-- `full_quadratic` meets its contract: the root, the larger of two, and a division.
use Rattle.std.proofs.Common.{List, ap, arith}
use Rattle.formats.specs.Tree.{end}
use Rattle.inverse.specs.Inverse.{Word, spell}
use Rattle.inverse.proofs.Words.{start-ready, spelt-join, told, told-as}
use Rattle.inverse.proofs.Forms.{full-words}
use Rattle.inverse.proofs.full_quadratic.Goals as goal

pub root-t-requires : goal.root-t-requires
root-t-requires c = start-ready _ _ c.start.ensures 8 (omega arith) c.requires

pub larger-u-requires : goal.larger-u-requires
larger-u-requires c = c.root-t.ensures.ready 8 (start-ready _ _ c.start.ensures 16 (omega arith) c.requires)

pub then_by-requires : goal.then_by-requires
then_by-requires c = (spelt-join c.root-t.ensures c.larger-u.ensures).ready 2 (start-ready _ _ c.start.ensures 18 (omega arith) c.requires)

pub returns : goal.returns
returns c =
    told-as (told (spelt-join c.root-t.ensures (spelt-join c.larger-u.ensures c.then_by.ensures)) c.start.ensures) _
    (ap (λ (ws : List Word). spell c.args.complex ws end) (full-words c.args.a c.args.q c.args.c c.mul_real.ensures))
