-- A record without an inside, with what is counted of it.
use Rattle.std.proofs.Common.{◌-◌}
use Rattle.formats.specs.Names.{kind_of}
use Rattle.reading.proofs.turn.Leaf.{prepared, leaf-after}
use Rattle.reading.proofs.turn.read_leaf.Goals as goal

pub leaf-stepped-requires : goal.leaf-stepped-requires
leaf-stepped-requires c = prepared c.requires

pub returns-clause-does : goal.returns-clause-does
returns-clause-does c =
    let x = c.args in
    rw c.finish.ensures (leaf-after x.env c.leaf-stepped.result x.at x.r (kind_of x.r.kind) (1152 - x.v) (c.leaf-stepped.ensures.acts x.at))
