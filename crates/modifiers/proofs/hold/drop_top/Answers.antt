-- The stack ends where its top begins.
use Rattle.modifiers.proofs.hold.Moves.{search-asks, dropped-short, dropped}
use Rattle.modifiers.proofs.hold.drop_top.Goals as goal

pub measure-d-requires : goal.measure-d-requires
measure-d-requires c = search-asks c.requires

pub returns-in_default : goal.returns-in_default
returns-in_default c = dropped-short c.args.at c.too_few.result c.too_few.ensures c.in_default.ensures

pub returns : goal.returns
returns c = dropped c.args.at c.in-Some.w c.in-Some.ensures
