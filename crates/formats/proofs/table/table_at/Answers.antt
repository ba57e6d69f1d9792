-- The table is the computed one. Assumes nothing.
use native.Mathlib.Omega.{arith}
use Rattle.formats.specs.Names.{primitive_of}
use Rattle.formats.proofs.record.Table.{places, place}
use Rattle.formats.proofs.table.table_at.Goals as goal

pub returns : goal.returns
unfolding places primitive_of
returns c = place c.args.code (omega arith)
