-- `meets_x` meets its contract: a power equals 1 exactly if it is bare x.
use Rattle.std.proofs.Common.{Bool}
use mathlib.Core.Path.{ap₂}
use mathlib.Core.Bool.{not, ◌&&◌}
use lib.Dec.{eqb}
use Rattle.writing.proofs.Parts.{bare-is}
use Rattle.writing.proofs.meets_x.Goals as goal

pub returns : goal.returns
returns c = ap₂ (λ (u v : Bool). not u && (eqb c.args.x.kind 1 && v)) c.is_zero.ensures (bare-is c.args.x.num c.requires)
