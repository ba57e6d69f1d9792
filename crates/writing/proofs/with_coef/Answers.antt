-- `with_coef` meets its contract: a power equals 0 exactly if it is the constant.
use Rattle.std.proofs.Common.{Bool}
use mathlib.Core.Path.{ap₂}
use mathlib.Core.Bool.{not, ◌&&◌}
use lib.Dec.{eqb}
use Rattle.writing.proofs.Parts.{constant-is}
use Rattle.writing.proofs.with_coef.Goals as goal

pub returns : goal.returns
returns c = ap₂ (λ (u v : Bool). not u && not (eqb c.args.x.kind 1 && v)) c.is_one.ensures (constant-is c.args.x.num)
