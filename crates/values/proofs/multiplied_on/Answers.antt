-- One more factor of those that are left, until none is.
use native.Mathlib.Omega.{arith}
use mathlib.Core.Path.{sym, ◌∙◌}
use Rattle.running.proofs.Laws.{times_more, times_none}
use Rattle.values.proofs.multiplied_on.Goals as goal

pub loop-left-preserved : goal.loop-left-preserved
loop-left-preserved c = let l = c.loop-left in l.invariant ∙ times_more l.left c.args.x l.r (omega arith)

pub returns : goal.returns
returns c = let l = c.loop-left in sym (l.invariant ∙ times_none l.left c.args.x l.r (omega arith))
