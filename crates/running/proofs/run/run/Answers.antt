-- The verdict on the list comes first, then x. Assumes nothing.
use Rattle.running.specs.Running.{run_list}
use Rattle.running.proofs.run.run.Goals as goal

pub returns-in-Err : goal.returns-in-Err
unfolding run_list
returns-in-Err c = rw (← c.check.ensures.verdict, c.in-Err.is)

pub returns-then-not-is_finite : goal.returns-then-not-is_finite
unfolding run_list
returns-then-not-is_finite c = rw (← c.check.ensures.verdict, c.in_default.is, ← c.is_finite.ensures, c.if-not-is_finite.true)

pub returns : goal.returns
unfolding run_list
returns c = rw (← c.check.ensures.verdict, c.in_default.is, ← c.is_finite.ensures, c.if-not-is_finite.false) c.run_nodes.ensures
