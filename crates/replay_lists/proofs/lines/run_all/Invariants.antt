use Rattle.std.proofs.Common.{length, ◌≤◌}
use Rattle.replay_lists.proofs.lines.run_all.Given as goal

abbrev pub invariant-loop-n : goal.invariant-loop-n
invariant-loop-n g l = length l.rest ≤ length l.text

abbrev pub decreases-loop-n : goal.decreases-loop-n
decreases-loop-n g l = length l.rest
