use Rattle.std.proofs.Common.{◌+◌, ◌≤◌, length}
use Rattle.replay_arithmetic.proofs.replay.Given as goal

abbrev pub invariant-loop-head : goal.invariant-loop-head
invariant-loop-head g l = (l.wrong ≤ l.cases) × (l.cases + length l.rest ≤ length l.bytes)

abbrev pub decreases-loop-head : goal.decreases-loop-head
decreases-loop-head g l = length l.rest
