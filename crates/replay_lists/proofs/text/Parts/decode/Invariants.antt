use Rattle.std.proofs.Common.{length, ◌≤◌}
use Rattle.replay_lists.proofs.text.Parts.decode.Given as goal

abbrev pub invariant-loop-hex : goal.invariant-loop-hex
invariant-loop-hex l = l.m ≤ length l.to

abbrev pub decreases-loop-hex : goal.decreases-loop-hex
decreases-loop-hex l = length l.rest
