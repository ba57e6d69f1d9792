use Rattle.std.proofs.Common.{length, ◌≤◌}
use Rattle.replay_lists.proofs.text.unit.Given as goal

abbrev pub invariant-loop-byte : goal.invariant-loop-byte
invariant-loop-byte l = length l.rest ≤ length l.hex
