use Rattle.std.proofs.Common.{◌≤◌, length}
use Rattle.replay_lists.proofs.files.run_open.Given as goal

-- what is left of a piece lies in the text
abbrev pub invariant-loop : goal.invariant-loop
invariant-loop g l = l.had ≤ length l.text
