-- The j-th node stands where the loop is.
use Rattle.std.proofs.Common.{◌≡◌}
use Rattle.modifiers.specs.Contract.Walks.{place_of}
use Rattle.modifiers.proofs.place_of.Given as goal

abbrev pub invariant-loop-j : goal.invariant-loop-j
invariant-loop-j l = l.at ≡ place_of l.list l.from l._j
