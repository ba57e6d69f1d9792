-- The loop's invariant: the whole is well-formed where what is left is. Assumes nothing.
use mathlib.Core.Path.{◌≡◌}
use Prim.Native.Nat.{◌-◌, ◌≤◌}
use Rattle.formats.specs.Tree.{forest}
use Rattle.formats.specs.Rules.{ok_nodes}
use Rattle.formats.proofs.rules.stretch_ok.Given as goal

abbrev pub invariant-loop-at : goal.invariant-loop-at
invariant-loop-at v = (v.from ≤ v.at) × (ok_nodes v.bodies (forest v.list v.from v.to) ≡ ok_nodes v.bodies (forest v.list v.at v.to))

abbrev pub decreases-loop-at : goal.decreases-loop-at
decreases-loop-at v = v.to - v.at
