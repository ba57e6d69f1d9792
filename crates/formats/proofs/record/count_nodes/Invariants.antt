-- The loop's invariant: those that are passed and those that are left make up the whole. Assumes nothing.
use mathlib.Core.Path.{◌≡◌}
use Prim.Native.Nat.{◌+◌, ◌-◌, ◌≤◌}
use Rattle.formats.specs.Tree.{count, forest}
use Rattle.formats.specs.Contract.Walk.{Walkable}
use Rattle.formats.proofs.record.count_nodes.Given as goal

abbrev pub invariant-loop-at : goal.invariant-loop-at
invariant-loop-at v = (v.n ≤ v.at) × Walkable v.list v.at v.to × (count (forest v.list v.from v.to) ≡ v.n + count (forest v.list v.at v.to))

abbrev pub decreases-loop-at : goal.decreases-loop-at
decreases-loop-at v = v.to - v.at
