-- The loop's invariant: the whole is low where what is left of the stretch is, and of those around it. Assumes nothing.
use mathlib.Core.Path.{◌≡◌}
use mathlib.Core.Logic.{◌↔◌}
use mathlib.Core.Bool.{false}
use Prim.Native.Nat.{◌+◌, ◌-◌, ◌*◌, ◌≤◌}
use lib.ListN.{length}
use Rattle.formats.specs.Contract.Measure.{Low}
use Rattle.formats.proofs.record.Stands.{Within, Owed}
use Rattle.formats.proofs.rules.all_stand.Given as goal

abbrev pub invariant-loop-at : goal.invariant-loop-at
invariant-loop-at v =
    (v.at ≤ v.end)
    × Within v.ends v.n v.depth v.end
    × (v.depth ≤ 128)
    × (length v.ends ≡ 128)
    × (length v.of_bodies ≡ 128)
    × ((Low v.list v.at v.end v.bodies (129 - v.depth) × Owed v.list v.ends v.of_bodies v.depth v.end) ↔ Low v.list v.from v.n false 129)

abbrev pub decreases-loop-at : goal.decreases-loop-at
decreases-loop-at v = 2 * (v.n - v.at) + v.depth
