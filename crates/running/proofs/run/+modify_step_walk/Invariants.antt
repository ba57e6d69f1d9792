-- The runner's cycle of calls. The measure of each is three times the levels left, and 2, 1 or 0 more. Assumes nothing.
use mathlib.Core.Path.{◌≡◌}
use Prim.Native.Nat.{◌+◌, ◌-◌, ◌*◌, ◌≤◌}
use Rattle.formats.specs.Tree.{forest}
use Rattle.running.specs.Running.{runs}
use Rattle.running.specs.Contract.Views.{view_state, Ready}
use Rattle.running.proofs.run.+modify_step_walk.Given as goal

abbrev pub decreases-modify : goal.decreases-modify
decreases-modify v = 3 * v.left

abbrev pub decreases-step : goal.decreases-step
decreases-step v = 3 * v.left + 1

abbrev pub decreases-walk : goal.decreases-walk
decreases-walk v = 3 * v.left + 2

abbrev pub invariant-walk-loop-at : goal.invariant-walk-loop-at
invariant-walk-loop-at v = record {
  ready : Ready v.list v.at v.to v.stack v.cur v.held v.left;
  same : runs (forest v.list v.from v.to) v.from v.held (view_state v.initial.stack v.initial.cur) ≡ runs (forest v.list v.at v.to) v.at v.held (view_state v.stack v.cur);
  few : v.cur.steps + (v.to - v.at) ≤ v.initial.cur.steps + (v.to - v.from);
}

abbrev pub decreases-walk-loop-at : goal.decreases-walk-loop-at
decreases-walk-loop-at v = v.to - v.at
