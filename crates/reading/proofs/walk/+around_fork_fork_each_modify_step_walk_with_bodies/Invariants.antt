-- What lies inside a record is a level lower. The walk's invariant: what is left of the stretch, from where the state is now, comes to what the whole comes to.
-- That of a Fork's bodies: those from the i-th on have run.
use Rattle.std.proofs.Common.{◌+◌, ◌-◌, ◌*◌, ◌≤◌, ◌≡◌, Bool, max}
use Rattle.formats.specs.Tree.{forest, height, count}
use Rattle.formats.specs.Contract.Walk.{Stretch}
use Rattle.modifiers.specs.Contract.Walks.{walk_of}
use Rattle.stack.specs.Contract.Arena.{slots, all_slices}
use Rattle.stack.specs.Contract.Agree.{Ready, env_of}
use Rattle.reading.specs.Contract.Runs.{OneBody}
use Rattle.reading.proofs.walk.Laws.{Going, Forking}
use Rattle.reading.proofs.walk.+around_fork_fork_each_modify_step_walk_with_bodies.Given as goal

abbrev pub decreases-walk : goal.decreases-walk
decreases-walk l = 5 * height (forest l.list.now l.from l.to) + 4

abbrev pub decreases-step : goal.decreases-step
decreases-step l = 5 * (height (forest l.list.now (l.at + 1) (l.at + 1 + l.r.inside)) + 1) + 3

abbrev pub decreases-modify : goal.decreases-modify
decreases-modify l = 5 * (height (forest l.list.now (l.at + 1) (l.at + 1 + l.r.inside)) + 1) + 2

abbrev pub decreases-with_bodies : goal.decreases-with_bodies
decreases-with_bodies l = 5 * (height (forest l.list.now (l.at + 1) (l.at + 1 + l.r.inside)) + 1) + 1

abbrev pub decreases-around : goal.decreases-around
decreases-around l = 5 * (max (height (forest l.list.now l.p.from l.p.to)) (height (forest l.list.now l.p.again l.p.until)) + 1)

abbrev pub decreases-fork : goal.decreases-fork
decreases-fork l = 5 * (height (forest l.list.now (l.at + 1) (l.at + 1 + l.r.inside)) + 1) + 1

abbrev pub decreases-fork_each : goal.decreases-fork_each
decreases-fork_each l = 5 * (height (forest l.list.now (l.at + 1) l.to) + 1)

abbrev pub invariant-walk-loop-at : goal.invariant-walk-loop-at
invariant-walk-loop-at l = record {
  left : (b : Bool) × Stretch l.list l.at l.to b (height (forest l.list l.from l.to)) × OneBody l.list l.at l.to b;
  ready : Ready (slots l.arena) l.v (env_of l.used l.handled l.complex l.pairs);
  going : Going (slots l.fn.arena) (slots l.arena) l.v l.fn.env (env_of l.used l.handled l.complex l.pairs)
      (λ st. walk_of l.list l.from l.to (1152 - l.v) st) (λ st. walk_of l.list l.at l.to (1152 - l.v) st);
  same : all_slices l.arena ≡ all_slices l.fn.arena;
}

abbrev pub decreases-walk-loop-at : goal.decreases-walk-loop-at
decreases-walk-loop-at l = l.to - l.at

abbrev pub invariant-fork_each-loop-i : goal.invariant-fork_each-loop-i
invariant-fork_each-loop-i l = record {
  few : l.i ≤ count (forest l.list (l.at + 1) l.to);
  forking : Forking (slots l.fn.arena) (slots l.arena) l.v l.m l.k l.fn.env l.cur l.list l.at (l.at + 1) l.to l.i;
  same : all_slices l.arena ≡ all_slices l.fn.arena;
}
