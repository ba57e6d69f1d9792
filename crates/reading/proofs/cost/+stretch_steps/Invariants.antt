-- What lies inside a record has a level less. The loop's invariant: the steps so far and those of what is left make up the whole, where both stop at the largest number.
use Rattle.std.proofs.Common.{◌≡◌, ◌+◌, ◌-◌, ◌≤◌, Bool, min}
use Rattle.formats.specs.Tree.{forest}
use Rattle.formats.specs.Contract.Walk.{Stretch}
use Rattle.reading.specs.Cost.Cost.{most_steps, cost_of}
use Rattle.reading.proofs.cost.+stretch_steps.Given as goal

abbrev pub decreases-stretch_steps : goal.decreases-stretch_steps
decreases-stretch_steps l = l.left

abbrev pub invariant-loop-at : goal.invariant-loop-at
invariant-loop-at l = record {
  rest : (b : Bool) × Stretch l.list l.at l.to b l.left;
  whole : min most_steps (cost_of (forest l.list l.from l.to)) ≡ min most_steps (l.steps + cost_of (forest l.list l.at l.to));
  few : l.steps ≤ most_steps;
}

abbrev pub decreases-loop-at : goal.decreases-loop-at
decreases-loop-at l = l.to - l.at
