-- The most of those that are passed and of those that are left is the most of all.
use Rattle.std.proofs.Common.{◌≡◌, ◌-◌, max}
use Rattle.formats.specs.Tree.{forest}
use Rattle.formats.specs.Contract.Walk.{Walkable}
use Rattle.modifiers.specs.Modifiers.{most}
use Rattle.modifiers.specs.Reading.{runners}
use Rattle.modifiers.proofs.most_args.Given as goal

abbrev pub invariant-loop-at : goal.invariant-loop-at
invariant-loop-at l = record {
  left : Walkable l.list l.at l.to;
  same : most (runners l.from (forest l.list l.from l.to)) ≡ max l.n (most (runners l.at (forest l.list l.at l.to)));
}

abbrev pub decreases-loop-at : goal.decreases-loop-at
decreases-loop-at l = l.to - l.at
