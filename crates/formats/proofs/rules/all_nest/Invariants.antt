-- The loop's invariant: what is inside each record from i on is well-formed. Assumes nothing.
use Rattle.formats.specs.Contract.Measure.{OkInside}
use Rattle.formats.proofs.rules.all_nest.Given as goal

abbrev pub invariant-loop-i : goal.invariant-loop-i
invariant-loop-i v = OkInside v.list v.i v.n
