-- Nothing was met yet.
use native.Mathlib.Omega.{arith}
use mathlib.Core.Path.{refl}
use Rattle.running.specs.Primitives.{times}
use Rattle.values.proofs.nothing_found.Goals as goal

pub returns : goal.returns
unfolding times
returns c = record { tests = (refl, refl); none_yet = refl; reached = record { low = omega arith; formed = refl } }
