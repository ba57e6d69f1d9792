-- The loop's invariant: what is low from here on is low from the start. Assumes nothing.
use mathlib.Core.Logic.{◌↔◌}
use Prim.Native.Nat.{ℕ, ◌<◌}
use Rattle.formats.specs.Contract.Measure.{Low}
use Rattle.formats.proofs.rules.past_simple.Given as goal

abbrev pub invariant-loop-at : goal.invariant-loop-at
invariant-loop-at v = (l : ℕ) → 0 < l → Low v.list v.at v.to v.bodies l ↔ Low v.list v.from v.to v.bodies l
