-- The loop's invariant: `all` says of the cells before k that they are powers.
use Rattle.std.proofs.Common.{◌≡◌, true, ◌↔◌}
use Rattle.sums.specs.Contract.Place.{OnlyPowers}
use Rattle.sums.proofs.order.all_powers.Given as goal

abbrev pub invariant-loop-k : goal.invariant-loop-k
invariant-loop-k l = (l.all ≡ true) ↔ OnlyPowers l.kinds l.p l.k
