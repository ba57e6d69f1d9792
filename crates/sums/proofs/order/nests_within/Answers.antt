-- `sums::order::nests_within` meets its contract: nothing has no levels.
use Rattle.std.proofs.Common.{refl, sym, arith}
use Rattle.sums.proofs.order.Nesting.{nests-none}
use Rattle.sums.proofs.order.nests_within.Goals as goal

pub returns-then-n-eq0 : goal.returns-then-n-eq0
returns-then-n-eq0 c s h = sym (nests-none _ _ _ _ s (record { s' = s; nests = h; same = refl }) (omega arith))
