-- `sums::order::count` meets its contract: an entry is passed in each turn, and nothing is left at the end.
use Rattle.std.proofs.Common.{arith}
use Rattle.sums.proofs.order.Walk.{opened, len-empty}
use Rattle.sums.proofs.order.count.Goals as goal

pub loop-k-preserved : goal.loop-k-preserved
loop-k-preserved c = (
  omega arith,
  λ f s e a z.
      let w = c.loop-k.invariant.1 f s e a z in
      let o = opened f c.loop-k.k w.0 w.1 (omega arith) in
      let inside = e c.loop-k.k in
      (o.rest, rw inside at o.laid-rest, omega arith, omega arith),
)

pub returns : goal.returns
returns c f s e a z = let w = c.loop-k.invariant.1 f s e a z in let nothing_left = len-empty w.0 (omega arith) in omega arith
