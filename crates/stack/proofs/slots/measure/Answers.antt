-- The sums are passed from the top down.
use Rattle.std.proofs.Common.{◌-◌, ◌≤◌, arith}
use Rattle.stack.proofs.slots.Counting.{Sought, sought-start, sought-short, sought-more, sought-done}
use Rattle.stack.proofs.slots.measure.Goals as goal
use Rattle.stack.proofs.slots.measure.Goals.{After-top_size-p}

-- the next sum is passed
passed : (c : After-top_size-p) → (c.top_size-p.result ≤ c.loop-left.p)
    × Sought c.args.sizes.now c.args.lo c.args.hi c.args.k (c.loop-left.p - c.top_size-p.result) (c.loop-left.left - 1)
passed c = sought-more c.top_size-p.result c.loop-left.invariant (omega arith) (omega arith) c.top_size-p.ensures

pub loop-left-init : goal.loop-left-init
loop-left-init c = sought-start _ c.requires.1

pub returns-then-p-lo : goal.returns-then-p-lo
returns-then-p-lo c ns s = sought-short c.loop-left.invariant c.if-p-lo.true c.loop-left-test.true ns s

pub loop-left-preserved : goal.loop-left-preserved
loop-left-preserved c = (passed (goal.at.loop-left-preserved c).After-top_size-p).1

pub returns : goal.returns
returns c ns s = sought-done c.loop-left.invariant c.loop-left-test.false ns s
