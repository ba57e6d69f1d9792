-- `sums::good::good_sum` meets its contract: in each turn the cell passes by itself, by what lies inside it and by its place, or no good sum lies there.
use Rattle.std.proofs.Common.{refl, arith}
use Rattle.sums.proofs.good.Rising.{passed, rest-fine, rest-inner, rest-follows, pass, held-zero, fails}
use Rattle.sums.proofs.good.+good_sum.Goals as goal

-- no levels are left
pub returns-then-left-eq0 : goal.returns-then-left-eq0
returns-then-left-eq0 t c = rw c.if-left-eq0.true (held-zero _ _ _ c.requires)

-- the cell by itself
pub returns-then-not-good_cell : goal.returns-then-not-good_cell
returns-then-not-good_cell t c = fails _ c.if-not-good_cell.true (λ w. c.good_cell.ensures.1 (rest-fine (c.loop-k.invariant.same.0 w) c.loop-k-test.true))

-- its inside
pub returns-then-not-good_sum : goal.returns-then-not-good_sum
returns-then-not-good_sum t c = fails _ c.if-not-good_sum.true (λ w. c.good_sum.ensures.1 (rest-inner (c.loop-k.invariant.same.0 w) c.loop-k-test.true))

pub returns-then-not-follows : goal.returns-then-not-follows
returns-then-not-follows t c = fails _ c.if-not-follows.true (λ w. rest-follows (c.loop-k.invariant.same.0 w) c.loop-k-test.true _ c.follows.ensures)

-- on to the next
pub loop-k-preserved : goal.loop-k-preserved
loop-k-preserved t c =
    pass c.loop-k.invariant (omega arith) (c.good_cell.ensures.0 c.if-not-good_cell.false) (c.good_sum.ensures.0 c.if-not-good_sum.false) _ c.follows.ensures c.if-not-follows.false

pub returns : goal.returns
returns t c = (λ z. passed c.loop-k.invariant c.loop-k-test.false c.requires, λ w. refl)
