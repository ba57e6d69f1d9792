-- `sums::order::cmp_sum` and `sums::order::cmp_term` meet their contracts: in each turn the orders of the two entries that are read decide, or else the rests do.
use Rattle.std.proofs.Common.{refl, sym, ◌∙◌, arith}
use Rattle.sums.proofs.order.Compare.{first-next, second-next, turn, walked}
use Rattle.sums.proofs.order.+cmp_sum_cmp_term.Goals as goal

-- the next two entries
pub cmp_sum-load-x-requires : goal.cmp_sum-load-x-requires
cmp_sum-load-x-requires t c =
    let w = c.loop-p.invariant _ _ c.requires.held.1 c.requires.held_2.1 in
    let n = first-next w c.loop-p-test.true refl in
    (n.readable, n.first.plain)

pub cmp_sum-load-y-requires : goal.cmp_sum-load-y-requires
cmp_sum-load-y-requires t c =
    let w = c.loop-p.invariant _ _ c.requires.held.1 c.requires.held_2.1 in
    let m = second-next w c.loop-p-test.true refl in
    (m.readable, m.first.plain)

pub cmp_sum-overflow_add-q : goal.cmp_sum-overflow_add-q
cmp_sum-overflow_add-q t c =
    let m = second-next (c.loop-p.invariant _ _ c.requires.held.1 c.requires.held_2.1) c.loop-p-test.true c.load-y.ensures in
    omega (arith, m.within, c.requires.held_2.1.room.insides, c.well_formed)

pub cmp_sum-overflow_sub-left : goal.cmp_sum-overflow_sub-left
cmp_sum-overflow_sub-left t c =
    let n = first-next (c.loop-p.invariant _ _ c.requires.held.1 c.requires.held_2.1) c.loop-p-test.true c.load-x.ensures in
    n.first.deep

pub cmp_sum-cmp_term-o-requires : goal.cmp_sum-cmp_term-o-requires
cmp_sum-cmp_term-o-requires t c =
    let w = c.loop-p.invariant _ _ c.requires.held.1 c.requires.held_2.1 in
    let n = first-next w c.loop-p-test.true c.load-x.ensures in
    let m = second-next w c.loop-p-test.true c.load-y.ensures in
    (omega (arith, n.first.deep, c.decreases), ((n.inner, n.lies-inner), (m.inner, m.lies-inner)))

-- they differ
pub cmp_sum-returns-in-Less-then : goal.cmp_sum-returns-in-Less-then
cmp_sum-returns-in-Less-then t c s u a b =
    let w = turn c.load-x.ensures c.load-y.ensures (c.loop-p.invariant s u a b) c.loop-p-test.true c.cmp_term-o.ensures c.cmp.ensures (sym c.then.ensures ∙ c.in-Less-then.is) in
    sym w.order

pub cmp_sum-returns-in-Greater-then : goal.cmp_sum-returns-in-Greater-then
cmp_sum-returns-in-Greater-then t c s u a b =
    let w = turn c.load-x.ensures c.load-y.ensures (c.loop-p.invariant s u a b) c.loop-p-test.true c.cmp_term-o.ensures c.cmp.ensures (sym c.then.ensures ∙ c.in-Greater-then.is) in
    sym w.order

-- or they don't: on to the rests
pub cmp_sum-overflow_add-q-in-loop-p : goal.cmp_sum-overflow_add-q-in-loop-p
cmp_sum-overflow_add-q-in-loop-p t c =
    let m = second-next (c.loop-p.invariant _ _ c.requires.held.1 c.requires.held_2.1) c.loop-p-test.true c.load-y.ensures in
    omega (arith, m.within, c.requires.held_2.1.room.insides, c.well_formed)

pub cmp_sum-overflow_add-q-in-loop-p-2 : goal.cmp_sum-overflow_add-q-in-loop-p-2
cmp_sum-overflow_add-q-in-loop-p-2 t c =
    let m = second-next (c.loop-p.invariant _ _ c.requires.held.1 c.requires.held_2.1) c.loop-p-test.true c.load-y.ensures in
    omega (arith, m.within, c.requires.held_2.1.room.insides, c.well_formed)

pub cmp_sum-loop-p-preserved : goal.cmp_sum-loop-p-preserved
cmp_sum-loop-p-preserved t c s u a b =
    turn c.load-x.ensures c.load-y.ensures (c.loop-p.invariant s u a b) c.loop-p-test.true c.cmp_term-o.ensures c.cmp.ensures (sym c.then.ensures ∙ c.in-Equal-then.is)

pub cmp_sum-returns : goal.cmp_sum-returns
cmp_sum-returns t c s u a b = sym (walked (c.loop-p.invariant s u a b) c.loop-p-test.false)
