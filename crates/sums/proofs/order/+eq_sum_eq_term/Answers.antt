-- `sums::order::eq_sum` and `sums::order::eq_term` meet their contracts: in each turn the two entries that are read are equal, and then the rests decide.
use Rattle.std.proofs.Common.{refl, sym, arith}
use Rattle.sums.proofs.order.Sameness.{paired, pair_end}
use Rattle.sums.proofs.order.+eq_sum_eq_term.Goals as goal

pub eq_sum-load-x-requires : goal.eq_sum-load-x-requires
eq_sum-load-x-requires t c =
    let w = paired refl refl (c.loop-p.invariant _ _ c.requires.held.1 c.requires.held_2.1) c.loop-p-test.true in
    (w.first.readable, w.first.first.plain)

pub eq_sum-load-y-requires : goal.eq_sum-load-y-requires
eq_sum-load-y-requires t c =
    let w = paired refl refl (c.loop-p.invariant _ _ c.requires.held.1 c.requires.held_2.1) c.loop-p-test.true in
    (w.other.readable, w.other.first.plain)

pub eq_sum-overflow_sub-left : goal.eq_sum-overflow_sub-left
eq_sum-overflow_sub-left t c =
    let w = paired c.load-x.ensures c.load-y.ensures (c.loop-p.invariant _ _ c.requires.held.1 c.requires.held_2.1) c.loop-p-test.true in
    w.first.first.deep

pub eq_sum-eq_term-requires : goal.eq_sum-eq_term-requires
eq_sum-eq_term-requires t c =
    let w = paired c.load-x.ensures c.load-y.ensures (c.loop-p.invariant _ _ c.requires.held.1 c.requires.held_2.1) c.loop-p-test.true in
    (omega (arith, w.first.first.deep, c.decreases), ((w.first.inner, w.first.lies-inner), (w.other.inner, w.other.lies-inner)))

pub eq_sum-returns-then-not-eq_term : goal.eq_sum-returns-then-not-eq_term
eq_sum-returns-then-not-eq_term t c s u l k =
    let w = paired c.load-x.ensures c.load-y.ensures (c.loop-p.invariant s u l k) c.loop-p-test.true in
    sym (w.terms (c.eq_term.ensures w.first.inner w.other.inner w.first.lies-inner w.other.lies-inner) c.if-not-eq_term.true)

pub eq_sum-loop-p-preserved : goal.eq_sum-loop-p-preserved
eq_sum-loop-p-preserved t c s u l k =
    let w = paired c.load-x.ensures c.load-y.ensures (c.loop-p.invariant s u l k) c.loop-p-test.true in
    record {
      s' = w.first.rest;
      t' = w.other.rest;
      lies-s = w.first.lies-rest;
      lies-t = w.other.lies-rest;
      same = w.terms (c.eq_term.ensures w.first.inner w.other.inner w.first.lies-inner w.other.lies-inner) c.if-not-eq_term.false;
    }

pub eq_sum-returns : goal.eq_sum-returns
eq_sum-returns t c s u l k = pair_end _ _ _ _ _ _ _ s u (c.loop-p.invariant s u l k) c.loop-p-test.false
