-- Each entry is read, and written with its coefficient negated.
use Rattle.std.proofs.Common.{arith, rules}
use Rattle.cells.proofs.Laws.{kept_trans, kept-wider, put-kept}
use Rattle.sums.proofs.order.Walk.{next, next-at}
use Rattle.arithmetic.proofs.add.Negating.{plain-negated, turn, done}
use Rattle.arithmetic.proofs.add.neg_each.Goals as goal

pub load-y-requires : goal.load-y-requires
load-y-requires c =
    let w = c.loop-k.invariant.rest _ c.requires.1 in
    let n = next-at _ _ _ _ w.s' w.lies c.loop-k-test.true in
    (n.readable, n.first.plain)

pub store-requires : goal.store-requires
store-requires c =
    let w = c.loop-k.invariant.rest _ c.requires.1 in
    let n = next _ _ _ _ w.s' _ c.load-y.ensures w.lies c.loop-k-test.true in
    (n.readable, plain-negated n.first.plain c.neg.ensures)

pub loop-k-preserved : goal.loop-k-preserved
loop-k-preserved c =
    let w = c.loop-k.invariant.rest _ c.requires.1 in
    let n = next _ _ _ _ w.s' _ c.load-y.ensures w.lies c.loop-k-test.true in
    let within = n.within in
    record {
      kept = kept_trans c.loop-k.invariant.kept (kept-wider c.loop-k.invariant.from (omega arith) (put-kept c.store.ensures.put));
      from = omega arith;
      rest = λ s ls. turn c.load-y.result c.load-y.ensures (c.loop-k.invariant.rest s ls) c.loop-k-test.true c.neg.ensures c.store.ensures.put;
      same = search rules;
    }

pub returns-clause-of_one : goal.returns-clause-of_one
returns-clause-of_one c s ls = done ls c.loop-k.invariant.kept.long (c.loop-k.invariant.rest s ls) c.loop-k-test.false
