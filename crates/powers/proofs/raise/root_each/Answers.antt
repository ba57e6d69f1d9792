-- Each cell is read, and its root written where its power is finite.
use Rattle.std.proofs.Common.{sym, ◌∙◌, rules}
use Rattle.powers.proofs.raise.Rooting.{root-done, root-reads, root-stops, root-writes, root-more}
use Rattle.powers.proofs.raise.root_each.Goals as goal

pub load-requires : goal.load-requires
load-requires c = root-reads c.requires.0 c.requires.1.1 c.loop-k.invariant.0 c.loop-k-test.true

pub returns-then-not-is_finite-clause-agrees : goal.returns-then-not-is_finite-clause-agrees
returns-then-not-is_finite-clause-agrees c s r =
    root-stops c.requires.0 r c.loop-k.invariant.0 c.loop-k-test.true c.load.ensures c.root_entry-x.ensures (sym c.is_finite.ensures ∙ c.if-not-is_finite.true)

pub store-requires : goal.store-requires
store-requires c =
    root-writes c.requires.0 c.requires.1.1 c.loop-k.invariant.0 c.loop-k-test.true c.load.ensures c.root_entry-x.ensures (sym c.is_finite.ensures ∙ c.if-not-is_finite.false)

pub loop-k-preserved : goal.loop-k-preserved
loop-k-preserved c =
    let next = root-more c.requires.0 c.requires.1.1 c.loop-k.invariant.0 c.loop-k-test.true c.load.ensures c.root_entry-x.ensures
    (sym c.is_finite.ensures ∙ c.if-not-is_finite.false) c.store.ensures.put in
    (next, search rules)

pub returns-clause-agrees : goal.returns-clause-agrees
returns-clause-agrees c s r = root-done c.requires.0 r c.loop-k.invariant.0 c.loop-k-test.false
