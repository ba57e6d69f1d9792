-- `sums::order::find` meets its contract: in each turn the entry that is read comes after the term, is the same, or comes before it, and then the rest decides.
use Rattle.std.proofs.Common.{refl, sym}
use Rattle.sums.proofs.order.Compare.{seek-next, inner-more, sought, past, unseen}
use Rattle.sums.proofs.order.find.Goals as goal

-- the next entry
pub load-y-requires : goal.load-y-requires
load-y-requires c =
    let n = seek-next (c.loop-k.invariant _ _ c.requires.held_2.1 c.requires.held.1) c.loop-k-test.true refl in
    (n.readable, n.first.plain)

pub cmp_term-requires-clause-held_2 : goal.cmp_term-requires-clause-held_2
cmp_term-requires-clause-held_2 c =
    let n = seek-next (c.loop-k.invariant _ _ c.requires.held_2.1 c.requires.held.1) c.loop-k-test.true c.load-y.ensures in
    (n.inner, inner-more n)

-- the term comes before it, or is the same
pub returns-in-Less : goal.returns-in-Less
returns-in-Less c s t a g =
    let w = sought c.load-y.ensures (c.loop-k.invariant s t a g) c.loop-k-test.true (λ j l. c.cmp_term.ensures t j g l) c.in-Less.is in
    sym w.same

pub returns-in-Equal : goal.returns-in-Equal
returns-in-Equal c s t a g =
    let w = sought c.load-y.ensures (c.loop-k.invariant s t a g) c.loop-k-test.true (λ j l. c.cmp_term.ensures t j g l) c.in-Equal.is in
    sym w.same

-- or comes after it
pub loop-k-preserved : goal.loop-k-preserved
loop-k-preserved c s t a g =
    past (sought c.load-y.ensures (c.loop-k.invariant s t a g) c.loop-k-test.true (λ j l. c.cmp_term.ensures t j g l) c.in-Greater.is)

pub returns : goal.returns
returns c s t a g = sym (unseen (c.loop-k.invariant s t a g) c.loop-k-test.false)
