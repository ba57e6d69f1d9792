-- Each term is asked, and the first that can't be divided decides.
use Rattle.std.proofs.Common.{sym, ◌∙◌}
use Rattle.sums.proofs.order.Walk.{next, next-at}
use Rattle.sums.proofs.order.Compare.{inner-more}
use Rattle.arithmetic.proofs.add.Lying.{lies-deeper}
use Rattle.powers.proofs.divide.Able.{able-on, able-off, able-end}
use Rattle.powers.proofs.divide.can_div.Goals as goal

pub load-x-requires : goal.load-x-requires
load-x-requires c =
    let w = c.loop-q.invariant _ _ c.requires.0.1 c.requires.1.1 in
    let n = next-at _ _ _ _ w.s' w.lies c.loop-q-test.true in
    (n.readable, n.first.plain)

pub can_div_term-requires-clause-le_kind : goal.can_div_term-requires-clause-le_kind
can_div_term-requires-clause-le_kind c =
    let w = c.loop-q.invariant _ _ c.requires.0.1 c.requires.1.1 in
    let x = (next _ _ _ _ _ _ c.load-x.ensures w.lies c.loop-q-test.true).first.entry-good in
    let good = c.requires.1.1.good in
    (x.least, x.most, good.least, good.most)

pub can_div_term-requires-clause-held : goal.can_div_term-requires-clause-held
can_div_term-requires-clause-held c =
    let w = c.loop-q.invariant _ _ c.requires.0.1 c.requires.1.1 in
    let n = next _ _ _ _ _ _ c.load-x.ensures w.lies c.loop-q-test.true in
    ((n.inner, inner-more n), (c.requires.1.0, lies-deeper c.requires.1.1.lies))

pub returns-then-not-can_div_term : goal.returns-then-not-can_div_term
returns-then-not-can_div_term c s v l d =
    able-off (c.loop-q.invariant s v l d) _ c.load-x.ensures c.loop-q-test.true (λ t lt. sym c.if-not-can_div_term.true ∙ c.can_div_term.ensures t v lt (lies-deeper d.lies))

pub loop-q-preserved : goal.loop-q-preserved
loop-q-preserved c s v l d =
    able-on (c.loop-q.invariant s v l d) _ c.load-x.ensures c.loop-q-test.true (λ t lt. sym c.if-not-can_div_term.false ∙ c.can_div_term.ensures t v lt (lies-deeper d.lies))

pub returns : goal.returns
returns c s v l d = able-end (c.loop-q.invariant s v l d) c.loop-q-test.false
