-- `sums::order::nests_inside` meets its contract: in each turn the entry that is read has an inside, which the call looks at, and a rest.
use Rattle.std.proofs.Common.{sym, ◌∙◌, arith}
use Rattle.sums.proofs.order.Nesting.{nests-zero, entered, nests-none}
use Rattle.sums.proofs.order.+nests_inside.Goals as goal

pub returns-then-left-eq0 : goal.returns-then-left-eq0
returns-then-left-eq0 t c s h = rw c.if-left-eq0.true (nests-zero _ _ _ s h)

pub nests_inside-requires : goal.nests_inside-requires
nests_inside-requires t c =
    let e = entered _ _ _ _ _ (c.loop-k.invariant c.requires.0 c.requires.1) c.loop-k-test.true (omega arith) in
    (omega arith, (e.inner, e.nests-inner))

pub returns-then-not-nests_inside : goal.returns-then-not-nests_inside
returns-then-not-nests_inside t c s h =
    let e = entered _ _ _ _ s (c.loop-k.invariant s h) c.loop-k-test.true (omega arith) in
    sym (e.deeper (sym (c.nests_inside.ensures e.inner e.nests-inner) ∙ c.if-not-nests_inside.true))

pub loop-k-preserved : goal.loop-k-preserved
loop-k-preserved t c s h =
    let e = entered _ _ _ _ s (c.loop-k.invariant s h) c.loop-k-test.true (omega arith) in
    record { s' = e.rest; nests = e.nests-rest; same = e.shallow (sym (c.nests_inside.ensures e.inner e.nests-inner) ∙ c.if-not-nests_inside.false) }

pub returns : goal.returns
returns t c s h = sym (nests-none _ _ _ _ s (c.loop-k.invariant s h) c.loop-k-test.false)
