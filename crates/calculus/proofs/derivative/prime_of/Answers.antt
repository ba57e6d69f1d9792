-- The terms are read one after the other, and the first whose derivative is no constant decides.
use Rattle.arithmetic.proofs.add.Lying.{readable}
use Rattle.calculus.proofs.derivative.Primes.{prime-end, prime-other, prime-none, prime-next}
use Rattle.calculus.proofs.derivative.prime_of.Goals as goal

pub load-x-requires : goal.load-x-requires
load-x-requires c = readable c.loop-q.q c.requires.1 c.loop-q.auto.q c.loop-q-test.true

pub returns-then-x-ne-X : goal.returns-then-x-ne-X
returns-then-x-ne-X c s ls = prime-other (c.loop-q.invariant s ls) c.load-x.result c.load-x.ensures c.loop-q-test.true c.if-x-ne-X.true

pub returns-in_default : goal.returns-in_default
returns-in_default c s ls =
    prime-none (c.loop-q.invariant s ls) c.load-x.result c.load-x.ensures c.loop-q-test.true c.if-x-ne-X.false c.prime_step.ensures c.in_default.is

pub loop-q-preserved : goal.loop-q-preserved
loop-q-preserved c s ls =
    prime-next (c.loop-q.invariant s ls) c.load-x.result c.load-x.ensures c.loop-q-test.true c.if-x-ne-X.false c.prime_step.ensures c.in-Some.is

pub returns : goal.returns
returns c s ls = prime-end (c.loop-q.invariant s ls) c.loop-q-test.false
