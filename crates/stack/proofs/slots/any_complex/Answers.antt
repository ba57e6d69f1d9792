-- The sums are passed from the top down, each of as many cells as stands at its last.
use Rattle.std.proofs.Common.{arith}
use Rattle.stack.proofs.slots.Counting.{scanned-start, scanned-held, scanned-found, scanned-past, scanned-end}
use Rattle.stack.proofs.slots.any_complex.Goals as goal

pub loop-p-init : goal.loop-p-init
loop-p-init c = scanned-start c.requires.1

pub overflow_sub-p : goal.overflow_sub-p
overflow_sub-p c = omega (arith, (scanned-held c.top_size-n.result c.loop-p.invariant c.loop-p-test.true c.top_size-n.ensures).0)

pub is_complex-requires : goal.is_complex-requires
is_complex-requires c = (scanned-held c.top_size-n.result c.loop-p.invariant c.loop-p-test.true c.top_size-n.ensures).2

pub returns-then-is_complex : goal.returns-then-is_complex
returns-then-is_complex c ss st =
    scanned-found c.top_size-n.result c.is_complex.result c.loop-p.invariant c.loop-p-test.true c.top_size-n.ensures c.is_complex.ensures c.if-is_complex.true ss st

pub loop-p-smaller : goal.loop-p-smaller
loop-p-smaller c = let held = scanned-held c.top_size-n.result c.loop-p.invariant c.loop-p-test.true c.top_size-n.ensures in omega (arith, held.0, held.1)

pub loop-p-preserved : goal.loop-p-preserved
loop-p-preserved c =
    scanned-past c.top_size-n.result c.is_complex.result c.loop-p.invariant c.loop-p-test.true c.top_size-n.ensures c.is_complex.ensures c.if-is_complex.false

pub returns : goal.returns
returns c ss st = scanned-end c.loop-p.invariant c.loop-p-test.false ss st
