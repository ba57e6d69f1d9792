-- `sums::order::powers_end` meets its contract: a power is passed in each turn, and another term or the end is where they end.
use Rattle.std.proofs.Common.{sym, ◌∙◌, arith}
use Rattle.sums.proofs.order.Powers.{powers-more, powers-done}
use Rattle.sums.proofs.order.powers_end.Goals as goal

pub returns-then-kinds-k-ne-X-clause-by_index : goal.returns-then-kinds-k-ne-X-clause-by_index
returns-then-kinds-k-ne-X-clause-by_index c f s e a g z = powers-done f _ _ _ s (c.loop-k.invariant f s e a g z) (λ h x. c.if-kinds-k-ne-X.true (sym (e _) ∙ x))

pub loop-k-preserved : goal.loop-k-preserved
loop-k-preserved c f s e a g z = powers-more f _ _ _ s (c.loop-k.invariant f s e a g z) c.loop-k-test.true (e _ ∙ c.if-kinds-k-ne-X.false)

pub returns-clause-by_index : goal.returns-clause-by_index
returns-clause-by_index c f s e a g z = omega (arith, powers-done f _ _ _ s (c.loop-k.invariant f s e a g z) (λ h x. omega arith))
