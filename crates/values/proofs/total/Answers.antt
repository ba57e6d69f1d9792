-- In each arm the answer is the arm's.
use mathlib.Core.Path.{refl}
use Rattle.values.specs.Value.{plus_terms, value}
use Rattle.values.proofs.total.Goals as goal

pub returns-then-f : goal.returns-then-f
unfolding plus_terms value
returns-then-f c = rw c.if-f.true refl

pub returns : goal.returns
unfolding plus_terms value
returns c = rw c.if-f.false refl
