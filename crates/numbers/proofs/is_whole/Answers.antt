-- `numbers::is_whole` meets its contract, by the laws of `Far`. Assumes nothing.
use borrow.Author.Rules.{rules}
use mathlib.Core.Path.{◌∙◌}
use Rattle.numbers.proofs.is_whole.Goals as goal
use Rattle.numbers.proofs.Far.{far-whole, below-zero, from_zero}

pub returns-then-x-far : goal.returns-then-x-far
returns-then-x-far c = c.is_finite.ensures ∙ far-whole c.args.x (search rules) c.if-x-far.true

pub returns-then-x : goal.returns-then-x
returns-then-x c = below-zero c.args.x c.if-x-far.false c.if-x.true

pub returns : goal.returns
returns c = from_zero c.args.x (search rules) c.if-x-far.false c.if-x.false
