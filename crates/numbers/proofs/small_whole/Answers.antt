-- `numbers::small_whole` meets its contract, by the laws of `Small`. Assumes nothing.
use mathlib.Core.Path.{sym}
use Rattle.numbers.proofs.small_whole.Goals as goal
use Rattle.numbers.proofs.Small.{small-zero, small-cast, small_is, small-other}

pub returns-then-x : goal.returns-then-x
returns-then-x c = sym (small-zero c.args.x c.if-x.true)

pub float_to_int-result : goal.float_to_int-result
float_to_int-result c = small-cast c.args.x (rw c.is_whole.ensures at c.if-is_whole-x.true)

pub returns-then-is_whole-x : goal.returns-then-is_whole-x
returns-then-is_whole-x c = small_is c.args.x c.if-x.false (rw c.is_whole.ensures at c.if-is_whole-x.true)

pub returns-else-is_whole-x : goal.returns-else-is_whole-x
returns-else-is_whole-x c = small-other c.args.x c.if-x.false (rw c.is_whole.ensures at c.if-is_whole-x.false)
