-- Orders.
use Rattle.std.specs.Prelude.{cond, Float}
use Rattle.std.specs.Float.Ieee.{lt}
use Rattle.std.specs.Ordering.{ordering_then, ordering_reverse}
use Rattle.std.specs.declared.cmp.Ordering.{Ordering}
use Rattle.std.specs.declared.cmp.Ordering.TheVariants.{Less, Equal, Greater}

-- two numbers by value: -0 is equal to 0
abbrev pub cmp_num : Float → Float → Ordering
cmp_num a b = cond (lt a b) Less (cond (lt b a) Greater Equal)

-- the first of two orders that is not Equal
abbrev pub and_then : Ordering → Ordering → Ordering
and_then = ordering_then

-- the order of the same two the other way round
abbrev pub flipped : Ordering → Ordering
flipped = ordering_reverse
