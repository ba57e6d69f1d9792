-- Sums negated, added and taken away, entry by entry in order.
use Rattle.numbers.specs.declared.complex.Complex.{Complex}
use Rattle.numbers.specs.Complex.Arith as complex
use Rattle.cells.specs.declared.Entry.{Entry}
use Rattle.sums.specs.declared.tree.Merge.TheVariants.{Add}
use Rattle.sums.specs.Tree.Sums.{Sum, none, and}
use Rattle.sums.specs.Tree.Map.{Outcome, formed, each_into}
use Rattle.arithmetic.specs.declared.Change.{Change}
use Rattle.arithmetic.specs.declared.Change.TheVariants.{Keep, Negate, Times}
use Rattle.arithmetic.specs.Singles.{with_coef}

unfoldable pub neg_sum : Sum → Sum
neg_sum none = none
neg_sum (and k p i c r) = and k p i (complex.negated c) (neg_sum r)

-- what becomes of a coefficient on its way into another sum
abbrev pub changed : Change → Complex → Complex
changed Keep c = c
changed Negate c = complex.negated c
changed (Times by) c = complex.times by c

-- each entry of t, its coefficient changed, is added into s
abbrev pub add_each : Change → Sum → Sum → Outcome
add_each how s t = each_into (λ x u v. formed Add (with_coef x (changed how x.coef)) u v) s t

abbrev pub add_sums : Sum → Sum → Outcome
add_sums s t = add_each Keep s t

abbrev pub sub_sums : Sum → Sum → Outcome
sub_sums s t = add_each Negate s t
