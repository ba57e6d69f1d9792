-- The order of terms and sums, which is the order of the map. Sum order asks term order, and term order asks sum order: the lengths, then each term, then its coefficient.
use Rattle.std.specs.Prelude.{ℕ, cond, ltb}
use Rattle.std.specs.declared.cmp.Ordering.{Ordering}
use Rattle.std.specs.declared.cmp.Ordering.TheVariants.{Less, Equal, Greater}
use Rattle.numbers.specs.Order.{cmp_num, and_then}
use Rattle.numbers.specs.Complex.Arith.{cmp_complex}
use Rattle.cells.specs.declared.Entry.{Entry}
use Rattle.sums.specs.Tree.Sums.{Sum, none, and, size, len, entry}

abbrev pub cmp_nat : ℕ → ℕ → Ordering
cmp_nat a b = cond (ltb a b) Less (cond (ltb b a) Greater Equal)

-- the kinds as numbered, then the powers or bases
abbrev pub cmp_head : Entry → Entry → Ordering
cmp_head x y = and_then (cmp_nat x.kind y.kind) (cmp_num x.num y.num)

-- entry by entry, where the lengths are alike: each term, by its head and then by its inside, and then its coefficient
unfoldable pub cmp_each : Sum → Sum → Ordering
cmp_each none t = Equal
cmp_each (and k p i c r) none = Equal
cmp_each (and k p i c r) (and l q j d s) =
    and_then (and_then (and_then (cmp_head (entry k (size i) p c) (entry l (size j) q d)) (and_then (cmp_nat (len i) (len j)) (cmp_each i j))) (cmp_complex c d)) (cmp_each r s)

abbrev pub cmp_sum : Sum → Sum → Ordering
cmp_sum s t = and_then (cmp_nat (len s) (len t)) (cmp_each s t)

-- a term is the kind and the number of a head, and an inside
abbrev pub cmp_term : Entry → Sum → Entry → Sum → Ordering
cmp_term x i y j = and_then (cmp_head x y) (cmp_sum i j)
