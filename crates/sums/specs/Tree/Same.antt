-- The Rust's `==` on terms and sums of finite numbers, which is not the order's Equal: it doesn't look at coefficients, at any level.
use Rattle.std.specs.Prelude.{Bool, true, false, ◌&&◌, eqb}
use Rattle.std.specs.Float.Ieee.{eq}
use Rattle.cells.specs.declared.Entry.{Entry}
use Rattle.sums.specs.Tree.Sums.{Sum, none, and, size, entry}

-- the kinds and the numbers; -0 is equal to 0
abbrev pub same_head : Entry → Entry → Bool
same_head x y = eqb x.kind y.kind && eq x.num y.num

unfoldable pub same_sum : Sum → Sum → Bool
same_sum none none = true
same_sum none (and l q j d s) = false
same_sum (and k p i c r) none = false
same_sum (and k p i c r) (and l q j d s) = same_head (entry k (size i) p c) (entry l (size j) q d) && same_sum i j && same_sum r s

abbrev pub same_term : Entry → Sum → Entry → Sum → Bool
same_term x i y j = same_head x y && same_sum i j
