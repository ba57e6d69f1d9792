-- Where a term stands, or belongs, in a sum that lies from k on; and the powers of x there.
use Rattle.std.specs.Prelude.{ℕ, zero, suc, ◌+◌, ◌≤◌, ◌<◌, ◌≡◌, Bool, true, false, List, eqb, get_or}
use Rattle.cells.specs.declared.Entry.{Entry}
use Rattle.sums.specs.Tree.Kinds.{X}
use Rattle.sums.specs.Tree.Sums.{Sum, none, and, size, entry}
use Rattle.sums.specs.Tree.Order.{cmp_term}
use Rattle.sums.specs.Tree.Map.{by_order}
use Rattle.sums.specs.declared.order.Found.{Found}
use Rattle.sums.specs.declared.order.Found.TheVariants.{Same, Before}

unfoldable pub place : Entry → Sum → Sum → ℕ → Found
unfolding size
place x t none k = Before k
place x t (and l q j d r) k = by_order (cmp_term x t (entry l (size j) q d) j) (Before k) (Same k) (place x t r (k + 1 + size j))

-- how many powers of x stand first in a sum
abbrev pub one_more : Bool → ℕ → ℕ
one_more true n = suc n
one_more false n = zero

unfoldable pub powers : Sum → ℕ
powers none = zero
powers (and l q j d r) = one_more (eqb l X) (powers r)

-- each of the cells from p up to e is a power of x
abbrev pub OnlyPowers : List ℕ → ℕ → ℕ → Type 0
OnlyPowers kinds p e = (k : ℕ) → p ≤ k → k < e → get_or kinds k 0 ≡ X
