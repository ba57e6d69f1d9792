-- Sums one after the other in the arena. At a sum's last cell stands how many cells it has.
use Rattle.std.specs.Prelude.{ℕ, zero, suc, ◌+◌, ◌-◌, ◌≤◌, ◌≡◌, List, [], ◌∷◌, get_or, Option, Some, None}
use Rattle.limits.specs.Limits.{sum_levels}
use Rattle.sums.specs.Tree.Sums.{Sum, size}
use Rattle.arithmetic.specs.Singles.{GoodSum}
use Rattle.sums.specs.Contract.Lies.{Lies}
use Rattle.stack.specs.Contract.Arena.{Arena}

-- the sum s lies from lo up to hi
pub record Top (a : Arena) (lo hi : ℕ) (s : Sum) : Type 0 where
  pub lies : Lies a.cells lo hi sum_levels s
  pub good : GoodSum s
  pub told : get_or a.sizes (hi - 1) 0 ≡ size s

-- the sums lie from lo up to hi, the first of the list on top
pub data Stacked (a : Arena) (lo : ℕ) : ℕ → List Sum → Type 0 where
  no_sum : Stacked a lo lo []
  on_top : {m hi : ℕ} {s : Sum} {ss : List Sum} → Top a m hi s → Stacked a lo m ss → Stacked a lo hi (s ∷ ss)

-- the same of their sizes alone
pub data Sized (z : List ℕ) (lo : ℕ) : ℕ → List ℕ → Type 0 where
  no_size : Sized z lo lo []
  one_more : {m hi n : ℕ} {ns : List ℕ} → m + n ≡ hi → 1 ≤ n → get_or z (hi - 1) 0 ≡ n → Sized z lo m ns → Sized z lo hi (n ∷ ns)

unfoldable pub sizes_of : List Sum → List ℕ
sizes_of [] = []
sizes_of (s ∷ ss) = size s ∷ sizes_of ss

-- where the top k of some sums begin, the uppermost ending at hi
unfoldable pub deep : ℕ → List ℕ → ℕ → Option ℕ
deep zero ns hi = Some hi
deep (suc k) [] hi = None
deep (suc k) (n ∷ ns) hi = deep k ns (hi - n)
