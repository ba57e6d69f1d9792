-- A sum as far as its kinds and inside counts tell.
use Rattle.std.specs.Prelude.{ℕ, ◌+◌, ◌≤◌, ◌≡◌, List, length, get_or}
use Rattle.cells.specs.declared.Entry.{Entry}
use Rattle.sums.specs.Tree.Sums.{Sum, size}
use Rattle.sums.specs.Tree.Good.{Good}
use Rattle.sums.specs.Contract.Lies.{At}

-- the sum s lies from i up to e, as far as kinds and inside counts tell
pub record Shape (ks ns : List ℕ) (i e left : ℕ) (s : Sum) : Type 0 where
  pub f : ℕ → Entry
  pub kinds : (k : ℕ) → (f k).kind ≡ get_or ks k 0
  pub insides : (k : ℕ) → (f k).inside ≡ get_or ns k 0
  pub laid : At f i s
  pub good : Good left s
  pub ends : i + size s ≡ e
  pub room_k : e ≤ length ks
  pub room_n : e ≤ length ns

abbrev pub Shaped : List ℕ → List ℕ → ℕ → ℕ → ℕ → Type 0
Shaped ks ns i e left = (s : Sum) × Shape ks ns i e left s

-- a fact of every two sums whose shapes lie in the lists, from i up to e and from j up to d
abbrev pub OfShapes : List ℕ → List ℕ → ℕ → ℕ → ℕ → ℕ → ℕ → ℕ → (Sum → Sum → Type 0) → Type 0
OfShapes kinds insides i e above j d below fact = (s t : Sum) → Shape kinds insides i e above s → Shape kinds insides j d below t → fact s t
