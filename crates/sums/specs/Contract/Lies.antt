-- A sum lying in a book of cells, and what an answer of the code says of one.
use Rattle.std.specs.Prelude.{ℕ, ◌+◌, ◌≤◌, ◌≡◌, Result, Ok, Err}
use Rattle.limits.specs.Limits.{sum_entries, sum_levels}
use Rattle.cells.specs.declared.Entry.{Entry}
use Rattle.cells.specs.Contract.Book.{Book, at, Room}
use Rattle.limits.specs.declared.Refusal.{Refusal}
use Rattle.sums.specs.Tree.Sums.{Sum, none, and, size, entry}
use Rattle.sums.specs.Tree.Good.{Good}
use Rattle.sums.specs.Tree.Map.{Outcome, sum, refused}

-- from i on the entries f are those of the sum: an entry, its inside, the rest
unfoldable pub At : (ℕ → Entry) → ℕ → Sum → Type 0
unfolding size
At f i none = Unit {0}
At f i (and k p t c r) = (f i ≡ entry k (size t) p c) × At f (i + 1) t × At f (i + 1 + size t) r

-- the cells from i up to e are the good sum s, of at most `left` levels
pub record Lies (b : Book) (i e left : ℕ) (s : Sum) : Type 0 where
  pub laid : At (at b) i s
  pub good : Good left s
  pub ends : i + size s ≡ e
  pub room : Room b e

-- some sum lies there
abbrev pub Held : Book → ℕ → ℕ → ℕ → Type 0
Held b i e left = (s : Sum) × Lies b i e left s

-- a fact of every sum that lies from i up to e
abbrev pub OfOne : Book → ℕ → ℕ → ℕ → (Sum → Type 0) → Type 0
OfOne b i e left fact = (s : Sum) → Lies b i e left s → fact s

-- a fact of every two sums that lie in one book, from i up to e and from j up to d
abbrev pub OfTwo : Book → ℕ → ℕ → ℕ → ℕ → ℕ → (Sum → Sum → Type 0) → Type 0
OfTwo b i e j d left fact = (s t : Sum) → Lies b i e left s → Lies b j d left t → fact s t

-- the code's answer is the definition's: the sum lies from p on, or the same refusal
abbrev pub Agrees : Result ℕ Refusal → Book → ℕ → Outcome → Type 0
Agrees (Ok n) b p (sum s) = (n ≤ sum_entries) × Lies b p (p + n) sum_levels s
Agrees (Ok n) b p (refused q) = ⊥
Agrees (Err r) b p (sum s) = ⊥
Agrees (Err r) b p (refused q) = r ≡ q
