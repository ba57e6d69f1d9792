-- A term that is put into a sum, once its place there is known.
use Rattle.std.specs.Prelude.{ℕ, ◌+◌, ◌≤◌, ◌≡◌, true, Result}
use Rattle.std.specs.Float.Ieee.Scale.{finite}
use Rattle.limits.specs.Limits.{sum_entries, sum_levels}
use Rattle.cells.specs.declared.Entry.{Entry}
use Rattle.cells.specs.Contract.Book.{Book, Room}
use Rattle.cells.specs.Contract.Moves.{Kept}
use Rattle.sums.specs.declared.tree.Merge.{Merge}
use Rattle.sums.specs.Tree.Map.{formed}
use Rattle.sums.specs.Tree.Sums.{Sum}
use Rattle.sums.specs.declared.order.Found.{Found}
use Rattle.sums.specs.Contract.Lies.{Lies, Agrees}
use Rattle.limits.specs.declared.Refusal.{Refusal}
use Rattle.sums.specs.Contract.Place.{place}
use Rattle.sums.specs.Contract.Heads.{GoodHead}

-- the sum s lies in b, n entries from p on with room for sum_entries; x's inside t lies in g from i on; x has a finite number, and its place is `found`
pub record Putting (g b : Book) (x : Entry) (i p n : ℕ) (found : Found) (s t : Sum) : Type 0 where
  pub head : GoodHead x
  pub number : finite x.num ≡ true
  pub inside : Lies g i (i + x.inside) sum_levels t
  pub few : n ≤ sum_entries
  pub room : Room b (p + sum_entries)
  pub lies : Lies b p (p + n) sum_levels s
  pub placed : place x t s p ≡ found

-- some sum and some inside are so, in one book
abbrev pub Places : Book → Entry → ℕ → ℕ → ℕ → Found → Type 0
Places b x i p n found = (s : Sum) × (t : Sum) × Putting b b x i p n found s t

-- of every such two: nothing but the sum_entries cells from p on is written, and the answer is that of `formed`
abbrev pub Puts : Book → Book → Merge → Entry → ℕ → ℕ → ℕ → Found → Result ℕ Refusal → Type 0
Puts b b' how x i p n found r = (s t : Sum) → Putting b b x i p n found s t → Kept b b' p (p + sum_entries) × Agrees r b' p (formed how x t s)
