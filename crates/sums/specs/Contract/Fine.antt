-- What is asked of one cell by itself, and of two that follow each other.
use Rattle.std.specs.Prelude.{ℕ, ◌+◌, ◌≤◌, ◌<◌, ◌≡◌, Bool, true, false, ◌&&◌, ◌||◌, leb, eqb, pos}
use Rattle.std.specs.Bool.{beq}
use Rattle.std.specs.Float.{fin}
use Rattle.std.specs.declared.cmp.Ordering.{Ordering}
use Rattle.std.specs.declared.cmp.Ordering.TheVariants.{Less, Equal, Greater}
use Rattle.cells.specs.Contract.Book.{Book, at, Plain}
use Rattle.sums.specs.Tree.Kinds.{X, Log, CosH, has_number}
use Rattle.sums.specs.Tree.Sums.{Sum}
use Rattle.sums.specs.Tree.Order.{cmp_term}
use Rattle.sums.specs.Contract.Lies.{Lies}

-- the rules of a kind, on the cell's own numbers: 0 is the pattern of +0
abbrev pub head_ok : ℕ → ℕ → ℕ → Bool
head_ok k n b = leb X k && leb k CosH && (eqb k X || eqb k Log || eqb b 0) && beq (eqb n 0) (eqb k X)

-- the cell at k may be an entry of a good sum that goes on up to e: its numbers are finite, its kind is 1 to 8, it has +0 where its kind has no
-- number, it has an inside unless it is an X, and that ends by e
pub record Fine (b : Book) (k e : ℕ) : Type 0 where
  pub plain : Plain (at b k)
  pub least : 1 ≤ (at b k).kind
  pub most : (at b k).kind ≤ 8
  pub none_else : has_number (at b k).kind ≡ false → (at b k).num ≡ fin false 0 (pos 0)
  pub inside : eqb (at b k).inside 0 ≡ eqb (at b k).kind X
  pub within : k + 1 + (at b k).inside ≤ e

abbrev pub is_less : Ordering → Bool
is_less Less = true
is_less Equal = false
is_less Greater = false

-- s lies inside the cell at k, with at most `left` levels
abbrev pub Inside : Book → ℕ → ℕ → Sum → Type 0
Inside b k left s = Lies b (k + 1) (k + 1 + (at b k).inside) left s

-- the cell at k is a term whose inside lies there
pub record Term (b : Book) (k left : ℕ) : Type 0 where
  pub plain : Plain (at b k)
  pub inner : Sum
  pub lies : Inside b k left inner

-- r says whether the term at k comes after the one at `last`; where k is the first it does
pub record Follows (b : Book) (last k left : ℕ) (r : Bool) : Type 0 where
  pub first : k ≤ last → r ≡ true
  pub later : last < k → (s t : Sum) → Inside b last left s → Inside b k left t → r ≡ is_less (cmp_term (at b last) s (at b k) t)
