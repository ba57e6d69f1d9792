-- What `write` wrote, `read` gives back, over trees: the terms that aren't zero, as they were; at most 0·x besides; and the list that
-- the formula was written as is what it is written as again.
use Rattle.std.specs.Prelude.{ℕ, ◌≡◌, Bool, true, false, ◌&&◌, ◌||◌, List, [], ◌∷◌}
use Rattle.std.specs.Float.Ieee.{eq}
use Rattle.numbers.specs.Signs.{zero64, Zero}
use Rattle.sums.specs.Tree.Sums.{Sum}
use Rattle.formats.specs.declared.record.Kind.TheVariants.{ComplexPush}
use Rattle.formats.specs.Rules.{is_a}
use Rattle.formats.specs.Tree.{Nodes, end, rec}
use Rattle.writing.specs.Draft.Writing.{wrote}
use Rattle.writing.specs.ToNodes.{to_nodes}
use Rattle.modifiers.specs.Reading.{read_nodes, done}
use Rattle.theorems.specs.Readback.Terms.{Term, terms, zeros, PowerFormula, extra_of, wrote_pair}

-- b is a read back: equal as numbers. Bit for bit but for the sign of a zero, which neither a power of -0 nor an imaginary part keeps
pub record SameTerm (a b : Term) : Type 0 where
  pub power : eq b.power a.power ≡ true
  pub exact : eq a.power zero64 ≡ false → b.power ≡ a.power
  pub re : b.coef.re ≡ a.coef.re
  pub im : Zero b.coef.im

-- each of the second list is the one of the first, read back
unfoldable pub Alike : List Term → List Term → Type 0
Alike [] [] = Unit {0}
Alike [] (b ∷ vs) = ⊥
Alike (a ∷ us) [] = ⊥
Alike (a ∷ us) (b ∷ vs) = SameTerm a b × Alike us vs

-- t is s read back
pub record ReadBack (s t : Sum) : Type 0 where
  -- the terms are those of s, in order
  pub same : Alike (terms s) (terms t)
  -- nothing is there besides, or 0·x
  pub more : zeros t ≡ extra_of (terms s)
  -- it is good and has at most 64 entries, so that whatever takes sums takes it, and it comes back in its turn
  pub formula : PowerFormula t
  -- where real parts are written, it is written as s is
  pub again : to_nodes false t ≡ to_nodes false s

-- whether a number in the list is written as a pair
unfoldable pub has_pair : Nodes → Bool
has_pair end = false
has_pair (rec r ns ms) = is_a r ComplexPush || has_pair ns || has_pair ms

-- s, written with the flag, makes a list, which is read as t; the flag that is read says whether a number was written as a pair
pub record Back (flag : Bool) (s : Sum) : Type 0 where
  pub list : Nodes
  pub written : to_nodes flag s ≡ wrote list
  pub t : Sum
  pub handled : Bool
  pub pairs : ℕ
  pub read : read_nodes list ≡ done t (flag && wrote_pair (terms s)) handled pairs
  pub pair : has_pair list ≡ (flag && wrote_pair (terms s))
  pub back : ReadBack s t

-- with either flag
abbrev pub ReadsBack : Type 0
ReadsBack = (flag : Bool) (s : Sum) → PowerFormula s → Back flag s
