-- Where the two writers agree: on powers of x in all, and always on what is refused.
use Rattle.std.specs.Prelude.{◌≡◌, Bool, false, ◌↔◌, List}
use Rattle.numbers.specs.Complex.Arith as complex
use Rattle.limits.specs.declared.Refusal.{Refusal}
use Rattle.sums.specs.Tree.Kinds as kinds
use Rattle.sums.specs.Tree.Sums.{Sum, none, and}
use Rattle.formats.specs.Tree.{Nodes, size}
use Rattle.writing.specs.Draft.Writing.{wrote, refused}
use Rattle.writing.specs.ToNodes.{to_nodes}
use Rattle.writing.specs.Faithful.{faithful}
use Rattle.writing.specs.Count.{Shape, Powers, records_for}

-- every outermost entry that isn't zero is a power of x
unfoldable pub OfPowers : Sum → Type 0
OfPowers none = Unit {0}
OfPowers (and k p i c r) = (complex.same c complex.zero ≡ false → k ≡ kinds.X) × OfPowers r

-- then both write the same list, or refuse the sum alike
abbrev pub Alike : Type 0
Alike = (flag : Bool) (s : Sum) → OfPowers s → faithful flag s ≡ to_nodes flag s

-- so the second writer's lists of such sums have as many records as document 01 says
pub record FaithfulCount (flag : Bool) (s : Sum) (ts : List Shape) : Type 0 where
  pub list : Nodes
  pub written : faithful flag s ≡ wrote list
  pub counted : size list ≡ records_for ts

abbrev pub CountedAlike : Type 0
CountedAlike = (flag : Bool) (s : Sum) (ts : List Shape) → Powers flag s ts → FaithfulCount flag s ts

-- of any sum: what one refuses the other does, with the same refusal
abbrev pub RefusedAlike : Type 0
RefusedAlike = (flag : Bool) (s : Sum) (q : Refusal) → (faithful flag s ≡ refused q) ↔ (to_nodes flag s ≡ refused q)
