-- The list of a sum of whole powers and of a square root: how many records it has, and how it runs.
use Rattle.std.specs.Prelude.{ℕ, ◌≡◌, true, false, List, T, Float}
use Rattle.std.proofs.Math.Option.{none, some}
use Rattle.std.specs.Float.Ieee.Scale.{finite}
use Rattle.limits.specs.declared.Refusal.TheVariants.{NeedsMath, NotFinite}
use Rattle.sums.specs.Tree.Sums.{Sum}
use Rattle.formats.specs.Tree.{Nodes, size, encode}
use Rattle.writing.specs.Draft.Writing.{wrote}
use Rattle.writing.specs.ToNodes.{to_nodes}
use Rattle.writing.specs.Count.{records_for}
use Rattle.running.specs.Running.{run_nodes, run_list, Value, Refused}
use Rattle.values.specs.Value.{Power, value}
use Rattle.theorems.specs.Records.{shapes, exact_peak}
use Rattle.theorems.specs.Places.{in_all, first_not_finite}
use Rattle.theorems.specs.Roots.{lacks_root, place_of_sqrt}

-- ns is the list of s, whose terms that aren't zero are ts: the number of its records, and its run at every finite x.
-- Where a root is asked of a number below zero it is refused with 14 at Sqrt. Else, where every value formed is finite, the run gives the value of the terms, in as
-- many steps as there are records; or it is refused with 15 at the record that forms the first that isn't. Its bytes run alike.
pub record PowerSum (s : Sum) (ts : List Power) (ns : Nodes) : Type 0 where
  pub written : to_nodes false s ≡ wrote ns
  pub records : size ns ≡ records_for (shapes ts)
  pub gives : (x : Float) → T (finite x) → lacks_root x ts ≡ false → first_not_finite (in_all x ts) ≡ none → run_nodes ns x ≡ Value (value x ts) (size ns) (exact_peak ts)
  pub refuses : (x : Float) (at : ℕ) → T (finite x) → lacks_root x ts ≡ false → first_not_finite (in_all x ts) ≡ some at → run_nodes ns x ≡ Refused NotFinite at
  pub lacks : (x : Float) → T (finite x) → lacks_root x ts ≡ true → run_nodes ns x ≡ Refused NeedsMath (place_of_sqrt ts)
  pub bytes : (x : Float) → T (finite x) → run_list (encode ns) x ≡ run_nodes ns x
