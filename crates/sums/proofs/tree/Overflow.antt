-- Where 18 comes from: an entry formed is refused so exactly where it is an X whose power isn't finite. Assumes nothing.
use native.Mathlib.Omega.{arith}
use mathlib.Core.Path.{◌≡◌, refl, ap}
use mathlib.Core.Bool.{Bool, true, false, cond}
use lib.Dec.{eqb}
use lib.Ieee.Scale.{finite}
use borrow.Author.Tests.{eqb-true, eq-eqb}
use Rattle.cells.specs.declared.Entry.{Entry}
use Rattle.limits.specs.declared.Refusal.{Refusal}
use Rattle.limits.specs.declared.Refusal.TheVariants.{NotFinite, PowerNotFinite}
use Rattle.limits.specs.Refusals.{refusal_no}
use Rattle.sums.specs.declared.tree.Merge.{Merge}
use Rattle.sums.specs.Tree.Kinds.{X}
use Rattle.sums.specs.Tree.Sums.{Sum}
use Rattle.sums.specs.Tree.Map.{refused, formed}
use Rattle.sums.proofs.tree.Keeps.{refused-is, formed-refusal}

-- another refusal isn't 18
pub other-refusal : (q : Refusal) → (refusal_no q ≡ 18 → ⊥) → refused q ≡ refused PowerNotFinite → ⊥
other-refusal q n h = n (ap refusal_no (refused-is h))

module _ (m : Merge) (x : Entry) (t s : Sum) where
  pub overflows : x.kind ≡ X → finite x.num ≡ false → formed m x t s ≡ refused PowerNotFinite
  unfolding formed
  overflows k f = rw (f, eq-eqb x.kind X k)

  pub overflowed : formed m x t s ≡ refused PowerNotFinite → (x.kind ≡ X) × (finite x.num ≡ false)
  overflowed h =
      formed-refusal (λ q. refusal_no q ≡ 18 → (x.kind ≡ X) × (finite x.num ≡ false)) m x t s (λ f. number (eqb x.kind X) refl f)
      (λ e. absurd (omega arith)) (λ e. absurd (omega arith)) (λ e. absurd (omega arith)) PowerNotFinite h refl
    where
      number : (b : Bool) → eqb x.kind X ≡ b → finite x.num ≡ false → refusal_no (cond b PowerNotFinite NotFinite) ≡ 18 → (x.kind ≡ X) × (finite x.num ≡ false)
      number true e f n = (eqb-true x.kind X e, f)
      number false e f n = absurd (omega arith)
