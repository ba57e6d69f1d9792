-- What either writer makes is what its name in the code stands for. Assumes nothing.
use Prim.Native.Nat.{ℕ}
use mathlib.Core.Path.{◌≡◌, refl, sym, subst}
use mathlib.Core.Bool.{Bool}
use mathlib.Core.List.{List}
use Rattle.sums.specs.Tree.Sums.{Sum}
use Rattle.formats.specs.Tree.{records_in}
use Rattle.std.specs.Prelude.{Result}
use Rattle.limits.specs.declared.Refusal.{Refusal}
use Rattle.writing.specs.Draft.Contract.Lying.{Answered}
use Rattle.calculus.specs.Derivative as derivatives
use Rattle.calculus.specs.Integral as integrals
use Rattle.algebra.specs.declared.answer.Answer.{Answer}
use Rattle.algebra.specs.declared.answer.Writer.{Writer}
use Rattle.algebra.specs.declared.answer.Writer.TheVariants.{AsRust, Faithful}
use Rattle.algebra.specs.Answer.Making.{Made, of_list, of_outcome, write, write_faithful, derive_and_write, derive_and_write_faithful, integrate_and_write, integrate_and_write_faithful, Gives}
use Rattle.algebra.specs.Contract.Writers.{list_by, write_by, derive_and_write_by, integrate_and_write_by}

pub write-by : (w : Writer) (flag : Bool) (s : Sum) → of_list (list_by w flag s) ≡ write_by w flag s
unfolding write write_faithful
write-by AsRust flag s = refl
write-by Faithful flag s = refl

pub derive-by : (w : Writer) (flag : Bool) (s : Sum) → of_outcome (derivatives.derive s) (write_by w flag) ≡ derive_and_write_by w flag s
unfolding derive_and_write derive_and_write_faithful
derive-by AsRust flag s = refl
derive-by Faithful flag s = refl

pub integrate-by : (w : Writer) (flag : Bool) (s : Sum) → of_outcome (integrals.integrate s) (write_by w flag) ≡ integrate_and_write_by w flag s
unfolding integrate_and_write integrate_and_write_faithful
integrate-by AsRust flag s = refl
integrate-by Faithful flag s = refl

-- another way to say what is made
pub given-as : {m k : Made} {out out' : List ℕ} {r : Answer} → m ≡ k → Gives records_in m out out' r → Gives records_in k out out' r
given-as {out = out} {out' = out'} {r = r} e g = subst (λ (z : Made). Gives records_in z out out' r) e g

-- another name for what answered
pub answered-as : {w v : Writer} (flag : Bool) (s : Sum) {out out' : List ℕ} {r : Result ℕ Refusal} → w ≡ v → Answered out out' r (list_by v flag s) → Answered out out' r (list_by w flag s)
answered-as flag s {out} {out'} {r} e a = subst (λ (w : Writer). Answered out out' r (list_by w flag s)) (sym e) a
