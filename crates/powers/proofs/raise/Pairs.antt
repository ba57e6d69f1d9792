-- What an answer says of the pairs multiplied for it. Assumes nothing.
use Prim.Native.Nat.{ℕ}
use native.Mathlib.Omega.{arith}
use mathlib.Core.Path.{◌≡◌, sym, ap, subst, ◌∙◌}
use lib.Ieee.{Float}
use Rattle.numbers.specs.declared.complex.Complex.{Complex}
use Rattle.limits.specs.declared.Refusal.{Refusal}
use Rattle.cells.specs.Contract.Book.{Book}
use Rattle.sums.specs.Tree.Kinds.{X}
use Rattle.sums.specs.Tree.Sums.{Sum}
use Rattle.sums.specs.Tree.Map.{Outcome}
use Rattle.std.specs.Prelude.{Result, Ok, Err}
use Rattle.sums.specs.Contract.Lies.{Agrees}
use Rattle.arithmetic.specs.Singles.{single}
use Rattle.arithmetic.specs.Power.{raised}
use Rattle.arithmetic.specs.Pairs.{raised_pairs}
use Rattle.arithmetic.proofs.add.Lying.{agreed-done}
use Rattle.powers.specs.declared.raise.Raised.{Raised}
use Rattle.powers.specs.Raise.Contract.Pairs.{Counted, counted_as}
use Rattle.powers.proofs.raise.Singles.{raise-pairs}

-- what was formed agrees, whatever was counted
pub counted-agrees : (b : Book) (w : ℕ) (o : Outcome) (f : Result ℕ Refusal) {r : Raised} {m : ℕ} → r ≡ counted_as f m → Agrees f b w o → Agrees r.formed b w o
counted-agrees b w o f e a = subst (λ (v : Raised). Agrees v.formed b w o) (sym e) a

-- the number is right
pub counted_is : {r : Raised} {f : Result ℕ Refusal} {m k : ℕ} → r ≡ counted_as f m → m ≡ k → Counted r k
counted_is e h n d = ap (λ (v : Raised). v.pairs) e ∙ h

-- a refusal says nothing of it
pub counted-refused : {r : Raised} {q : Refusal} {m k : ℕ} → r ≡ counted_as (Err q) m → Counted r k
counted-refused {r} {q} e n d = absurd (let told : Err q ≡ Ok n = sym (ap (λ (v : Raised). v.formed) e) ∙ d in let z : ◌≡◌ {A = ℕ} 0 1 = cc in omega arith)

-- one power of x raised: as many pairs as products
pub counted-power : (b : Book) (w times : ℕ) (x : Float) (j : Sum) (d : Complex) {r : Raised} {f : Result ℕ Refusal} → r ≡ counted_as f times
    → (let s = single X x j d in Agrees f b w (raised times s s) → Counted r (raised_pairs times s s))
counted-power b w times x j d {f = f} e a n h =
    let s = single X x j d in
    let done = agreed-done b w n f (raised times s s) a (sym (ap (λ (v : Raised). v.formed) e) ∙ h) in
    ap (λ (v : Raised). v.pairs) e ∙ sym (raise-pairs x j d times x j d done.s done.is)
