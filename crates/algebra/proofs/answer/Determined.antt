-- A promise allows one answer. Assumes nothing.
use Prim.Native.Nat.{ℕ}
use mathlib.Core.Path.{◌≡◌, sym, ◌∙◌}
use mathlib.Core.List.{List}
use Rattle.algebra.specs.Answer.Promises.{Promise}

-- any two answers that a promise allows are the same, and so is every byte of the output
pub determined : {A : Type 0} {answer : List ℕ → A} {bytes : List ℕ → List ℕ} {out out₁ out₂ : List ℕ} {r₁ r₂ : A} → Promise answer bytes out out₁ r₁ → Promise answer bytes out out₂ r₂
    → (r₁ ≡ r₂) × (out₁ ≡ out₂)
determined p q = (p.answered ∙ sym q.answered, p.written ∙ sym q.written)
