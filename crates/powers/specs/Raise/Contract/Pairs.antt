-- What a power that was formed says of the pairs multiplied for it.
use Rattle.std.specs.Prelude.{ℕ, ◌≡◌, Result, Ok}
use Rattle.limits.specs.declared.Refusal.{Refusal}
use Rattle.powers.specs.declared.raise.Raised.{Raised}

abbrev pub counted_as : Result ℕ Refusal → ℕ → Raised
counted_as f k = record { formed = f; pairs = k }

-- where a sum was formed, k pairs were multiplied
abbrev pub Counted : Raised → ℕ → Type 0
Counted r k = (n : ℕ) → r.formed ≡ Ok n → r.pairs ≡ k
