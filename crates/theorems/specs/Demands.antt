-- Demand 1, and 'determined', over all thirteen entries.
use Rattle.std.specs.Prelude.{ℕ, ◌≤◌, ◌≡◌, List, ◌⊎◌}
use Rattle.limits.specs.declared.Refusal.{Refusal}
use Rattle.limits.specs.Refusals.{last_number}
use Rattle.algebra.specs.Replies.{Entry, Reply, refusing, Promised}

-- ---- demand 1

-- a refusal's number in document 01's table, so no 0
abbrev pub Numbered : ℕ → Type 0
Numbered n = (1 ≤ n) × (n ≤ last_number)

-- one refusal of the table, at a place, with zero counts; no output byte was changed
pub record Refuses (out out' : List ℕ) (r : Reply) : Type 0 where
  pub refusal : Refusal
  pub place : ℕ
  pub is : r ≡ refusing refusal place
  pub numbered : Numbered r.number
  pub quiet : out' ≡ out

-- a result, or a refusal
abbrev pub Answers : List ℕ → List ℕ → Reply → Type 0
Answers out out' r = (r.number ≡ 0) ⊎ Refuses out out' r

-- whatever the entry, its input and the output lent to it
abbrev pub Demand1 : Type 0
Demand1 = (e : Entry) (l out out' : List ℕ) (r : Reply) → Promised e l out out' r → Answers out out' r

-- ---- determined

-- any two answers that an entry's promise allows are the same, and so is every byte of the output
abbrev pub Determined : Type 0
Determined = (e : Entry) (l out out₁ out₂ : List ℕ) (r₁ r₂ : Reply) → Promised e l out out₁ r₁ → Promised e l out out₂ r₂ → (r₁ ≡ r₂) × (out₁ ≡ out₂)
