-- Which sums may be handed over, and what an answer says of a list of bytes: 11 where they are the bytes of no such sum, then 13 where more
-- than sum_levels entries lie one inside the other.
use Rattle.std.specs.Prelude.{◌≡◌, ◌↔◌, List, ℕ, ◌≤◌, Result, Ok, Err}
use Rattle.limits.specs.Limits.{sum_entries, sum_levels}
use Rattle.sums.specs.Tree.Sums.{Sum, size}
use Rattle.sums.specs.Tree.Good.{Good}
use Rattle.limits.specs.declared.Refusal.TheVariants.{BadRecord, TooDeep}
use Rattle.sums.specs.Entry.Encoding.{encode_sum}
use Rattle.limits.specs.declared.Refusal.{Refusal}

-- a sum of 1 to sum_entries entries that is good, however deep it goes: so many entries make at most as many levels
pub record Handed (s : Sum) : Type 0 where
  pub good : Good sum_entries s
  pub some : 1 ≤ size s
  pub few : size s ≤ sum_entries

-- what an answer says of a list of bytes, in the words of the sums
pub record Weighed (l : List ℕ) (t : Result ℕ Refusal) : Type 0 where
  pub good : (n : ℕ) → (t ≡ Ok n) ↔ ((s : Sum) × (encode_sum s ≡ l) × Handed s × Good sum_levels s × (size s ≡ n))
  pub deep : (t ≡ Err TooDeep) ↔ ((s : Sum) × (encode_sum s ≡ l) × Handed s × (Good sum_levels s → ⊥))
  pub bad : (t ≡ Err BadRecord) ↔ ((s : Sum) → encode_sum s ≡ l → Handed s → ⊥)
