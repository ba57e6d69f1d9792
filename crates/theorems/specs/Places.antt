-- At which record the run of demand 3 gives 15: the values that it forms on the way, each with the place of the record that forms it.
use Rattle.std.specs.Prelude.{ℕ, zero, suc, ◌+◌, ◌-◌, ◌*◌, ◌≤◌, ◌≡◌, Bool, true, false, cond, List, [], ◌∷◌, ◌++◌, ◌↔◌, T, length, take, Float}
use Rattle.std.proofs.Math.Option.{Option, none, some}
use Rattle.std.specs.Float.Ieee.Scale.{finite}
use Rattle.numbers.specs.Signs.{zero64}
use Rattle.numbers.specs.Ops.{◌⊕◌, ◌⊗◌}
use Rattle.numbers.specs.Radical.Root.{root}
use Rattle.numbers.specs.declared.complex.Complex.{Complex}
use Rattle.limits.specs.Limits.{record_bytes}
use Rattle.limits.specs.declared.Refusal.TheVariants.{NotFinite}
use Rattle.formats.specs.Tree.{records_in}
use Rattle.running.specs.Primitives.{times}
use Rattle.running.specs.Running.{run_list, Refused}
use Rattle.algebra.specs.declared.answer.Answer.{Answer}
use Rattle.algebra.specs.Answer.Making.{Gives}
use Rattle.algebra.specs.Entries.{derivative}
use Rattle.values.specs.Value.{Exponent, whole, half, Power, power, is_one, term_value, value}
use Rattle.theorems.specs.Records.{cost_of, is_x, records}
use Rattle.theorems.specs.Demand3.{Formula}

-- ---- the values formed

-- a value, and the place of the record that forms it
pub data Formed : Type 0 where
  formed : ℕ → Float → Formed

-- a value that is formed only where the test fails
abbrev pub formed_unless : Bool → ℕ → Float → List Formed
formed_unless true at v = []
formed_unless false at v = formed at v ∷ []

-- for a term whose first record has the place: x times 0, then plus c; or the root or the product, then times the coefficient
unfoldable pub in_term : ℕ → Float → Exponent → Complex → List Formed
in_term at x (whole zero) c = formed (at + 1) (x ⊗ zero64) ∷ formed (at + 3) (x ⊗ zero64 ⊕ c.re) ∷ []
in_term at x half c = formed at (root x) ∷ formed_unless (is_one c) (at + 2) (root x ⊗ c.re)
in_term at x (whole (suc zero)) c = formed_unless (is_one c) (at + 1) (x ⊗ c.re)
in_term at x (whole (suc (suc n))) c = formed (at + 1) (times (suc n) x x) ∷ formed_unless (is_one c) (at + 3) (times (suc n) x x ⊗ c.re)

-- then each term and its Add, from a place on, to the sum so far
unfoldable pub in_sum : ℕ → Float → Float → List Power → List Formed
in_sum at x r [] = []
in_sum at x r (power k c ∷ ts) =
    in_term at x k c ++ (formed (at + cost_of k c) (r ⊕ term_value x k c) ∷ in_sum (at + cost_of k c + 1) x (r ⊕ term_value x k c) ts)

-- before the first term stand an On and its body for each later term; a first term that is bare x needs one Dup for the second in their stead
unfoldable pub in_all : Float → List Power → List Formed
in_all x [] = formed 1 (x ⊗ zero64) ∷ []
in_all x (power k c ∷ ts) =
    let at = 2 * length ts - cond (is_x k c) 1 0 in
    in_term at x k c ++ in_sum (at + cost_of k c) x (term_value x k c) ts

-- the place, unless the value is finite
abbrev pub unless_finite : Bool → ℕ → Option ℕ → Option ℕ
unless_finite true at o = o
unless_finite false at o = some at

-- the place of the first value that isn't finite; none where every value is
unfoldable pub first_not_finite : List Formed → Option ℕ
first_not_finite [] = none
first_not_finite (formed at v ∷ fs) = unless_finite (finite v) at (first_not_finite fs)

-- ---- the place of 15

-- `run` of what `derivative` wrote refuses with 15 at the record that forms the first value that isn't finite; there is no such record exactly where the value of
-- the terms is finite
pub record Place (l : List ℕ) (ts : List Power) : Type 0 where
  pub none_exactly : (x : Float) → T (finite x) → (first_not_finite (in_all x ts) ≡ none) ↔ T (finite (value x ts))
  pub refuses : (out out' : List ℕ) (r : Answer) → records ts ≤ records_in out → Gives records_in (derivative l) out out' r
      → (x : Float) (at : ℕ) → T (finite x) → first_not_finite (in_all x ts) ≡ some at → run_list (take (record_bytes * records ts) out') x ≡ Refused NotFinite at

-- for the lists of demand 3
abbrev pub PlaceOf15 : Type 0
PlaceOf15 = (l : List ℕ) (ts : List Power) → Formula l ts → Place l ts
