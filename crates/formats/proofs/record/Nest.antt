-- Laws of what is found from the last record to the first. Assumes nothing.
use mathlib.Core.Path.{◌≡◌, refl, sym, ◌∙◌}
use mathlib.Core.Bool.{Bool, true, false, true≢false}
use mathlib.Core.Logic.{⊎_elim}
use mathlib.Core.List.{List}
use Prim.Native.Nat.{ℕ, ◌+◌, ◌<◌}
use native.Mathlib.Omega.{arith}
use native.Mathlib.Nat.{eq-or-lt_of_le}
use lib.Dec.{eqb}
use Rattle.formats.specs.Names.{kind_no}
use Rattle.formats.specs.Tree.{rec_at, next_of, forest}
use Rattle.formats.specs.Rules.{is_a, ok_nodes}
use Rattle.formats.specs.Contract.Measure.{OkInside}
use Rattle.formats.proofs.record.Fit.{ok-inner}
use Rattle.formats.specs.declared.record.Record.{Record}
use Rattle.formats.specs.declared.record.Kind.TheVariants.{Modifier}

pub inside-more : (s : List ℕ) (i n : ℕ) → ok_nodes (is_a (rec_at s i) Modifier) (forest s (i + 1) (next_of s i)) ≡ true → OkInside s (i + 1) n → OkInside s i n
inside-more s i n q m j g k = ⊎_elim (λ (e : i ≡ j). rw (← e) q) (λ (e : i < j). m j (omega arith) k) (eq-or-lt_of_le g)

no_ok : (o : Bool) → (o ≡ true → ⊥) → o ≡ false
no_ok true n = absurd (n refl)
no_ok false n = refl

-- the list is bad where what is inside one record ends too late, or is bad
module _ (s : List ℕ) (i n : ℕ) (h : i < n) where
  pub too_long : n < next_of s i → ok_nodes false (forest s 0 n) ≡ false
  too_long l = no_ok (ok_nodes false (forest s 0 n)) (λ o. omega (arith, (ok-inner s n 0 n (omega arith) false o i (omega arith) h).0))

  pub bad-inside : ok_nodes (is_a (rec_at s i) Modifier) (forest s (i + 1) (next_of s i)) ≡ false → ok_nodes false (forest s 0 n) ≡ false
  bad-inside q = no_ok (ok_nodes false (forest s 0 n)) (λ o. true≢false (sym (ok-inner s n 0 n (omega arith) false o i (omega arith) h).1 ∙ q))

-- of what is inside a record that was read
pub inner-ok : (s : List ℕ) (i : ℕ) (r : Record) (m x : Bool) → r ≡ rec_at s i → m ≡ eqb r.kind (kind_no Modifier) → x ≡ ok_nodes m (forest s (i + 1) (i + 1 + r.inside))
    → ok_nodes (is_a (rec_at s i) Modifier) (forest s (i + 1) (next_of s i)) ≡ x
inner-ok s i r m x q p e = rw (← q, ← p) (sym e)
