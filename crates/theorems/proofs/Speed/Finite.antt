-- Every value formed is finite exactly where the last one is: what isn't finite stays so. Assumes nothing.
use Prim.Native.Nat.{ℕ, zero, suc, ◌+◌, ◌-◌, ◌*◌}
use mathlib.Core.Path.{◌≡◌, refl, sym, ap, ap₂, ◌∙◌, subst}
use mathlib.Core.Bool.{Bool, true, false, ◌&&◌, cond}
use mathlib.Core.List.{List, [], ◌∷◌, ◌++◌}
use mathlib.Core.Logic.{◌↔◌}
use mathlib.Core.Option.{Option, none, some}
use lib.Dec.{T}
use lib.ListN.{length}
use lib.Ieee.{Float, binary64}
use lib.Ieee.Bits.{is_true}
use lib.Ieee.Fits.{and_i, and_r}
use lib.Ieee.Scale.{finite}
use Rattle.numbers.specs.Signs.{zero64}
use Rattle.numbers.specs.Ops.{◌⊕◌, ◌⊗◌}
use Rattle.numbers.proofs.Bools.{bool-ext, and-true, T_of}
use Rattle.numbers.proofs.Finite.{add-finite, mul-finite}
use Rattle.numbers.specs.Radical.Root.{root}
use Rattle.numbers.specs.declared.complex.Complex.{Complex}
use Rattle.running.specs.Primitives.{times}
use Rattle.values.specs.Value.{Exponent, whole, half, Power, power, is_one, term_value, times_unless, plus_terms, value}
use Rattle.theorems.specs.Records.{cost_of, is_x}
use Rattle.theorems.specs.Places.{Formed, formed, formed_unless, in_term, in_sum, in_all, unless_finite, first_not_finite}

-- no place
is_none : Option ℕ → Bool
is_none none = true
is_none (some at) = false

none-unless : (b : Bool) (at : ℕ) (o : Option ℕ) → is_none (unless_finite b at o) ≡ b && is_none o
unfolding is_none
none-unless true at o = refl
none-unless false at o = refl

none-bad : (b : Bool) (at : ℕ) → is_none (unless_finite b at none) ≡ b
unfolding is_none
none-bad true at = refl
none-bad false at = refl

-- no place in either of two lists
none-append : (fs gs : List Formed) → is_none (first_not_finite (fs ++ gs)) ≡ is_none (first_not_finite fs) && is_none (first_not_finite gs)
unfolding is_none first_not_finite
none-append [] gs = refl
none-append (formed at v ∷ fs) gs = go (finite v) (first_not_finite (fs ++ gs)) (first_not_finite fs) (is_none (first_not_finite gs)) (none-append fs gs)
  where
    go : (b : Bool) (o p : Option ℕ) (q : Bool) → is_none o ≡ is_none p && q → is_none (unless_finite b at o) ≡ is_none (unless_finite b at p) && q
    go true o p q e = e
    go false o p q e = refl

-- ---- a sum or a product is finite only where what it is formed of is

absorb : (a b : Bool) → (T b → T a) → a && b ≡ b
absorb a b f = bool-ext (a && b) b (λ t. and_r a b t) (λ t. and_i a b (f t) t)

add_left : (a b : Float) → finite a && finite (a ⊕ b) ≡ finite (a ⊕ b)
add_left a b = absorb (finite a) (finite (a ⊕ b)) (λ t. (add-finite binary64 a b t).0)

mul_left : (a b : Float) → finite a && finite (a ⊗ b) ≡ finite (a ⊗ b)
mul_left a b = absorb (finite a) (finite (a ⊗ b)) (λ t. (mul-finite binary64 a b t).0)

add-both : (a b : Float) (o : Bool) → finite a && (finite b && (finite (a ⊕ b) && o)) ≡ finite (a ⊕ b) && o
add-both a b o = go (finite a) (finite b) (finite (a ⊕ b)) (λ t. add-finite binary64 a b t)
  where
    go : (p q r : Bool) → (T r → T p × T q) → p && (q && (r && o)) ≡ r && o
    go true true r f = refl
    go true false true f = absurd (f tt).1
    go true false false f = refl
    go false q true f = absurd (f tt).0
    go false q false f = refl

-- ---- terms and sums

module _ (x : Float) (fx : T (finite x)) where
  after-product : (b : Bool) (at : ℕ) (v c : Float) → finite v && is_none (first_not_finite (formed_unless b at (v ⊗ c))) ≡ finite (times_unless b v c)
  unfolding is_none first_not_finite
  after-product true at v c = and-true (finite v)
  after-product false at v c = ap (λ (t : Bool). finite v && t) (none-bad (finite (v ⊗ c)) at) ∙ mul_left v c

  term-finite : (at : ℕ) (k : Exponent) (c : Complex) → is_none (first_not_finite (in_term at x k c)) ≡ finite (term_value x k c)
  unfolding is_none first_not_finite in_term term_value times
  term-finite at (whole zero) c =
      none-unless (finite (x ⊗ zero64)) (at + 1) (unless_finite (finite (x ⊗ zero64 ⊕ c.re)) (at + 3) none)
      ∙ ap (λ (t : Bool). finite (x ⊗ zero64) && t) (none-bad (finite (x ⊗ zero64 ⊕ c.re)) (at + 3))
      ∙ add_left (x ⊗ zero64) c.re
  term-finite at half c =
      none-unless (finite (root x)) at (first_not_finite (formed_unless (is_one c) (at + 2) (root x ⊗ c.re))) ∙ after-product (is_one c) (at + 2) (root x) c.re
  term-finite at (whole (suc zero)) c =
      ap (λ (t : Bool). t && is_none (first_not_finite (formed_unless (is_one c) (at + 1) (x ⊗ c.re)))) (sym (is_true (finite x) fx)) ∙ after-product (is_one c) (at + 1) x c.re
  term-finite at (whole (suc (suc n))) c =
      none-unless (finite (times (suc n) x x)) (at + 1) (first_not_finite (formed_unless (is_one c) (at + 3) (times (suc n) x x ⊗ c.re)))
      ∙ after-product (is_one c) (at + 3) (times (suc n) x x) c.re

  sum-finite : (at : ℕ) (r : Float) (ts : List Power) → finite r && is_none (first_not_finite (in_sum at x r ts)) ≡ finite (plus_terms x r ts)
  unfolding is_none first_not_finite in_sum plus_terms
  sum-finite at r [] = and-true (finite r)
  sum-finite at r (power k c ∷ ts) =
      let v = r ⊕ term_value x k c in
      let later = in_sum (at + cost_of k c + 1) x v ts in
      ap (λ (t : Bool). finite r && t) (none-append (in_term at x k c) (formed (at + cost_of k c) v ∷ later)
      ∙ ap₂ ◌&&◌ (term-finite at k c) (none-unless (finite v) (at + cost_of k c) (first_not_finite later)))
      ∙ add-both r (term_value x k c) (is_none (first_not_finite later))
      ∙ sum-finite (at + cost_of k c + 1) v ts

  all-finite : (ts : List Power) → is_none (first_not_finite (in_all x ts)) ≡ finite (value x ts)
  unfolding is_none first_not_finite in_all value
  all-finite [] = none-bad (finite (x ⊗ zero64)) 1
  all-finite (power k c ∷ ts) =
      let a = 2 * length ts - cond (is_x k c) 1 0 in
      none-append (in_term a x k c) (in_sum (a + cost_of k c) x (term_value x k c) ts)
      ∙ ap (λ (t : Bool). t && is_none (first_not_finite (in_sum (a + cost_of k c) x (term_value x k c) ts))) (term-finite a k c)
      ∙ sum-finite (a + cost_of k c) (term_value x k c) ts

  -- every value formed is finite where the value of the terms is
  pub value-finite : (ts : List Power) → (first_not_finite (in_all x ts) ≡ none) ↔ T (finite (value x ts))
  unfolding is_none
  value-finite ts = (λ e. T_of (sym (all-finite ts) ∙ ap is_none e), λ t. is-none (first_not_finite (in_all x ts)) (all-finite ts ∙ is_true (finite (value x ts)) t))
    where
      is-none : (o : Option ℕ) → is_none o ≡ true → o ≡ none
      is-none none e = refl
      is-none (some at) e = absurd (subst T (sym e) tt)
