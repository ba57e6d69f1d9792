-- What refuses a run: 14 at Sqrt where a root is asked of a number below zero, else 15 at the first value that isn't finite. Assumes nothing.
use Prim.Native.Nat.{ℕ, zero, suc, ◌+◌, ◌-◌, ◌*◌, ◌≤◌}
use mathlib.Core.Path.{◌≡◌, refl, sym, ap, ap₂, ◌∙◌, subst}
use mathlib.Core.Bool.{Bool, true, false, ◌&&◌, cond, true≢false}
use mathlib.Core.List.{List, [], ◌∷◌, ◌++◌}
use mathlib.Core.Logic.{⊎_elim}
use mathlib.Core.Option.{Option, none, some}
use native.Mathlib.Omega.{arith}
use lib.Dec.{T}
use lib.ListN.{length}
use lib.Ieee.{Float, binary64, fits, lt}
use lib.Ieee.Bits.{is_true}
use lib.Ieee.Fits.{and_l, and_r}
use lib.Ieee.Scale.{finite}
use Rattle.numbers.specs.Signs.{zero64}
use Rattle.numbers.specs.Ops.{◌⊕◌, ◌⊗◌}
use Rattle.numbers.proofs.Bools.{and-true}
use Rattle.numbers.proofs.Values.{bits-0}
use Rattle.numbers.proofs.Zeros.{zero_of, zero-finite, zero_or_not, mul-zero-right, add-zeros, zero-plus}
use Rattle.numbers.specs.declared.complex.Complex.{Complex}
use Rattle.limits.specs.declared.Refusal.TheVariants.{NeedsMath}
use Rattle.sums.specs.Tree.Sums.{Sum, size as entries, entry}
use Rattle.sums.specs.Tree.Kinds as kinds
use Rattle.sums.specs.Tree.Good.{is_number, Good}
use Rattle.sums.proofs.order.Walk.{good-and}
use Rattle.writing.specs.Count.{cost}
use Rattle.values.specs.Value.{Exponent, whole, half, Power, power, term_value}
use Rattle.theorems.specs.Terms.{Rising}
use Rattle.theorems.specs.Records.{cost_of, is_x}
use Rattle.theorems.specs.Places.{Formed, formed, in_term, in_sum, in_all, unless_finite, first_not_finite}
use Rattle.theorems.specs.Roots.{any_root, lacks_root, place_of_sqrt}
use Rattle.theorems.proofs.Speed.Listed.{Listed, nothing, zero_term, term}
use Rattle.theorems.proofs.Speed.Steps.{stop_at, or, fifteen, bad}
use Rattle.theorems.proofs.Speed.Terms.{stop_term, or-fifteen}
use Rattle.theorems.proofs.Speed.Building.{stop_sum}
use Rattle.theorems.proofs.Speed.Whole.{stop_all}

-- ---- 15

first-append : (fs gs : List Formed) → or (fifteen (first_not_finite fs)) (fifteen (first_not_finite gs)) ≡ fifteen (first_not_finite (fs ++ gs))
unfolding first_not_finite
first-append [] gs = refl
first-append (formed at v ∷ fs) gs = go (finite v) (first_not_finite fs) (first_not_finite gs) (first_not_finite (fs ++ gs)) (first-append fs gs)
  where
    go : (b : Bool) (o p q : Option ℕ) → or (fifteen o) (fifteen p) ≡ fifteen q → or (fifteen (unless_finite b at o)) (fifteen p) ≡ fifteen (unless_finite b at q)
    go true o p q e = e
    go false o p q e = refl

module _ (x : Float) where
  -- x isn't below zero, or the first term isn't a root; and so for the others
  term-15 : (at : ℕ) (k : Exponent) (c : Complex) (ts : List Power) → lacks_root x (power k c ∷ ts) ≡ false
      → (stop_term at x k c ≡ fifteen (first_not_finite (in_term at x k c))) × (lacks_root x ts ≡ false)
  unfolding any_root
  term-15 at (whole k) c ts l = (refl, l)
  term-15 at half c ts l = let e = sym (and-true (lt x zero64)) ∙ l in (rw e, rw e)

  sum-15 : (at : ℕ) (r : Float) (ts : List Power) → lacks_root x ts ≡ false → stop_sum at x r ts ≡ fifteen (first_not_finite (in_sum at x r ts))
  unfolding stop_sum in_sum first_not_finite
  sum-15 at r [] l = refl
  sum-15 at r (power k c ∷ ts) l =
      let v = r ⊕ term_value x k c in
      let later = in_sum (at + cost_of k c + 1) x v ts in
      let h = term-15 at k c ts l in
      ap₂ or h.0 (ap (or (bad v (at + cost_of k c))) (sum-15 (at + cost_of k c + 1) v ts h.1) ∙ or-fifteen (finite v) (at + cost_of k c) (first_not_finite later))
      ∙ first-append (in_term at x k c) (formed (at + cost_of k c) v ∷ later)

  pub stops-15 : (ts : List Power) → lacks_root x ts ≡ false → stop_all x ts ≡ fifteen (first_not_finite (in_all x ts))
  unfolding stop_all in_all first_not_finite
  stops-15 [] l = refl
  stops-15 (power k c ∷ ts) l =
      let at = 2 * length ts - cond (is_x k c) 1 0 in
      let h = term-15 at k c ts l in
      ap₂ or h.0 (sum-15 (at + cost_of k c) (term_value x k c) ts h.1) ∙ first-append (in_term at x k c) (in_sum (at + cost_of k c) x (term_value x k c) ts)

-- ---- 14

-- from 1 on there is no root among rising powers
no-root-after : (lo : ℕ) (ts : List Power) → 2 ≤ lo → Rising lo ts → any_root ts ≡ false
unfolding any_root
no-root-after lo [] h up = refl
no-root-after lo (power (whole k) c ∷ ts) h up = no-root-after (suc (2 * k)) ts (omega (arith, up.0)) up.1
no-root-after lo (power half c ∷ ts) h up = absurd (omega (arith, up.0))

-- the first coefficient is a number
abbrev FirstNumber : List Power → Type 0
FirstNumber [] = Unit {0}
FirstNumber (power k c ∷ ts) = T (is_number c.re)

pub first-number : (left : ℕ) {s : Sum} {ts : List Power} → Good left s → Listed s ts → FirstNumber ts
first-number left g nothing = tt
first-number left g (zero_term {k = l} {p} {j} {c} {r} z t) = first-number left (good-and left (entry l (entries j) p c) j r g).rest t
first-number left g (term {p} {k} {j} {c} {r} z re w t) = (good-and left (entry kinds.X (entries j) p c) j r g).entry-good.re

module _ (x : Float) (fx : T (finite x)) where
  -- x times 0 plus c is finite
  constant-goes : (at : ℕ) (c : Complex) → T (is_number c.re) → stop_term at x (whole 0) c ≡ none
  unfolding in_term first_not_finite
  constant-goes at c n =
      let z = mul-zero-right binary64 x zero64 fx (zero_of zero64 false bits-0) in
      let plus : T (finite (x ⊗ zero64 ⊕ c.re)) = ⊎_elim
      (λ y. zero-finite (x ⊗ zero64 ⊕ c.re) (add-zeros binary64 (x ⊗ zero64) c.re z y))
      (λ y. subst (λ (v : Float). T (finite v)) (sym (zero-plus binary64 (x ⊗ zero64) c.re z (and_r (finite c.re) (fits binary64 c.re) n) (λ i. absurd (y i))))
      (and_l (finite c.re) (fits binary64 c.re) n))
      (zero_or_not c.re) in
      rw (is_true (finite (x ⊗ zero64)) (zero-finite (x ⊗ zero64) z), is_true (finite (x ⊗ zero64 ⊕ c.re)) plus)

  below : (ts : List Power) → FirstNumber ts → Rising 0 ts → lt x zero64 ≡ true → any_root ts ≡ true → stop_all x ts ≡ some (stop_at NeedsMath (place_of_sqrt ts))
  unfolding stop_all stop_sum any_root cost
  below [] n up l a = absurd (true≢false (sym a))
  below (power half c ∷ ts) n up l a = rw l (ap (λ (m : ℕ). some (stop_at NeedsMath m)) (omega arith))
  below (power (whole zero) c ∷ []) n up l a = absurd (true≢false (sym a))
  below (power (whole zero) c ∷ power half d ∷ ts) n up l a = rw (constant-goes (2 * suc (length ts) - 0) c n, l) (ap (λ (m : ℕ). some (stop_at NeedsMath m)) (omega arith))
  below (power (whole zero) c ∷ power (whole zero) d ∷ ts) n up l a = absurd (omega (arith, up.1.0))
  below (power (whole zero) c ∷ power (whole (suc k)) d ∷ ts) n up l a =
      absurd (true≢false (sym a ∙ no-root-after (suc (2 * suc k)) ts (omega arith) up.1.1))
  below (power (whole (suc k)) c ∷ ts) n up l a = absurd (true≢false (sym a ∙ no-root-after (suc (2 * suc k)) ts (omega arith) up.1))

  pub stops-14 : (ts : List Power) → FirstNumber ts → Rising 0 ts → lacks_root x ts ≡ true → stop_all x ts ≡ some (stop_at NeedsMath (place_of_sqrt ts))
  stops-14 ts n up e = let b = both (lt x zero64) (any_root ts) e in below ts n up b.0 b.1
    where
      both : (a b : Bool) → (a && b) ≡ true → (a ≡ true) × (b ≡ true)
      both true true e = (refl, refl)
      both true false e = absurd (true≢false (sym e))
      both false b e = absurd (true≢false (sym e))
