-- Products of one power of x by itself, one after the other. Assumes nothing.
use Prim.Native.Nat.{ℕ, zero, suc}
use native.Mathlib.Omega.{arith}
use mathlib.Core.Path.{◌≡◌, refl, sym, ap, ◌∙◌}
use mathlib.Core.Bool.{true, false}
use lib.Ieee.{Float}
use lib.Ieee.Scale.{finite}
use Rattle.limits.specs.declared.Refusal.TheVariants.{NotFinite, PowerNotFinite}
use Rattle.numbers.specs.Ops.{◌⊕◌}
use Rattle.numbers.specs.declared.complex.Complex.{Complex}
use Rattle.numbers.specs.Complex.Arith as complex
use Rattle.sums.specs.declared.tree.Merge.TheVariants.{Add}
use Rattle.sums.specs.Tree.Kinds.{X}
use Rattle.sums.specs.Tree.Sums.{Sum, none, size, levels, entry}
use Rattle.sums.specs.Tree.Map.{Outcome, sum, refused, and_then_sum, unless, coef_in, put_in, formed}
use Rattle.arithmetic.specs.Singles.{single}
use Rattle.arithmetic.specs.Product.{product}
use Rattle.arithmetic.specs.Power.{raised}
use Rattle.arithmetic.specs.Pairs.{row_pairs, pairs, raised_pairs}
use Rattle.arithmetic.proofs.Agree.{raised-none, raised-sum, raised-refused}
use Rattle.arithmetic.proofs.Pairs.{raised-pairs-none, raised-pairs-more}
use Rattle.arithmetic.proofs.Steps.{sum_is, then-sum, unless-sum}
use Rattle.arithmetic.proofs.multiply.Singles.{product-put}

-- a power of x put into nothing: 18 for its power, then 15 for its coefficient, which starts from +0
formed-alone : (p : Float) (c : Complex)
    → formed Add (entry X 0 p c) none none
    ≡ unless (finite p) PowerNotFinite (unless (complex.all_finite (complex.plus complex.zero c)) NotFinite (sum (single X p none (complex.plus complex.zero c))))
unfolding formed put_in coef_in levels size
formed-alone p c = refl

module _ (a : Float) (j : Sum) (d : Complex) where
  -- the base
  abbrev s : Sum
  s = single X a j d

  -- one more product
  once : (p : Float) (i : Sum) (c : Complex)
      → product (single X p i c) s ≡ unless (finite (p ⊕ a)) PowerNotFinite (unless (complex.all_finite (complex.plus complex.zero (complex.times c d))) NotFinite
      (sum (single X (p ⊕ a) none (complex.plus complex.zero (complex.times c d)))))
  once p i c = product-put p a i j c d ∙ formed-alone (p ⊕ a) (complex.times c d)

  module _ (l : ℕ) (p : Float) (i : Sum) (c : Complex) where
    -- it gives a power of x
    pub raise-on : finite (p ⊕ a) ≡ true → complex.all_finite (complex.plus complex.zero (complex.times c d)) ≡ true
        → raised (suc l) (single X p i c) s ≡ raised l (single X (p ⊕ a) none (complex.plus complex.zero (complex.times c d))) s
    raise-on e f = raised-sum l (single X p i c) s _ (once p i c ∙ rw (e, f) refl)

    -- its power isn't finite
    pub raise-18 : finite (p ⊕ a) ≡ false → raised (suc l) (single X p i c) s ≡ refused PowerNotFinite
    raise-18 e = raised-refused l (single X p i c) s PowerNotFinite (once p i c ∙ rw e refl)

    -- its coefficient isn't
    pub raise-15 : finite (p ⊕ a) ≡ true → complex.all_finite (complex.plus complex.zero (complex.times c d)) ≡ false → raised (suc l) (single X p i c) s ≡ refused NotFinite
    raise-15 e f = raised-refused l (single X p i c) s NotFinite (once p i c ∙ rw (e, f) refl)

  -- the last product
  pub raise-last : (p : Float) (i : Sum) (c : Complex) → raised 1 (single X p i c) s ≡ formed Add (entry X 0 (p ⊕ a) (complex.times c d)) none none
  unfolding raised
  raise-last p i c = ap (λ (o : Outcome). and_then_sum o (λ u. raised 0 u s)) (product-put p a i j c d) ∙ then-sum (formed Add (entry X 0 (p ⊕ a) (complex.times c d)) none none)
    where
      then-sum : (o : Outcome) → and_then_sum o (λ u. raised 0 u s) ≡ o
      then-sum (sum u) = raised-none u s
      then-sum (refused e) = refl

  -- one term with one
  one-pair : (p : Float) (i : Sum) (c : Complex) → pairs (single X p i c) s ≡ 1
  unfolding pairs row_pairs
  one-pair p i c = refl

  -- a product that is formed is one power of x
  once-sum : (p : Float) (i : Sum) (c : Complex) (u : Sum) → product (single X p i c) s ≡ sum u → u ≡ single X (p ⊕ a) none (complex.plus complex.zero (complex.times c d))
  once-sum p i c u h =
      let v = complex.plus complex.zero (complex.times c d) in
      let last = sum (single X (p ⊕ a) none v) in
      let fine = unless-sum (finite (p ⊕ a)) PowerNotFinite (unless (complex.all_finite v) NotFinite last) u (sym (once p i c) ∙ h) in
      sym (sum_is (unless-sum (complex.all_finite v) NotFinite last u fine.1).1)

  -- so as many pairs as products, where all are formed
  pub raise-pairs : (n : ℕ) (p : Float) (i : Sum) (c : Complex) (u : Sum) → raised n (single X p i c) s ≡ sum u → raised_pairs n (single X p i c) s ≡ n
  unfolding raised
  raise-pairs zero p i c u h = raised-pairs-none (single X p i c) s
  raise-pairs (suc n) p i c u h =
      let w = then-sum (product (single X p i c) s) (λ v. raised n v s) u h in
      let is = once-sum p i c w.0 w.1 in
      let rest = raise-pairs n (p ⊕ a) none (complex.plus complex.zero (complex.times c d)) u (ap (λ (v : Sum). raised n v s) (sym is) ∙ w.2) in
      omega (arith, raised-pairs-more n (single X p i c) s w.0 w.1, ap (λ (v : Sum). raised_pairs n v s) is, rest, one-pair p i c)
