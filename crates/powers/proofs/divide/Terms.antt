-- The quotient of two terms, as the code's branches have it, and 1 by a term. Assumes nothing.
use Prim.Native.Nat.{ℕ}
use mathlib.Core.Path.{◌≡◌, refl, ap, ◌∙◌}
use mathlib.Core.Bool.{Bool, true, false, ◌||◌, cond}
use lib.Dec.{eqb}
use lib.Ieee.{neg, eq, of_bits}
use borrow.Author.Tests.{ne_eqb}
use Rattle.numbers.specs.Ops.{◌⊖◌}
use Rattle.numbers.specs.Signs.{zero64, one64}
use Rattle.numbers.specs.Complex.Arith as complex
use Rattle.cells.specs.declared.Entry.{Entry}
use Rattle.limits.specs.declared.Refusal.TheVariants.{TooComplex}
use Rattle.sums.specs.declared.tree.Merge.TheVariants.{Add}
use Rattle.sums.specs.Tree.Kinds.{X, Div}
use Rattle.sums.specs.Tree.Sums.{Sum, none, size, entry}
use Rattle.sums.specs.Tree.Map.{unless, formed, each_into}
use Rattle.arithmetic.specs.Outcomes.{quotient_code, x_by_x, x_by_div, x_by_other}
use Rattle.arithmetic.specs.Singles.{is_one, constant}
use Rattle.arithmetic.specs.Product.{mulable}
use Rattle.arithmetic.specs.Quotient.{x_to, divable, all_divable, div_term}
use Rattle.arithmetic.proofs.Agree.{ratio, ratio_one, all_none, all_more, able-powers, able-div, able-other}
use Rattle.powers.specs.Divide.Contract.Dividing.{over_div, power_of}
use Rattle.powers.proofs.divide.Powers.{then_same}

module _ (x y : Entry) (v s : Sum) where
  pub by-div : quotient_code x.kind y.kind ≡ x_by_div → div_term y v x s ≡ over_div x (ratio x y) s v
  by-div e = rw e

  -- by neither Div nor another kind
  pub by-power : (code : ℕ) → quotient_code x.kind y.kind ≡ code → (code ≡ x_by_div → ⊥) → (code ≡ x_by_other → ⊥)
      → div_term y v x s ≡ formed Add (entry X 0 (power_of code x y) (ratio_one x y)) none s
  by-power code e d o = rw (e, ne_eqb code x_by_div d, ne_eqb code x_by_other o) (go (eqb code x_by_x))
    where
      go : (b : Bool) → cond b (formed Add (entry X 0 (cond (is_one x.kind x.num) (neg y.num) (x.num ⊖ y.num)) (ratio_one x y)) none s) (formed Add (entry X 0 one64 (ratio_one x y)) none s)
          ≡ formed Add (entry X 0 (cond b (cond (is_one x.kind x.num) (neg y.num) (x.num ⊖ y.num)) one64) (ratio_one x y)) none s
      go true = refl
      go false = refl

-- ---- 1 by a term

-- the term 1, as the code has it
abbrev pub one_term : Entry
one_term = entry X 0 zero64 complex.one

-- it is 1
one-is : is_one X zero64 ≡ true
unfolding eq of_bits
one-is = refl

module _ (y : Entry) (v : Sum) where
  -- it has a quotient by every term
  one-able : all_divable y v (constant complex.one) ≡ true
  one-able = all_more y v X zero64 none complex.one none (go (eqb y.kind X) (eqb y.kind Div) refl refl) ∙ all_none y v
    where
      go : (a d : Bool) → eqb y.kind X ≡ a → eqb y.kind Div ≡ d → divable (entry X (size none) zero64 complex.one) none y v ≡ true
      go true d e f = able-powers (entry X (size none) zero64 complex.one) none y v (rw e)
      go false true e f = able-div (entry X (size none) zero64 complex.one) none y v (rw (e, f)) ∙ ap (λ (b : Bool). b || mulable (x_to zero64) v) one-is
      go false false e f = able-other (entry X (size none) zero64 complex.one) none y v (rw (e, f)) ∙ one-is

  -- which is that of the one term, as a sum of its own
  pub one-by : unless (all_divable y v (constant complex.one)) TooComplex (each_into (λ x i u. div_term y v x u) none (constant complex.one)) ≡ div_term y v one_term none
  unfolding each_into size
  one-by = ap (λ (b : Bool). unless b TooComplex (each_into (λ x i u. div_term y v x u) none (constant complex.one))) one-able ∙ then_same (div_term y v one_term none)
