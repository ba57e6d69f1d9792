-- A divisor that lies in a book: of one term, or of several. Assumes nothing.
use Prim.Native.Nat.{ℕ, ◌+◌, ◌≤◌}
use native.Mathlib.Omega.{arith}
use mathlib.Core.Path.{◌≡◌, refl, sym, ap, subst, ◌∙◌}
use mathlib.Core.Bool.{Bool, true, false}
use lib.Ieee.{eq, of_bits}
use borrow.Author.Tests.{ne_eqb}
use Rattle.numbers.specs.Signs.{zero64}
use Rattle.numbers.specs.declared.complex.Complex.{Complex}
use Rattle.numbers.specs.Complex.Arith as complex
use Rattle.cells.specs.declared.Entry.{Entry}
use Rattle.cells.specs.Contract.Book.{Book, at}
use Rattle.limits.specs.declared.Refusal.TheVariants.{TooComplex}
use Rattle.sums.specs.Tree.Kinds.{Div}
use Rattle.sums.specs.Tree.Sums.{Sum, none, and, size, entry}
use Rattle.sums.specs.Tree.Map as map
use Rattle.sums.specs.Tree.Map.{unless, each_into}
use Rattle.arithmetic.specs.Singles.{single, alone, constant, as_constant}
use Rattle.arithmetic.specs.Quotient.{all_divable, div_term, div_by_several, quotient}
use Rattle.arithmetic.specs.Power.{reciprocal}
use Rattle.arithmetic.proofs.Agree.{empty-size, quotient-one, quotient-several}
use Rattle.sums.specs.Contract.Lies.{Lies}
use Rattle.sums.proofs.order.Walk.{next, lies-none}
use Rattle.std.specs.Prelude.{Some, None}
use Rattle.arithmetic.specs.Add.Contract.Operands.{constant_of, Source}
use Rattle.arithmetic.proofs.add.Lying.{apart-part}
use Rattle.powers.specs.Divide.Contract.Dividing.{Divisor, By}
use Rattle.powers.proofs.divide.Terms.{one_term, one-by}

-- ---- what the code reads off a constant

pub constant-is : (f : map.Found) {c : Complex} → constant_of f ≡ Some c → f ≡ map.at c
constant-is (map.at d) e = cc
constant-is map.absent e = cc

pub constant-other : (f : map.Found) → constant_of f ≡ None → f ≡ map.absent
constant-other (map.at d) e = cc
constant-other map.absent e = cc

-- ---- a divisor of one term and one of several

-- the sum t is the one term y, whose inside v lies right behind j
pub record One (b : Book) (j : ℕ) (y : Entry) (t : Sum) : Type 0 where
  pub v : Sum
  pub divisor : Divisor b y (j + 1) v
  pub quotient_is : (s : Sum) → quotient s t ≡ unless (all_divable y v s) TooComplex (each_into (λ x i u. div_term y v x u) none s)

module _ {b : Book} {j : ℕ} {y : Entry} {t : Sum} (o : One b j y t) (s : Sum) (r : Bool) (asked : r ≡ all_divable y o.v s) where
  -- not every term of s has a quotient by it
  pub one-not : r ≡ false → quotient s t ≡ map.refused TooComplex
  one-not e = o.quotient_is s ∙ ap (λ (a : Bool). unless a TooComplex (each_into (λ x i u. div_term y o.v x u) none s)) (sym asked ∙ e)

  -- every term has
  pub one_each : r ≡ true → quotient s t ≡ each_into (λ x i u. div_term y o.v x u) none s
  one_each e = o.quotient_is s ∙ ap (λ (a : Bool). unless a TooComplex (each_into (λ x i u. div_term y o.v x u) none s)) (sym asked ∙ e)

-- the constant 1 by several
one-by-several : (t : Sum) → div_by_several (constant complex.one) t (as_constant (constant complex.one)) ≡ alone Div zero64 t complex.one
unfolding as_constant eq of_bits
one-by-several t = refl

-- the sum t, of m cells from j on, whose first entry is y

module _ {b : Book} {j m : ℕ} {t : Sum} (y : Entry) (is : y ≡ at b j) (l : Lies b j (j + m) 4 t) (some : 1 ≤ m) where
  -- more cells than y has make several terms
  pub several : (s : Sum) → (1 + y.inside ≡ m → ⊥) → quotient s t ≡ div_by_several s t (as_constant s)
  several s h =
      let n = next b j (j + m) 4 t y is l (omega arith) in
      let ends = n.lies-rest.ends in
      rw n.is (quotient-several s _ _ _ _ _ (empty-size n.rest ∙ ne_eqb (size n.rest) 0 (λ e. h (omega arith))))

  -- no more make one
  pub one-term : m ≤ 64 → 1 + y.inside ≡ m → One b j y t
  one-term few h =
      let n = next b j (j + m) 4 t y is l (omega arith) in
      let last : n.rest ≡ none = lies-none b (j + 1 + y.inside) (j + m) 4 n.rest n.lies-rest (omega arith) in
      let whole : t ≡ single y.kind y.num n.inner y.coef = n.is ∙ ap (and y.kind y.num n.inner y.coef) last in
      record {
        v = n.inner;
        divisor = record { good = n.first.entry-good; lies = n.lies-inner; few = omega arith };
        quotient_is = λ s. ap (quotient s) whole
            ∙ subst (λ (k : ℕ). quotient s (single y.kind y.num n.inner y.coef) ≡ unless (all_divable (entry y.kind k y.num y.coef) n.inner s) TooComplex
            (each_into (λ x i u. div_term (entry y.kind k y.num y.coef) n.inner x u) none s)) (sym n.inside) (quotient-one s _ _ _ _);
      }

  -- 1 by several terms is Div of them
  pub reciprocal-several : (1 + y.inside ≡ m → ⊥) → reciprocal t ≡ alone Div zero64 t complex.one
  reciprocal-several h = several (constant complex.one) h ∙ one-by-several t

-- 1 by one term
pub reciprocal_one : {b : Book} {j : ℕ} {y : Entry} {t : Sum} (o : One b j y t) → reciprocal t ≡ div_term y o.v one_term none
reciprocal_one {y = y} o = o.quotient_is (constant complex.one) ∙ one-by y o.v

-- the one term's inside is apart from what the sum is apart from
pub one-by-itself : {b : Book} {j m w : ℕ} {y : Entry} {t : Sum} → 1 + y.inside ≡ m → Source b j m w → One b j y t → By b y (j + 1) w
one-by-itself h s o = record { held = (o.v, o.divisor); apart = apart-part (omega arith) (omega arith) s.apart }
