-- The derivative of one entry, as the code's branches have it, and of the whole sum. Assumes nothing.
use Prim.Native.Nat.{ℕ, ◌+◌, ◌≤◌}
use native.Mathlib.Omega.{arith}
use mathlib.Core.Path.{◌≡◌, refl, sym, ap, ◌∙◌}
use mathlib.Core.Bool.{Bool, true, false, cond}
use lib.Dec.{eqb}
use lib.Ieee.{Float}
use borrow.Author.Tests.{ne_eqb, eqb-true}
use Rattle.numbers.specs.Ops.{◌⊖◌}
use Rattle.numbers.specs.Signs.{zero64, one64}
use Rattle.numbers.specs.declared.complex.Complex.{Complex}
use Rattle.numbers.specs.Complex.Arith as complex
use Rattle.cells.specs.declared.Entry.{Entry}
use Rattle.cells.specs.Contract.Book.{Book, at}
use Rattle.limits.specs.declared.Refusal.{Refusal}
use Rattle.limits.specs.declared.Refusal.TheVariants.{TooComplex, NeedsMath}
use Rattle.sums.specs.declared.tree.Merge.{Merge}
use Rattle.sums.specs.declared.tree.Merge.TheVariants.{Add, Take}
use Rattle.sums.specs.Tree.Kinds as kinds
use Rattle.sums.specs.Tree.Sums.{Sum, none, and, size, entry}
use Rattle.sums.specs.Tree.Good.{is_empty}
use Rattle.sums.specs.Tree.Map.{Outcome, sum, refused, and_then_sum, unless, formed, each_into}
use Rattle.arithmetic.specs.Singles.{GoodSum, alone, is_x}
use Rattle.arithmetic.specs.Product.{product}
use Rattle.arithmetic.proofs.Steps.{differ}
use Rattle.arithmetic.proofs.Agree.{empty-size}
use Rattle.arithmetic.proofs.Goodness.{good-product}
use Rattle.std.specs.Prelude.{Option, Some, None, Result, Ok, Err}
use Rattle.calculus.specs.Derivative.{slope, vanishes, prime, by_prime, by_ln, ln_of, first_coef, turned_to, derive_x, derive_div, derive_log, derive_exp, derive_by, derive_into, or_zero, derive}
use Rattle.sums.specs.Contract.Lies.{Lies, Agrees}
use Rattle.sums.proofs.order.Walk.{next, empty}
use Rattle.arithmetic.specs.Add.Contract.Operands.{constant_of}
use Rattle.arithmetic.proofs.add.Lying.{agreed-done, agreed-refused, agree-done, agree-refused}
use Rattle.powers.proofs.divide.Divisors.{constant-is, constant-other}
use Rattle.powers.proofs.raise.Whole.{zero_is}
use Rattle.calculus.specs.Contract.Into.{derive_wave}

-- ---- powers of x

module _ (e : Entry) (s : Sum) {v : Bool} (is : v ≡ vanishes e.num e.coef) where
  pub x-skipped : v ≡ true → derive_x e s ≡ sum s
  x-skipped h = ap (λ (b : Bool). cond b (sum s) (formed Add (entry kinds.X 0 (e.num ⊖ one64) (slope e.num e.coef)) none s)) (sym is ∙ h)

  pub x-put : {c : Complex} → v ≡ false → c ≡ slope e.num e.coef → formed Add (entry kinds.X 0 (e.num ⊖ one64) c) none s ≡ derive_x e s
  x-put h ec =
      ap (λ (d : Complex). formed Add (entry kinds.X 0 (e.num ⊖ one64) d) none s) ec
      ∙ sym (ap (λ (b : Bool). cond b (sum s) (formed Add (entry kinds.X 0 (e.num ⊖ one64) (slope e.num e.coef)) none s)) (sym is ∙ h))

-- ---- functions of a sum

-- the term that is put in, as the code has it
pub turned_as : {k k' n : ℕ} {m m' : Merge} {c c' : Complex} (t s : Sum) → k ≡ k' → m ≡ m' → c ≡ c' → n ≡ size t → formed m (entry k n zero64 c) t s ≡ turned_to k' c' t m' s
turned_as t s ek em ec en = rw (ek, em, ec, en)

-- the argument's derivative is no constant, or is one
module _ (t : Sum) (f : Complex → Outcome) {o : Option Complex} (is : o ≡ constant_of (prime t)) where
  pub prime-not : o ≡ None → by_prime (prime t) f ≡ refused TooComplex
  prime-not h = ap (λ p. by_prime p f) (constant-other (prime t) (sym is ∙ h))

  pub prime-is : {d : Complex} → o ≡ Some d → by_prime (prime t) f ≡ f d
  prime-is h = ap (λ p. by_prime p f) (constant-is (prime t) (sym is ∙ h))

-- the base's logarithm is not known, or is
module _ (p : Float) (f : Float → Outcome) {o : Option Float} (is : o ≡ ln_of p) where
  pub ln-not : o ≡ None → by_ln (ln_of p) f ≡ refused NeedsMath
  ln-not h = ap (λ l. by_ln l f) (sym is ∙ h)

  pub ln-is : {x : Float} → o ≡ Some x → by_ln (ln_of p) f ≡ f x
  ln-is h = ap (λ l. by_ln l f) (sym is ∙ h)

-- the argument is x, or is not
module _ (e : Entry) (t s : Sum) {v : Bool} (is : v ≡ is_x t) where
  pub exp-not : v ≡ false → derive_exp e t s ≡ refused TooComplex
  exp-not h = ap (λ (b : Bool). unless b TooComplex (turned_to kinds.Exp (complex.times e.coef (first_coef t)) t Add s)) (sym is ∙ h)

  pub exp-is : v ≡ true → derive_exp e t s ≡ turned_to kinds.Exp (complex.times e.coef (first_coef t)) t Add s
  exp-is h = ap (λ (b : Bool). unless b TooComplex (turned_to kinds.Exp (complex.times e.coef (first_coef t)) t Add s)) (sym is ∙ h)

-- the argument's first coefficient, as it was read
pub first-coef : {b : Book} {i n : ℕ} {t : Sum} (y : Entry) → y ≡ at b i → 1 ≤ n → Lies b i (i + n) 4 t → y.coef ≡ first_coef t
first-coef {b} {i} {n} {t} y ey some l = sym (ap first_coef (next b i (i + n) 4 t y ey l (omega arith)).is)

-- the square of something is something
pub square-some : {t u : Sum} {b : Book} {i n : ℕ} → Lies b i (i + n) 4 t → 1 ≤ n → n ≤ 64 → product t t ≡ sum u → 1 ≤ size u
unfolding size
square-some {t} {u} l some few h =
    let ends = l.ends in
    let good : GoodSum t = record { good = l.good; room = omega arith; some = empty-size t ∙ ne_eqb (size t) 0 (λ z. omega arith) } in
    go u (good-product good good h).some
  where
    go : (s : Sum) → is_empty s ≡ false → 1 ≤ size s
    go none z = differ z
    go (and k p i c r) z = omega arith

-- ---- an entry by its kind

module _ (e : Entry) (t s : Sum) where
  pub derive-div-is : e.kind ≡ kinds.Div → derive_div e t s ≡ derive_into e t s
  unfolding derive_into
  derive-div-is h = rw h

  pub derive-log-is : e.kind ≡ kinds.Log → derive_log e t s ≡ derive_into e t s
  unfolding derive_into
  derive-log-is h = rw h

  pub derive-exp-is : e.kind ≡ kinds.Exp → derive_exp e t s ≡ derive_into e t s
  unfolding derive_into
  derive-exp-is h = rw h

  -- sin, cos, sinh or cosh: no kind is both sin and cos
  pub derive-wave-is : kinds.Log ≤ e.kind → (e.kind ≡ kinds.Log → ⊥) → (e.kind ≡ kinds.Exp → ⊥) → derive_wave e t s ≡ derive_into e t s
  unfolding derive_into
  derive-wave-is lo l x =
      rw (ne_eqb e.kind kinds.X (λ z. omega arith), ne_eqb e.kind kinds.Div (λ z. omega arith), ne_eqb e.kind kinds.Log l, ne_eqb e.kind kinds.Exp x)
      (go (eqb e.kind kinds.Sin) (eqb e.kind kinds.Cos) (eqb e.kind kinds.SinH) refl refl)
    where
      go : (a b c : Bool) → eqb e.kind kinds.Sin ≡ a → eqb e.kind kinds.Cos ≡ b
          → derive_by (cond a kinds.Cos (cond b kinds.Sin (cond c kinds.CosH kinds.SinH))) (cond b Take Add) e t s
          ≡ cond a (derive_by kinds.Cos Add e t s) (cond b (derive_by kinds.Sin Take e t s) (cond c (derive_by kinds.CosH Add e t s) (derive_by kinds.SinH Add e t s)))
      go true true c p q = absurd (omega (arith, eqb-true e.kind kinds.Sin p, eqb-true e.kind kinds.Cos q))
      go true false c p q = refl
      go false true c p q = refl
      go false false true p q = refl
      go false false false p q = refl

-- ---- the whole sum

or_some : (s : Sum) → (size s ≡ 0 → ⊥) → or_zero s ≡ sum s
unfolding size
or_some none h = absurd (h refl)
or_some (and k p i c r) h = refl

-- each entry was derived
module _ (b : Book) (w : ℕ) (o : Result ℕ Refusal) (t : Sum) (a : Agrees o b w (each_into derive_into none t)) where
  pub derive-refused : {q : Refusal} → o ≡ Err q → Agrees (Err q) b w (derive t)
  unfolding derive
  derive-refused {q} h = agree-refused b w q (derive t) (ap (λ (u : Outcome). and_then_sum u or_zero) (agreed-refused b w q o (each_into derive_into none t) a h))

  module _ {k : ℕ} (h : o ≡ Ok k) where
    -- nothing becomes constant 0
    pub derive-nothing : k ≡ 0 → alone kinds.X zero64 none complex.zero ≡ derive t
    unfolding derive
    derive-nothing z =
        let d = agreed-done b w k o (each_into derive_into none t) a h in
        sym (ap (λ (u : Outcome). and_then_sum u or_zero) (d.is ∙ ap sum (empty d.s (d.sized ∙ z))) ∙ sym zero_is)

    pub derive-done : (k ≡ 0 → ⊥) → Agrees (Ok k) b w (derive t)
    unfolding derive
    derive-done z =
        let d = agreed-done b w k o (each_into derive_into none t) a h in
        agree-done b w k (derive t) d.s (ap (λ (u : Outcome). and_then_sum u or_zero) d.is ∙ or_some d.s (λ y. z (sym d.sized ∙ y))) d.few d.lies
