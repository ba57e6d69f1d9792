-- Where 18 comes from in the derivative and the integral of a good sum: in the derivative only from the square inside a Div, and in the integral never, since
-- 1 more and 1 less than a finite power is finite. Assumes nothing.
use Prim.Native.Nat.{ℕ}
use native.Mathlib.Omega.{arith}
use mathlib.Core.Path.{◌≡◌, refl, ap, subst, ◌∙◌}
use mathlib.Core.Bool.{Bool, true, false, cond}
use lib.Dec.{T, eqb}
use lib.Ieee.{Float, binary64, fits, eq}
use lib.Ieee.Fits.{and_l, and_r}
use lib.Ieee.Scale.{finite}
use borrow.Author.Tests.{eqb-true}
use Rattle.numbers.specs.Constants.{euler}
use Rattle.numbers.specs.Ops.{◌⊕◌, ◌⊖◌}
use Rattle.numbers.specs.Signs.{zero64, one64}
use Rattle.numbers.proofs.Unity.{more-1-finite, less-1-finite}
use Rattle.numbers.specs.declared.complex.Complex.{Complex}
use Rattle.numbers.specs.Complex.Arith as complex
use Rattle.cells.specs.declared.Entry.{Entry}
use Rattle.limits.specs.declared.Refusal.{Refusal}
use Rattle.limits.specs.declared.Refusal.TheVariants.{TooComplex, NeedsMath, PowerNotFinite}
use Rattle.sums.specs.declared.tree.Merge.{Merge}
use Rattle.sums.specs.declared.tree.Merge.TheVariants.{Add, Take, Store}
use Rattle.sums.specs.Tree.Kinds as kinds
use Rattle.sums.specs.Tree.Sums.{Sum, none, and, size, entry}
use Rattle.sums.specs.Tree.Good.{is_number, GoodEntry, Good}
use Rattle.sums.specs.Tree.Same.{same_sum}
use Rattle.sums.specs.Tree.Map.{Outcome, sum, refused, Found, at, absent, and_then_sum, unless, formed, each_into, Has}
use Rattle.sums.proofs.tree.Keeps.{refused-is, not-refused, each-refusal}
use Rattle.sums.proofs.tree.Overflow.{other-refusal, overflowed}
use Rattle.arithmetic.specs.Singles.{is_x}
use Rattle.arithmetic.specs.Product.{product}
use Rattle.std.specs.Prelude.{Option, Some, None}
use Rattle.calculus.specs.Derivative.{slope, vanishes, prime, by_prime, first_coef, turned_to, by_ln, ln_of, derive_x, derive_div, derive_exp, derive_by, derive_log, derive_into, or_zero, derive}
use Rattle.calculus.specs.Integral.{x, stored, integrate_x, integrate_by, integrate_into, integrate}

abbrev Overflow : Outcome → Type 0
Overflow o = o ≡ refused PowerNotFinite

-- ---- what each way to go on can give

either : {G : Type 0} (b : Bool) (o o' : Outcome) → (b ≡ true → Overflow o → G) → (b ≡ false → Overflow o' → G) → Overflow (cond b o o') → G
either true o o' p q h = p refl h
either false o o' p q h = q refl h

-- an entry of another kind, or with a finite number
formed-quiet : (m : Merge) (e : Entry) (t s : Sum) → (e.kind ≡ kinds.X → T (finite e.num)) → Overflow (formed m e t s) → ⊥
formed-quiet m e t s k h = let o = overflowed m e t s h in subst T o.1 (k o.0)

unless-quiet : (b : Bool) (o : Outcome) → (Overflow o → ⊥) → Overflow (unless b TooComplex o) → ⊥
unless-quiet true o k h = k h
unless-quiet false o k h = other-refusal TooComplex (λ e. omega arith) h

prime-quiet : (f : Found) (g : Complex → Outcome) → ((d : Complex) → Overflow (g d) → ⊥) → Overflow (by_prime f g) → ⊥
prime-quiet (at d) g k h = k d h
prime-quiet absent g k h = other-refusal TooComplex (λ e. omega arith) h

ln-quiet : (l : Option Float) (g : Float → Outcome) → ((b : Float) → Overflow (g b) → ⊥) → Overflow (by_ln l g) → ⊥
ln-quiet (Some b) g k h = k b h
ln-quiet None g k h = other-refusal NeedsMath (λ e. omega arith) h

-- ---- one entry's derivative

module _ (e : Entry) (i s : Sum) where
  turned-quiet : (k : ℕ) (c : Complex) (w : Sum) (m : Merge) → (k ≡ kinds.X → ⊥) → Overflow (turned_to k c w m s) → ⊥
  turned-quiet k c w m n = formed-quiet m (entry k (size w) zero64 c) w s (λ f. absurd (n f))

  x-quiet : T (is_number e.num) → Overflow (derive_x e s) → ⊥
  x-quiet p =
      let lower = entry kinds.X 0 (e.num ⊖ one64) (slope e.num e.coef) in
      either (vanishes e.num e.coef) (sum s) (formed Add lower none s) (λ v. not-refused)
      (λ v. formed-quiet Add lower none s (λ f. less-1-finite e.num (and_l (finite e.num) (fits binary64 e.num) p) (and_r (finite e.num) (fits binary64 e.num) p)))

  div-square : Overflow (derive_div e i s) → Overflow (product i i)
  div-square = go (product i i)
    where
      go : (o : Outcome) → Overflow (and_then_sum o (λ w. turned_to kinds.Div e.coef w Add s)) → Overflow o
      go (sum w) h = absurd (turned-quiet kinds.Div e.coef w Add (λ f. omega arith) h)
      go (refused q) h = h

  log-quiet : Overflow (derive_log e i s) → ⊥
  log-quiet =
      prime-quiet (prime i) (λ d. by_ln (ln_of e.num) (λ l. turned_to kinds.Div (complex.over_real (complex.times e.coef d) l) i Add s))
      (λ d. ln-quiet (ln_of e.num) (λ l. turned_to kinds.Div (complex.over_real (complex.times e.coef d) l) i Add s)
      (λ l. turned-quiet kinds.Div (complex.over_real (complex.times e.coef d) l) i Add (λ f. omega arith)))

  exp-quiet : Overflow (derive_exp e i s) → ⊥
  exp-quiet =
      unless-quiet (is_x i) (turned_to kinds.Exp (complex.times e.coef (first_coef i)) i Add s) (turned-quiet kinds.Exp (complex.times e.coef (first_coef i)) i Add (λ f. omega arith))

  by-quiet : (k : ℕ) (m : Merge) → (k ≡ kinds.X → ⊥) → Overflow (derive_by k m e i s) → ⊥
  by-quiet k m n = prime-quiet (prime i) (λ d. turned_to k (complex.times e.coef d) i m s) (λ d. turned-quiet k (complex.times e.coef d) i m n)

  -- it can only be the square inside a Div
  into-overflow : {G : Type 0} → T (is_number e.num) → (e.kind ≡ kinds.Div → Overflow (product i i) → G) → Overflow (derive_into e i s) → G
  unfolding derive_into
  into-overflow p k =
      let hyperbolic = cond (eqb e.kind kinds.SinH) (derive_by kinds.CosH Add e i s) (derive_by kinds.SinH Add e i s) in
      let cosine = cond (eqb e.kind kinds.Cos) (derive_by kinds.Sin Take e i s) hyperbolic in
      let sine = cond (eqb e.kind kinds.Sin) (derive_by kinds.Cos Add e i s) cosine in
      let exponential = cond (eqb e.kind kinds.Exp) (derive_exp e i s) sine in
      let logarithm = cond (eqb e.kind kinds.Log) (derive_log e i s) exponential in
      let quotient = cond (eqb e.kind kinds.Div) (derive_div e i s) logarithm in
      either (eqb e.kind kinds.X) (derive_x e s) quotient (λ f h. absurd (x-quiet p h)) λ f.
      either (eqb e.kind kinds.Div) (derive_div e i s) logarithm (λ f h. k (eqb-true e.kind kinds.Div f) (div-square h)) λ f.
      either (eqb e.kind kinds.Log) (derive_log e i s) exponential (λ f h. absurd (log-quiet h)) λ f.
      either (eqb e.kind kinds.Exp) (derive_exp e i s) sine (λ f h. absurd (exp-quiet h)) λ f.
      either (eqb e.kind kinds.Sin) (derive_by kinds.Cos Add e i s) cosine (λ f h. absurd (by-quiet kinds.Cos Add (λ g. omega arith) h)) λ f.
      either (eqb e.kind kinds.Cos) (derive_by kinds.Sin Take e i s) hyperbolic (λ f h. absurd (by-quiet kinds.Sin Take (λ g. omega arith) h)) λ f.
      either (eqb e.kind kinds.SinH) (derive_by kinds.CosH Add e i s) (derive_by kinds.SinH Add e i s)
      (λ f h. absurd (by-quiet kinds.CosH Add (λ g. omega arith) h)) (λ f h. absurd (by-quiet kinds.SinH Add (λ g. omega arith) h))

-- ---- the whole derivative

-- an outermost Div of the sum, whose inside squared has the power that isn't finite
abbrev Square : Sum → Type 0
Square s = (p : Float) × (i : Sum) × (c : Complex) × Has kinds.Div p i c s × Overflow (product i i)

pub derive-overflow : (s : Sum) → Good 4 s → Overflow (derive s) → Square s
unfolding derive
derive-overflow s g h = go (each_into derive_into none s) refl h
  where
    step : (l : ℕ) (q : Float) (j : Sum) (d : Complex) (u : Sum) (r : Refusal) → Has l q j d s → GoodEntry l q j d → Good 3 j
        → derive_into (entry l (size j) q d) j u ≡ refused r → r ≡ PowerNotFinite → Square s
    step l q j d u r has ge gj e same =
        into-overflow (entry l (size j) q d) j u ge.number
        (λ k o. (q, j, d, subst (λ (n : ℕ). Has n q j d s) k has, o))
        (e ∙ ap refused same)

    filled : (u : Sum) → Overflow (or_zero u) → ⊥
    filled none h = not-refused h
    filled (and k p i c r) h = not-refused h

    go : (o : Outcome) → each_into derive_into none s ≡ o → Overflow (and_then_sum o or_zero) → Square s
    go (sum u) e h = absurd (filled u h)
    go (refused q) e h = each-refusal derive_into (λ r. r ≡ PowerNotFinite → Square s) 3 s step none q g e (refused-is h)

-- ---- the integral

module _ (e : Entry) (i s : Sum) where
  stored-quiet : (k : ℕ) (b : Float) (c : Complex) → (k ≡ kinds.X → ⊥) → Overflow (stored k b c s) → ⊥
  stored-quiet k b c n = formed-quiet Store (entry k 1 b c) x s (λ f. absurd (n f))

  power-quiet : T (is_number e.num) → Overflow (integrate_x e s) → ⊥
  power-quiet p =
      let higher = entry kinds.X 0 (e.num ⊕ one64) (complex.over_real e.coef (e.num ⊕ one64)) in
      either (eq (e.num ⊕ one64) zero64) (stored kinds.Log euler e.coef s) (formed Store higher none s) (λ f. stored-quiet kinds.Log euler e.coef (λ g. omega arith))
      (λ f. formed-quiet Store higher none s (λ g. more-1-finite e.num (and_l (finite e.num) (fits binary64 e.num) p) (and_r (finite e.num) (fits binary64 e.num) p)))

  function-quiet : (k : ℕ) (c : Complex) → (k ≡ kinds.X → ⊥) → Overflow (integrate_by k c i s) → ⊥
  function-quiet k c n = unless-quiet (same_sum i x) (stored k zero64 c s) (stored-quiet k zero64 c n)

  integral-quiet : T (is_number e.num) → Overflow (integrate_into e i s) → ⊥
  unfolding integrate_into
  integral-quiet p =
      let hyperbolic = cond (eqb e.kind kinds.CosH) (integrate_by kinds.SinH e.coef i s) (refused TooComplex) in
      let cosine = cond (eqb e.kind kinds.SinH) (integrate_by kinds.CosH e.coef i s) hyperbolic in
      let sine = cond (eqb e.kind kinds.Cos) (integrate_by kinds.Sin e.coef i s) cosine in
      let function = cond (eqb e.kind kinds.Sin) (integrate_by kinds.Cos (complex.negated e.coef) i s) sine in
      either (eqb e.kind kinds.X) (integrate_x e s) function (λ f. power-quiet p) λ f.
      either (eqb e.kind kinds.Sin) (integrate_by kinds.Cos (complex.negated e.coef) i s) sine (λ f. function-quiet kinds.Cos (complex.negated e.coef) (λ g. omega arith)) λ f.
      either (eqb e.kind kinds.Cos) (integrate_by kinds.Sin e.coef i s) cosine (λ f. function-quiet kinds.Sin e.coef (λ g. omega arith)) λ f.
      either (eqb e.kind kinds.SinH) (integrate_by kinds.CosH e.coef i s) hyperbolic (λ f. function-quiet kinds.CosH e.coef (λ g. omega arith)) λ f.
      either (eqb e.kind kinds.CosH) (integrate_by kinds.SinH e.coef i s) (refused TooComplex)
      (λ f. function-quiet kinds.SinH e.coef (λ g. omega arith)) (λ f. other-refusal TooComplex (λ g. omega arith))

pub integrate-quiet : (s : Sum) → Good 4 s → Overflow (integrate s) → ⊥
unfolding integrate
integrate-quiet s g h =
    each-refusal integrate_into (λ r. r ≡ PowerNotFinite → ⊥) 3 s
    (λ l q j d u r has ge gj e same. integral-quiet (entry l (size j) q d) j u ge.number (e ∙ ap refused same)) none PowerNotFinite g h refl
