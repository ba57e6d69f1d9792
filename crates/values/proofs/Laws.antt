-- Products of x from the left, and the terms met so far. Assumes nothing.
use Prim.Native.Nat.{ℕ, zero, suc, ◌+◌, ◌-◌, ◌≤◌}
use mathlib.Core.Path.{◌≡◌, refl, sym, ap, ◌∙◌}
use mathlib.Core.Bool.{Bool, true, false, ◌&&◌}
use mathlib.Core.List.{List, [], ◌∷◌}
use native.Mathlib.Omega.{arith}
use lib.Dec.{eqb}
use lib.Ieee.{Float}
use lib.Ieee.Scale.{finite}
use Rattle.std.specs.Prelude.{Some, None}
use Rattle.numbers.proofs.Bools.{and-true, and-false}
use Rattle.numbers.specs.Numbers.{small_whole}
use Rattle.numbers.specs.Complex.Arith as complex
use Rattle.cells.specs.declared.Entry.{Entry}
use Rattle.sums.specs.Tree.Kinds as kinds
use Rattle.sums.specs.Tree.Sums.{Sum}
use Rattle.numbers.specs.Ops.{◌⊗◌}
use Rattle.numbers.specs.declared.complex.Complex.{Complex}
use Rattle.running.specs.Primitives.{times}
use Rattle.values.specs.declared.Found.{Found}
use Rattle.values.specs.Value.{Exponent, whole, Power, power, is_one, times_unless, term_value, plus_terms, value}
use Rattle.values.specs.ValueOf.{is_zero, value_of}
use Rattle.values.specs.Contract.Findings.{plus, onward, judged, Reached, Adds, Takes, Finds}

-- n products and then m more
times-on : (n m : ℕ) (x p : Float) → times m x (times n x p) ≡ times (n + m) x p
unfolding times
times-on zero m x p = let e : m ≡ 0 + m = omega arith in ap (λ (j : ℕ). times j x p) e
times-on (suc n) m x p = let e : suc (n + m) ≡ suc n + m = omega arith in times-on n m x (p ⊗ x) ∙ ap (λ (j : ℕ). times j x p) e

-- from the exponent k on to n
pub times-from : (k n : ℕ) (x p : Float) → 1 ≤ k → k ≤ n → p ≡ times (k - 1) x x → times (n - k) x p ≡ times (n - 1) x x
times-from k n x p low high e =
    let m : k - 1 + (n - k) ≡ n - 1 = omega arith in
    ap (times (n - k) x) e ∙ times-on (k - 1) (n - k) x x ∙ ap (λ (j : ℕ). times j x x) m

-- a power above 0, times its coefficient
pub value-of-power : (x : Float) (n : ℕ) (c : Complex) {p : Float} → 1 ≤ n → p ≡ times (n - 1) x x → times_unless (is_one c) p c.re ≡ term_value x (whole n) c
unfolding term_value
value-of-power x zero c low e = absurd (omega arith)
value-of-power x (suc n) c low e = let i : suc n - 1 ≡ n = omega arith in ap (λ (v : Float). times_unless (is_one c) v c.re) (e ∙ ap (λ (j : ℕ). times j x x) i)

-- a term more
pub onward-term : (x : Float) (any : Bool) (r : Float) (k : Exponent) (c : Complex) (ts : List Power)
    → onward x any r (power k c ∷ ts) ≡ plus_terms x (plus any r (term_value x k c)) ts
unfolding plus_terms value
onward-term x true r k c ts = refl
onward-term x false r k c ts = refl

-- ---- an entry that was met

module _ (x : Float) (f : Found) (e : Entry) where
  -- a zero term is passed over
  pub takes-zero : is_zero e.coef ≡ true → Reached x f → Takes x f e f
  takes-zero z r = record { powers = rw z (sym (and-true f.whole)); reals = rw z (sym (and-true f.real)); sums = λ ts. rw z refl; reached = r }

  -- one that isn't a whole power adds nothing
  pub takes-other : (r : Bool) → is_zero e.coef ≡ false → small_whole e.num ≡ None → r ≡ complex.is_real e.coef → Reached x f
      → Takes x f e record { whole = false; real = f.real && r; any = f.any; sum = f.sum; exponent = f.exponent; power = f.power }
  takes-other r z o i h = record {
    powers = rw (z, o) (sym (and-false f.whole));
    reals = rw (z, i) refl;
    sums = λ ts. rw (z, o) refl;
    reached = record { low = h.low; formed = h.formed };
  }

  -- one that is adds its value
  pub takes-power : (r : Bool) (n : ℕ) (g : Found) → is_zero e.coef ≡ false → small_whole e.num ≡ Some n → r ≡ complex.is_real e.coef
      → Adds x record { whole = f.whole && eqb e.kind kinds.X; real = f.real && r; any = f.any; sum = f.sum; exponent = f.exponent; power = f.power } n e.coef g
      → Takes x f e g
  takes-power r n g z w i a = record {
    powers = a.tests.0 ∙ rw (z, w) refl;
    reals = a.tests.1 ∙ rw (z, i) refl;
    sums = λ ts. rw (z, w, a.any, a.sum) (onward-term x f.any f.sum (whole n) e.coef ts);
    reached = a.reached;
  }

-- ---- every entry was met

-- what was found is judged as the definition has it
pub judged-all : (x : Float) (s : Sum) (f : Found) → finite x ≡ true → Finds x s f → judged f.whole f.real (onward x f.any f.sum []) ≡ value_of s x
unfolding value_of
judged-all x s f e h = rw (e, h.powers, h.reals, h.sums) refl
