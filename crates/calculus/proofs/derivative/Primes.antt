-- The constant that the derivative of a function's argument has to be. Assumes nothing.
use Prim.Native.Nat.{ℕ, ◌+◌, ◌≤◌, ◌<◌}
use native.Mathlib.Omega.{arith}
use mathlib.Core.Path.{◌≡◌, refl, sym, ap, subst, ◌∙◌}
use mathlib.Core.Bool.{Bool, true, false, cond}
use lib.Dec.{eqb}
use borrow.Author.Tests.{eq-eqb, ne_eqb}
use lib.Ieee.{Float, eq}
use Rattle.numbers.specs.Ops.{◌⊖◌}
use Rattle.numbers.specs.Signs.{zero64, one64}
use Rattle.numbers.specs.declared.complex.Complex.{Complex}
use Rattle.numbers.specs.Complex.Arith as complex
use Rattle.cells.specs.declared.Entry.{Entry}
use Rattle.cells.specs.Contract.Book.{Book}
use Rattle.cells.specs.Contract.Book as book
use Rattle.sums.specs.Tree.Kinds.{X}
use Rattle.sums.specs.Tree.Sums.{Sum}
use Rattle.sums.specs.Tree.Map.{Found, absent}
use Rattle.arithmetic.proofs.Agree.{x-size}
use Rattle.calculus.specs.Derivative.{slope, vanishes, prime_step, found_then, prime_from, prime}
use Rattle.sums.specs.Contract.Lies.{Lies}
use Rattle.sums.proofs.order.Walk.{Next, next, lies-none}
use Rattle.std.specs.Prelude.{Option, Some, None}
use Rattle.arithmetic.specs.Add.Contract.Operands.{constant_of}
use Rattle.powers.proofs.divide.Divisors.{constant-is, constant-other}

-- ---- one step

module _ (acc : Complex) (p : Float) (c : Complex) {v : Bool} (e : v ≡ vanishes p c) where
  pub step-skips : v ≡ true → Some acc ≡ constant_of (prime_step acc p c)
  step-skips h = rw (← e) (rw h refl)

  pub step-adds : {m a : Complex} → v ≡ false → eq (p ⊖ one64) zero64 ≡ true → m ≡ slope p c → a ≡ complex.plus acc m → Some a ≡ constant_of (prime_step acc p c)
  step-adds h q s t = rw (← e) (rw h (rw q (rw t (rw s refl))))

  pub step-none : v ≡ false → eq (p ⊖ one64) zero64 ≡ false → None ≡ constant_of (prime_step acc p c)
  step-none h q = rw (← e) (rw h (rw q refl))

-- ---- all of them

-- what is left of s, from q on, goes on from acc
pub record Priming (b : Book) (q e : ℕ) (acc : Complex) (s : Sum) : Type 0 where
  pub s' : Sum
  pub lies : Lies b q e 4 s'
  pub same : prime s ≡ prime_from acc s'

pub prime-start : {b : Book} {q e : ℕ} {s : Sum} → Lies b q e 4 s → Priming b q e complex.zero s
prime-start {s = s} l = record { s' = s; lies = l; same = refl }

module _ {b : Book} {q e : ℕ} {acc : Complex} {s : Sum} (w : Priming b q e acc s) where
  -- nothing is left
  pub prime-end : e ≤ q → Some acc ≡ constant_of (prime s)
  unfolding prime_from
  prime-end h = sym (ap constant_of (w.same ∙ ap (prime_from acc) (lies-none b q e 4 w.s' w.lies h)))

  module _ (x : Entry) (ex : x ≡ book.at b q) (h : q < e) where
    entry_next : Next b q e 4 w.s' x
    entry_next = next b q e 4 w.s' x ex w.lies h

    -- what the rest is taken for, once the step is known
    abbrev onward : Found → Found
    onward f = found_then f (λ a. prime_from a entry_next.rest)

    opened : prime s ≡ cond (eqb x.kind X) (onward (prime_step acc x.num x.coef)) absent
    unfolding prime_from
    opened = w.same ∙ ap (prime_from acc) entry_next.is

    -- the next is no power of x
    pub prime-other : (x.kind ≡ X → ⊥) → None ≡ constant_of (prime s)
    prime-other k = sym (ap constant_of (opened ∙ ap (λ (t : Bool). cond t (onward (prime_step acc x.num x.coef)) absent) (ne_eqb x.kind X k)))

    -- it is
    module _ (k : x.kind ≡ X) {o : Option Complex} (p : o ≡ constant_of (prime_step acc x.num x.coef)) where
      stepped : prime s ≡ onward (prime_step acc x.num x.coef)
      stepped = opened ∙ ap (λ (t : Bool). cond t (onward (prime_step acc x.num x.coef)) absent) (eq-eqb x.kind X k)

      -- its derivative is no constant
      pub prime-none : o ≡ None → None ≡ constant_of (prime s)
      prime-none g = sym (ap constant_of (stepped ∙ ap onward (constant-other (prime_step acc x.num x.coef) (sym p ∙ g))))

      -- or is one: on to the rest
      pub prime-next : {a : Complex} → o ≡ Some a → Priming b (q + 1) e a s
      prime-next {a} g =
          let n = entry_next in
          let nothing : x.inside ≡ 0 = n.inside ∙ x-size x.kind x.num n.inner x.coef n.first.entry-good (eq-eqb x.kind X k) in
          let place : q + 1 + x.inside ≡ q + 1 = omega arith in
          record {
            s' = n.rest;
            lies = subst (λ (k : ℕ). Lies b k e 4 n.rest) place n.lies-rest;
            same = stepped ∙ ap onward (constant-is (prime_step acc x.num x.coef) (sym p ∙ g));
          }
