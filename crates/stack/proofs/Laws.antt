-- Laws of the state of reading: one walk after another, sums taken off and put on. Assumes nothing.
use Prim.Native.Nat.{ℕ, ◌+◌, ◌≤◌, ◌<◌}
use native.Mathlib.Omega.{arith}
use mathlib.Core.Path.{◌≡◌, refl, ap, ◌∙◌}
use mathlib.Core.Bool.{Bool, true, false, ◌||◌}
use mathlib.Core.List.{List, [], ◌∷◌, ◌++◌, append_assoc}
use lib.Dec.{leb}
use lib.ListN.{length, take, drop}
use borrow.Author.Tests.{le-leb, lt-leb}
use Rattle.limits.specs.declared.Refusal.TheVariants.{TooManyVariables, NoRoom}
use Rattle.sums.specs.Tree.Sums.{Sum, size}
use Rattle.stack.specs.Stack.{total, any_complex}
use Rattle.stack.specs.State.{State, Walked, went, stopped, and_then, with_stack, taking_if, taking, lend}

-- ---- walks

-- a walk with nothing after it
pub then-went : (w : Walked) → and_then w went ≡ w
then-went (went st) = refl
then-went (stopped q at b) = refl

-- three in turn
pub then-then : (w : Walked) (f g : State → Walked) → and_then (and_then w f) g ≡ and_then w (λ st. and_then (f st) g)
then-then (went st) f g = refl
then-then (stopped q at b) f g = refl

-- ---- sums taken off

-- enough sums are there, or too few
pub taking-some : (at n : ℕ) (st : State) (f : List Sum → State → Walked) → n ≤ length st.stack → taking at n st f ≡ f (take n st.stack) (with_stack (drop n st.stack) st)
unfolding taking
taking-some at n st f h = ap (λ (x : Bool). taking_if x at n st f) (le-leb n (length st.stack) h)

pub taking-short : (at n : ℕ) (st : State) (f : List Sum → State → Walked) → length st.stack < n → taking at n st f ≡ stopped TooManyVariables at (leb 2 st.handled)
unfolding taking any_complex
taking-short at n st f h = ap (λ (x : Bool). taking_if x at n st f) (lt-leb n (length st.stack) h) ∙ ap (stopped TooManyVariables at) (none (leb 2 st.handled))
  where
    none : (b : Bool) → b || false ≡ b
    none true = refl
    none false = refl

-- ---- sums put on

pub total-append : (xs ys : List Sum) → total (xs ++ ys) ≡ total xs + total ys
unfolding total
total-append [] ys = omega arith
total-append (x ∷ xs) ys = let e = total-append xs ys in omega arith

-- some of the sums may be on the stack already
pub lend-more : (at h : ℕ) (xs ys zs : List Sum) (st : State) → lend at h (xs ++ ys) (with_stack zs st) ≡ lend at h xs (with_stack (ys ++ zs) st)
unfolding lend
lend-more at h xs ys zs st =
    let sums : h + total (xs ++ ys) + total zs ≡ h + total xs + total (ys ++ zs) = omega (arith, total-append xs ys, total-append ys zs) in
    rw (append_assoc, sums)

-- a sum is put on, where there is room for it
pub lend-room : (at h : ℕ) (s : Sum) (st : State) → h + size s + total st.stack ≤ 1024 → lend at h (s ∷ []) st ≡ went (with_stack (s ∷ st.stack) st)
unfolding lend total
lend-room at h s st le = rw (le-leb (h + (size s + 0) + total st.stack) 1024 (omega arith))

pub lend-full : (at h : ℕ) (s : Sum) (st : State) → 1024 < h + size s + total st.stack → lend at h (s ∷ []) st ≡ stopped NoRoom at false
unfolding lend total
lend-full at h s st lt = rw (lt-leb (h + (size s + 0) + total st.stack) 1024 (omega arith))

-- and two
pub lend-two : (at h : ℕ) (s t : Sum) (st : State) → h + size s + size t + total st.stack ≤ 1024 → lend at h (s ∷ t ∷ []) st ≡ went (with_stack (s ∷ t ∷ st.stack) st)
unfolding lend total
lend-two at h s t st le = rw (le-leb (h + (size s + (size t + 0)) + total st.stack) 1024 (omega arith))

pub total-two : (s t : Sum) (ss : List Sum) {u : ℕ} → 0 + total (s ∷ t ∷ ss) ≡ u → size s + (size t + total ss) ≡ u
unfolding total
total-two s t ss e = omega arith
