-- That what is formed has an entry, and that the pairs multiplied for it are counted. Assumes nothing.
use Prim.Native.Nat.{ℕ, ◌+◌, ◌≤◌, min}
use native.Mathlib.Omega.{arith}
use mathlib.Core.Path.{◌≡◌, refl}
use mathlib.Core.Bool.{Bool, true, false, cond}
use mathlib.Core.List.{[], ◌∷◌}
use lib.Dec.{leb}
use Rattle.limits.specs.Limits.{stack_entries}
use Rattle.limits.specs.declared.Refusal.TheVariants.{NoRoom}
use Rattle.cells.specs.Contract.Book.{Book}
use Rattle.sums.specs.Tree.Sums.{Sum}
use Rattle.sums.specs.Tree.Map.{Outcome, sum, refused}
use Rattle.arithmetic.specs.Singles.{GoodSum}
use Rattle.std.specs.Prelude.{Result, Ok, Err}
use Rattle.limits.specs.declared.Refusal.{Refusal}
use Rattle.sums.specs.Contract.Lies.{Agrees}
use Rattle.stack.proofs.Sizes.{good-some}
use Rattle.stack.specs.Stack.{total}
use Rattle.stack.specs.State.{State, went, stopped, with_stack, lend, push, most_pairs}
use Rattle.stack.specs.Steps.{paired}
use Rattle.stack.specs.Contract.Arena.{Arena}
use Rattle.stack.specs.Contract.Agree.{Agree, Does, env_of, ran_of}
use Rattle.stack.specs.Contract.Parts.{Filled, more_pairs}
use Rattle.stack.specs.declared.state.Stepped.{Stepped}
use Rattle.stack.specs.declared.state.Stepped.TheVariants as stepped

-- the answer of the code has an entry, where every sum that is formed is good
pub filled : (f : Result ℕ Refusal) (b : Book) (o : Outcome) → ((r : Sum) → o ≡ sum r → GoodSum r) → Agrees f b 0 o → Filled f
filled f b o good a = go f o good a
  where
    go : (f : Result ℕ Refusal) (o : Outcome) → ((r : Sum) → o ≡ sum r → GoodSum r) → Agrees f b 0 o → Filled f
    go (Ok n) (sum s) good a = let ends = a.1.ends in let some = good-some (good s refl) in (omega arith, a.0)
    go (Ok n) (refused q) good a = absurd a
    go (Err q) o good a = tt

-- as the code reads it
pub filled-done : (f : Result ℕ Refusal) (n : ℕ) → f ≡ Ok n → Filled f → (1 ≤ n) × (n ≤ 64)
filled-done f n e h = rw e at h

-- what was formed is put on, and the pairs that were multiplied for a sum are counted
pub push-paired : {a b : Arena} {v used handled pairs more k : ℕ} {complex : Bool} (at h : ℕ) (put : Stepped) (f : Result ℕ Refusal) (w : Book) (o : Outcome) → Agrees f w 0 o
    → ((n : ℕ) → f ≡ Ok n → more ≡ k) → Does a b v (env_of used handled complex pairs) (ran_of at handled complex pairs put) (push at h o)
    → Does a b v (env_of used handled complex pairs) (ran_of at handled complex pairs (more_pairs put more)) (λ st. push at h o (paired k st))
unfolding lend
push-paired {b = b} {v} {handled = handled} {pairs} {more} {k} {complex} at h put f w o g e d = record { kept = d.kept; agrees = λ st s. go st s.pairs put f o g e (d.agrees st s) }
  where
    lent : (st : State) → pairs ≡ min most_pairs st.pairs → more ≡ k → (x : Bool) (put : Stepped) → Agree (ran_of at handled complex pairs put) b v (cond x (went st) (stopped NoRoom at false))
        → Agree (ran_of at handled complex pairs (more_pairs put more)) b v (cond x (went (paired k st)) (stopped NoRoom at false))
    lent st is e true (stepped.Went u m) s = record { stack = s.stack; below = s.below; handled = s.handled; complex = s.complex; pairs = omega arith }
    lent st is e true (stepped.Stopped q x) s = absurd s
    lent st is e false (stepped.Went u m) s = absurd s
    lent st is e false (stepped.Stopped q x) s = s

    go : (st : State) → pairs ≡ min most_pairs st.pairs → (put : Stepped) (f : Result ℕ Refusal) (o : Outcome) → Agrees f w 0 o → ((n : ℕ) → f ≡ Ok n → more ≡ k)
        → Agree (ran_of at handled complex pairs put) b v (push at h o st) → Agree (ran_of at handled complex pairs (more_pairs put more)) b v (push at h o (paired k st))
    go st is put (Ok n) (sum s) g e d = lent (with_stack (s ∷ st.stack) st) is (e n refl) (leb (h + total (s ∷ []) + total st.stack) stack_entries) put d
    go st is put (Err q) (sum s) g e d = absurd g
    go st is (stepped.Went u m) f (refused q) g e d = absurd d
    go st is (stepped.Stopped p x) f (refused q) g e d = d
