-- A modifier begins in counting as it begins in the definition of reading. Assumes nothing.
use Prim.Native.Nat.{ℕ, ◌+◌}
use native.Mathlib.Omega.{arith}
use mathlib.Core.Path.{◌≡◌, refl, ap, ◌∙◌, sym}
use mathlib.Core.Bool.{Bool, true, false, cond}
use mathlib.Core.List.{List, [], ◌++◌}
use lib.Dec.{leb}
use lib.ListN.{length, take, drop}
use Rattle.limits.specs.declared.Refusal.TheVariants.{TooManyVariables}
use Rattle.sums.specs.Tree.Sums.{Sum}
use Rattle.stack.specs.Stack.{total}
use Rattle.stack.specs.State.{State, with_stack, Walked, went, stopped, and_then, is_handled, taking_if, taking, lend}
use Rattle.modifiers.specs.Holding.{deepest, holding, dropping, copying}
use Rattle.reading.specs.Cost.Counting.{Begun, begun, halted, with_held, taken_off, opened, dropped, copied, BeginsAs}

begun-is : {ss ts : List Sum} {a b : State} → begun ss a ≡ begun ts b → (ss ≡ ts) × (a ≡ b)
begun-is e = (cc, cc)

not-halted : {ss : List Sum} {a : State} → begun ss a ≡ halted → ⊥
not-halted e = let z : ◌≡◌ {A = ℕ} 0 1 = cc in omega arith

not-begun : {ss : List Sum} {a : State} → halted ≡ begun ss a → ⊥
not-begun e = let z : ◌≡◌ {A = ℕ} 0 1 = cc in omega arith

-- straight on
goes_on : (ss : List Sum) (st : State) → BeginsAs (λ k. k ss st) (begun ss st)
goes_on ss st =
    record {
      goes = λ ts v e k. let z = begun-is e in ap (λ (us : List Sum). k us st) z.0 ∙ ap (k ts) z.1;
      halts = λ e. absurd (not-halted e);
    }

-- after copies are lent
lends : (w : Walked) (ss : List Sum) → BeginsAs (λ k. and_then w (λ st. k ss st)) (with_held ss w)
lends (went st) ss = goes_on ss st
lends (stopped q at b) ss = record { goes = λ ts v e k. absurd (not-begun e); halts = λ e. (q, at, b, λ k. refl) }

-- after sums are taken off
takes : (at n : ℕ) (st : State) (f : (List Sum → State → Walked) → List Sum → State → Walked) (g : List Sum → State → Begun)
    → ((ss : List Sum) (s : State) → BeginsAs (λ k. f k ss s) (g ss s)) → BeginsAs (λ k. taking at n st (f k)) (taken_off n st g)
unfolding taking
takes at n st f g q = go (leb n (length st.stack))
  where
    go : (b : Bool) → BeginsAs (λ k. taking_if b at n st (f k)) (cond b (g (take n st.stack) (with_stack (drop n st.stack) st)) halted)
    go true = q (take n st.stack) (with_stack (drop n st.stack) st)
    go false =
        record {
          goes = λ ts v e k. absurd (not-begun e);
          halts = λ e. (TooManyVariables, at, is_handled (with_stack [] st), λ k. refl);
        }

-- the four ways
pub hold-begins : (at n c h : ℕ) (st : State) → BeginsAs (holding at n c h st) (opened at n c h st)
hold-begins at n c h st = takes at n st _ _ (λ ss s. lends (lend at (h + total ss) (deepest c ss) s) ss)

pub drop-begins : (at : ℕ) (st : State) → BeginsAs (dropping at st) (dropped st)
drop-begins at st = takes at 1 st _ _ (λ ss s. goes_on [] s)

pub copy-begins : (at n h : ℕ) (st : State) → BeginsAs (copying at n h st) (copied at n h st)
copy-begins at n h st = takes at n st _ _ (λ ss s. lends (lend at h (ss ++ deepest 1 ss) s) [])

pub fork-begins : (at n : ℕ) (st : State) → BeginsAs (taking at n st) (taken_off n st begun)
fork-begins at n st = takes at n st (λ k. k) begun goes_on

-- ---- where it goes through

pub never : {q : _} {at : ℕ} {b : Bool} {st : State} → stopped q at b ≡ went st → ⊥
never e = let z : ◌≡◌ {A = ℕ} 0 1 = cc in omega arith

-- it began, and what followed went through
abbrev pub Opens : Begun → (List Sum → State → Walked) → State → Type 0
Opens b k v = (ss : List Sum) × (s : State) × (b ≡ begun ss s) × (k ss s ≡ went v)

pub opens : {begin : (List Sum → State → Walked) → Walked} (b : Begun) → BeginsAs begin b → (k : List Sum → State → Walked) (v : State) → begin k ≡ went v → Opens b k v
opens (begun ss s) B k v e = (ss, s, refl, sym (B.goes ss s refl k) ∙ e)
opens halted B k v e = let h = B.halts refl in absurd (never (sym (h.3 k) ∙ e))
