-- What is held, in numbers. Assumes nothing.
use Prim.Native.Nat.{ℕ, ◌-◌}
use native.Mathlib.Omega.{arith}
use native.Mathlib.Decide.{dec_le}
use mathlib.Core.Path.{◌≡◌, sym, subst, ◌∙◌}
use mathlib.Core.Bool.{false}
use mathlib.Core.List.{List}
use lib.ListN.{length, take}
use lib.Seq.{length-take-le}
use Rattle.limits.specs.declared.Refusal.TheVariants.{NoRoom}
use Rattle.sums.specs.Tree.Sums.{Sum}
use Rattle.stack.specs.Contract.Arena.{Arena}
use Rattle.stack.specs.Contract.Stacked.{Stacked}
use Rattle.stack.specs.Contract.Blocks.{Outside}
use Rattle.stack.proofs.slots.Laws.{space-less, space-same}
use Rattle.stack.specs.State.{State, Walked, stopped, taking}
use Rattle.stack.specs.Contract.Agree.{Ready}
use Rattle.stack.specs.declared.state.AlgebraEnv.{AlgebraEnv}
use Rattle.stack.proofs.Laws.{taking-some, taking-short}
use Rattle.modifiers.specs.Contract.Begins.{Holds}

-- ---- sums

-- the same bounds, written otherwise
pub stacked-at : {a : Arena} {lo hi lo' hi' : ℕ} {ss : List Sum} → lo ≡ lo' → hi ≡ hi' → Stacked a lo hi ss → Stacked a lo' hi' ss
stacked-at {a} {lo} {hi} {lo'} {hi'} {ss} p q st = subst (λ (u : ℕ). Stacked a lo' u ss) q (subst (λ (u : ℕ). Stacked a u hi ss) p st)

-- ---- what is held

-- as many sums are held as were taken off
count_of : (at k : ℕ) (st : State) (ss : List Sum) (st' : State) → ((f : List Sum → State → Walked) → taking at k st f ≡ f ss st') → length ss ≡ k
count_of at k st ss st' same =
    elim (dec_le k (length st.stack)) [
      | yes h ↦
          let e = sym (taking-some at k st (λ ts u. stopped NoRoom (length ts) false) h) ∙ same (λ ts u. stopped NoRoom (length ts) false) in
          let n = length-take-le k st.stack h in
          let is : length (take k st.stack) ≡ length ss = cc in
          omega arith
      | no h ↦
          let e = sym (taking-short at k st (λ ts u. stopped NoRoom (length ts) false) (omega arith)) ∙ same (λ ts u. stopped NoRoom (length ts) false) in
          absurd (let z : ◌≡◌ {A = ℕ} 0 1 = cc in omega arith)
    ]

pub holds-count : {a : Arena} {v m : ℕ} {env : AlgebraEnv} (at k : ℕ) (st : State) (h : Holds a v m env (λ f. taking at k st f)) → length h.sums ≡ k
holds-count at k st h = count_of at k st h.sums h.state h.same

-- what lies in the arena after a step that wrote below v only
pub ready_held : {a a' : Arena} {v m : ℕ} {env e : AlgebraEnv} {G : (List Sum → State → Walked) → Walked} → Ready a v env → Outside a a' 0 v → Holds a' v m e G → Ready a' (v - m) e
ready_held r o h = record { space = space-less (omega arith) (space-same o.long r.space); within = let w = r.within in omega arith; some = (h.state, h.stands) }
