-- Sums that are lent: there is room for them, or there is not. Assumes nothing.
use Prim.Native.Nat.{ℕ, ◌+◌, ◌≤◌, ◌<◌}
use mathlib.Core.Path.{◌≡◌, ap}
use mathlib.Core.Bool.{Bool, false, cond}
use mathlib.Core.List.{List, ◌++◌}
use borrow.Author.Tests.{le-leb, lt-leb}
use Rattle.limits.specs.declared.Refusal.TheVariants.{NoRoom}
use Rattle.sums.specs.Tree.Sums.{Sum}
use Rattle.stack.specs.Stack.{total}
use Rattle.stack.specs.State.{State, went, stopped, with_stack, lend}

pub lend-fits : (at h : ℕ) (ss : List Sum) (st : State) → h + total ss + total st.stack ≤ 1024 → lend at h ss st ≡ went (with_stack (ss ++ st.stack) st)
unfolding lend
lend-fits at h ss st p = ap (λ (b : Bool). cond b (went (with_stack (ss ++ st.stack) st)) (stopped NoRoom at false)) (le-leb (h + total ss + total st.stack) 1024 p)

pub lend-full : (at h : ℕ) (ss : List Sum) (st : State) → 1024 < h + total ss + total st.stack → lend at h ss st ≡ stopped NoRoom at false
unfolding lend
lend-full at h ss st p = ap (λ (b : Bool). cond b (went (with_stack (ss ++ st.stack) st)) (stopped NoRoom at false)) (lt-leb (h + total ss + total st.stack) 1024 p)
