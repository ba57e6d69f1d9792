-- Laws of steps in the arena: one after another, a refusal, sums taken off and put on. Assumes nothing.
use Prim.Native.Nat.{ℕ, suc, ◌+◌, ◌-◌, ◌≤◌, ◌<◌, min}
use native.Mathlib.Omega.{arith}
use mathlib.Core.Path.{◌≡◌, refl, sym, ap, subst, ◌∙◌}
use mathlib.Core.Bool.{Bool, false, ◌||◌, cond}
use mathlib.Core.List.{List, [], ◌∷◌}
use lib.Dec.{leb}
use lib.ListN.{length}
use Rattle.limits.specs.declared.Refusal.{Refusal}
use Rattle.limits.specs.declared.Refusal.TheVariants.{TooManyVariables, NoRoom}
use Rattle.sums.specs.Tree.Sums.{Sum, size}
use Rattle.sums.specs.Tree.Map.{Outcome, sum, refused}
use Rattle.cells.specs.Contract.Book.{Book}
use Rattle.std.specs.Prelude.{Result, Ok, Err}
use Rattle.sums.specs.Contract.Lies.{Lies, Agrees}
use Rattle.stack.specs.Contract.Arena.{Arena}
use Rattle.stack.specs.Stack.{any_complex}
use Rattle.stack.specs.Contract.Stacked.{Top, Stacked, no_sum, Sized, sizes_of}
use Rattle.stack.specs.Contract.Blocks.{Outside}
use Rattle.stack.proofs.slots.Laws.{outside_refl, outside_wider, stacked-total, stacked-size, stacked-push, stacked-one, One}
use Rattle.stack.specs.declared.state.AlgebraEnv.{AlgebraEnv}
use Rattle.stack.specs.declared.state.Ran.{Ran}
use Rattle.stack.specs.declared.state.Ran.TheVariants.{Went, Stopped}
use Rattle.stack.specs.State.{State, Walked, went, stopped, and_then, with_stack, stop, taking, push}
use Rattle.stack.specs.Steps.{flagged, counted}
use Rattle.stack.proofs.Laws.{taking-some, taking-short, lend-room, lend-full}
use Rattle.stack.specs.Contract.Agree.{Stands, Ready, Agree, Does}
use Rattle.stack.specs.Contract.Parts.{with_used, went_on, Tops, finished}

-- ---- steps

-- the same definition, written otherwise
pub does-as : {a b : Arena} {v : ℕ} {env : AlgebraEnv} {r : Ran} {f g : State → Walked} → ((st : State) → Stands a v env st → f st ≡ g st) → Does a b v env r f → Does a b v env r g
does-as {b = b} {v} {r = r} e d = record { kept = d.kept; agrees = λ st s. subst (λ (w : Walked). Agree r b v w) (e st s) (d.agrees st s) }

-- no more pairs
pub stands_on : {a : Arena} {v : ℕ} {env : AlgebraEnv} {st : State} → Stands a v env st → Stands a v (went_on env.used 0 env) st
stands_on s = record { stack = s.stack; below = s.below; handled = s.handled; complex = s.complex; pairs = let e = s.pairs in omega arith }

-- a step that changes nothing
pub does-nothing : (a : Arena) (v : ℕ) (env : AlgebraEnv) → Does a a v env (Went (went_on env.used 0 env)) went
does-nothing a v env = record { kept = outside_refl a 0 v; agrees = λ st s. stands_on s }

-- another count and another flag
pub does-finished : {a b : Arena} {v : ℕ} {env : AlgebraEnv} {r : Ran} {f : State → Walked} (h c : Bool) → Does a b v env r f
    → Does a b v env (finished h c r) (λ st. and_then (f st) (λ st'. went (flagged c (counted h st'))))
does-finished {b = b} {v} {r = r} {f} h c d = record { kept = d.kept; agrees = λ st s. go r (f st) (d.agrees st s) }
  where
    go : (r : Ran) (w : Walked) → Agree r b v w → Agree (finished h c r) b v (and_then w (λ st'. went (flagged c (counted h st'))))
    go (Went env) (went st) s =
        record {
          stack = s.stack;
          below = s.below;
          handled = ap (λ (n : ℕ). cond h (min 2 (suc n)) n) s.handled;
          complex = ap (λ (x : Bool). x || c) s.complex;
          pairs = s.pairs;
        }
    go (Went env) (stopped q at x) s = absurd s
    go (Stopped q at x) (went st) s = absurd s
    go (Stopped q at x) (stopped q' at' x') s = s

-- ---- sums taken off

-- what is left of the stack stands
pub stands-popped : {a : Arena} {v : ℕ} {env : AlgebraEnv} {st : State} {w : ℕ} {ss : List Sum} → Stands a v env st → Stacked a 128 w ss → w ≤ v → Stands a v (with_used w env) (with_stack ss st)
stands-popped s k le = record { stack = k; below = le; handled = s.handled; complex = s.complex; pairs = s.pairs }

-- and what is asked for holds of it
pub ready-popped : {a : Arena} {v : ℕ} {env : AlgebraEnv} {w : ℕ} {ss : List Sum} → Ready a v env → Stacked a 128 w ss → w ≤ env.used → Ready a v (with_used w env)
ready-popped {ss = ss} y k le = record { space = y.space; within = y.within; some = (with_stack ss y.some.0, stands-popped y.some.1 k (let b = y.some.1.below in omega arith)) }

-- ---- refusals

-- a refusal that asks whether what is on the stack is complex
pub does-stop : {a : Arena} {v : ℕ} {env : AlgebraEnv} {r : Ran} {q : Refusal} {at : ℕ}
    → ((ss : List Sum) → Stacked a 128 env.used ss → r ≡ Stopped q at (leb 2 env.handled || any_complex ss)) → Does a a v env r (stop at q)
does-stop {a} {v} {env} {r} {q} {at} e =
    record {
      kept = outside_refl a 0 v;
      agrees = λ st s. rw (e st.stack s.stack)
          (record { refusal = refl; place = refl; handled = ap (λ (n : ℕ). leb 2 n || any_complex st.stack) s.handled });
    }

-- too few sums
pub does-short : {a : Arena} {v : ℕ} {env : AlgebraEnv} {r : Ran} {at : ℕ} (n : ℕ) (f : List Sum → State → Walked) → r ≡ Stopped TooManyVariables at (leb 2 env.handled)
    → ((ss : List Sum) → Stacked a 128 env.used ss → length ss < n) → Does a a v env r (λ st. taking at n st f)
does-short {a} {v} {env} {r} {at} n f e few =
    record { kept = outside_refl a 0 v; agrees = λ st s. rw (taking-short at n st f (few st.stack s.stack), e) (record { refusal = refl; place = refl; handled = ap (leb 2) s.handled }) }

-- ---- sums put on

-- what has been put on lies on top, and v is where what is held begins
pub does-push : {a b : Arena} {v : ℕ} {env : AlgebraEnv} {n : ℕ} (at : ℕ) (s : Sum) → v ≤ 1152 → n ≡ size s → env.used + n ≤ v → Outside a b env.used (env.used + n)
    → Top b env.used (env.used + n) s → Does a b v env (Went (went_on (env.used + n) 0 env)) (push at (1152 - v) (sum s))
does-push {a} {b} {v} {env} {n} at s within is le o t =
    record {
      kept = outside_wider (omega arith) le o;
      agrees = λ st k.
          let all = stacked-total k.stack in
          rw (lend-room at (1152 - v) s st (omega arith)) (stands_on (record { stack = stacked-push o t k.stack; below = le; handled = k.handled; complex = k.complex; pairs = k.pairs }));
    }

pub does-full : {a : Arena} {v : ℕ} {env : AlgebraEnv} {n : ℕ} (at : ℕ) (s : Sum) → v ≤ 1152 → n ≡ size s → v < env.used + n → Does a a v env (Stopped NoRoom at false) (push at (1152 - v) (sum s))
does-full {a} {v} {env} {n} at s within is lt =
    record {
      kept = outside_refl a 0 v;
      agrees = λ st k.
          let all = stacked-total k.stack in
          rw (lend-full at (1152 - v) s st (omega arith)) (record { refusal = refl; place = refl; handled = refl });
    }

-- ---- the sums on top

-- no sum is stacked where no cell is
pub no_cells : {a : Arena} {lo : ℕ} {ss : List Sum} → Stacked a lo lo ss → length ss < 1
no_cells {ss = []} k = omega arith
no_cells {ss = s ∷ ss} k = let one = stacked-one {n = size s} refl k in let e = one.ends in let p = one.some in absurd (omega arith)

some-cells : (a : Arena) (u : ℕ) (ss : List Sum) → 128 < u → Stacked a 128 u ss → (s : Sum) × (rest : List Sum) × (ss ≡ s ∷ rest)
some-cells a u [] h no_sum = absurd (omega arith)
some-cells a u (s ∷ ss) h k = (s, ss, refl)

-- the stack is empty
pub does-none : {a : Arena} {v : ℕ} {env : AlgebraEnv} {r : Ran} {at : ℕ} (n : ℕ) (f : List Sum → State → Walked) → 1 ≤ n → r ≡ Stopped TooManyVariables at (leb 2 env.handled)
    → env.used ≡ 128 → Does a a v env r (λ st. taking at n st f)
does-none {a} n f le e none = does-short n f e (λ ss k. let few = no_cells (subst (λ (u : ℕ). Stacked a 128 u ss) none k) in omega arith)

-- the size that the code finds at the top
pub tops-one : {a : Arena} {u n : ℕ} → 128 < u → ((m : ℕ) (ms : List ℕ) → Sized a.sizes 128 u (m ∷ ms) → n ≡ m) → Tops a u (n ∷ [])
unfolding sizes_of
tops-one {a} {u} {n} h f ss k =
    let c = some-cells a u ss h k in
    let e = c.2 in
    (sizes_of c.1, ap sizes_of e ∙ ap (λ (m : ℕ). m ∷ sizes_of c.1) (sym (f (size c.0) (sizes_of c.1) (stacked-size (subst (Stacked a 128 u) e k)))))

-- what they tell of the stack: the sum on top, of n cells
pub record Topmost (a : Arena) (u n : ℕ) (ss : List Sum) : Type 0 where
  pub s : Sum
  pub rest : List Sum
  pub are : ss ≡ s ∷ rest
  pub one : One a 128 u n s rest

topmost-of : (a : Arena) (u n : ℕ) (ss : List Sum) (ms : List ℕ) → Stacked a 128 u ss → sizes_of ss ≡ n ∷ ms → Topmost a u n ss
unfolding sizes_of
topmost-of a u n [] ms k e = absurd (let z : ◌≡◌ {A = ℕ} 0 1 = cc in omega arith)
topmost-of a u n (s ∷ ss) ms k e = record { s = s; rest = ss; are = refl; one = stacked-one (cc) k }

pub topmost : {a : Arena} {u n : ℕ} {ss : List Sum} → Tops a u (n ∷ []) → Stacked a 128 u ss → Topmost a u n ss
topmost {a} {u} {n} {ss} t k = topmost-of a u n ss (t ss k).0 k (t ss k).1

-- and of the one below it
pub tops-two : {a : Arena} {u n m : ℕ} → Tops a u (n ∷ []) → Tops a (u - n) (m ∷ []) → Tops a u (n ∷ m ∷ [])
unfolding sizes_of
tops-two {a} {u} {n} {m} t w ss k =
    let x = topmost t k in
    let y = w x.rest x.one.rest in
    (y.0, ap sizes_of x.are ∙ ap (λ (z : ℕ). z ∷ sizes_of x.rest) (sym x.one.is) ∙ ap (λ (l : List ℕ). n ∷ l) y.1)

-- the sum on top, of n cells, and the one below it, of m cells
pub record Pair (a : Arena) (u n m : ℕ) (ss : List Sum) : Type 0 where
  pub s : Sum
  pub t : Sum
  pub rest : List Sum
  pub are : ss ≡ s ∷ t ∷ rest
  pub first : One a 128 u n s (t ∷ rest)
  pub second : One a 128 (u - n) m t rest

pair_of : (a : Arena) (u n m : ℕ) (ss : List Sum) (ms : List ℕ) → Stacked a 128 u ss → sizes_of ss ≡ n ∷ m ∷ ms → Pair a u n m ss
unfolding sizes_of
pair_of a u n m [] ms k e = absurd (let z : ◌≡◌ {A = ℕ} 0 1 = cc in omega arith)
pair_of a u n m (s ∷ []) ms k e = absurd (let z : ◌≡◌ {A = ℕ} 0 1 = cc in omega arith)
pair_of a u n m (s ∷ t ∷ ss) ms k e = let one = stacked-one {n = n} (cc) k in record { s = s; t = t; rest = ss; are = refl; first = one; second = stacked-one (cc) one.rest }

pub pair : {a : Arena} {u n m : ℕ} {ss : List Sum} → Tops a u (n ∷ m ∷ []) → Stacked a 128 u ss → Pair a u n m ss
pair {a} {u} {n} {m} {ss} t k = pair_of a u n m ss (t ss k).0 k (t ss k).1

-- one sum alone
pub does-only : {a : Arena} {v : ℕ} {env : AlgebraEnv} {r : Ran} {at m : ℕ} (f : List Sum → State → Walked) → r ≡ Stopped TooManyVariables at (leb 2 env.handled)
    → Tops a env.used (m ∷ []) → env.used - m ≡ 128 → Does a a v env r (λ st. taking at 2 st f)
does-only {a} f e t none =
    does-short 2 f e
    (λ ss k.
    let x = topmost t k in
    let few = no_cells (subst (λ (u : ℕ). Stacked a 128 u x.rest) none x.one.rest) in
    subst (λ (l : List Sum). length l < 2) (sym x.are) (omega arith))

-- a step that takes one sum
pub does-one : {a b : Arena} {v : ℕ} {env : AlgebraEnv} {r : Ran} {n : ℕ} (at : ℕ) (f : List Sum → State → Walked) → Outside a b 0 v → Tops a env.used (n ∷ [])
    → ((st : State) (s : Sum) (ss : List Sum) → Stands a v env (with_stack (s ∷ ss) st) → One a 128 env.used n s ss → Agree r b v (f (s ∷ []) (with_stack ss st)))
    → Does a b v env r (λ st. taking at 1 st f)
does-one {a} {b} {v} {env} {r} {n} at f o t g =
    record {
      kept = o;
      agrees = λ st k.
          let x = topmost t k.stack in
          let e = x.are in
          rw (taking-some at 1 st f (rw e (omega arith)), e) (g st x.s x.rest
          (record { stack = rw e at k.stack; below = k.below; handled = k.handled; complex = k.complex; pairs = k.pairs }) x.one);
    }

-- and one that takes two
pub does-two : {a b : Arena} {v : ℕ} {env : AlgebraEnv} {r : Ran} {n m : ℕ} (at : ℕ) (f : List Sum → State → Walked) → Outside a b 0 v → Tops a env.used (n ∷ m ∷ [])
    → ((st : State) (s t : Sum) (ss : List Sum) → Stands a v env (with_stack (s ∷ t ∷ ss) st) → One a 128 env.used n s (t ∷ ss) → One a 128 (env.used - n) m t ss → Agree r b v
    (f (s ∷ t ∷ []) (with_stack ss st)))
    → Does a b v env r (λ st. taking at 2 st f)
does-two {a} {b} {v} {env} {r} {n} {m} at f o t g =
    record {
      kept = o;
      agrees = λ st k.
          let x = pair t k.stack in
          let e = x.are in
          rw (taking-some at 2 st f (rw e (omega arith)), e) (g st x.s x.t x.rest
          (record { stack = rw e at k.stack; below = k.below; handled = k.handled; complex = k.complex; pairs = k.pairs }) x.first x.second);
    }

-- ---- what was formed

-- a sum that was formed is put on
pub push-done : {a b : Arena} {v : ℕ} {env : AlgebraEnv} {r : Ran} (w : Book) (at h n : ℕ) (f : Result ℕ Refusal) (o : Outcome) → f ≡ Ok n
    → ((s : Sum) → Lies w 0 (0 + n) 4 s → Does a b v env r (push at h (sum s))) → Agrees f w 0 o → Does a b v env r (push at h o)
push-done {a} {b} {v} {env} {r} w at h n f o e d g = go o (rw e at g)
  where
    go : (o : Outcome) → Agrees (Ok n) w 0 o → Does a b v env r (push at h o)
    go (sum s) g = d s g.1
    go (refused q) g = absurd g

-- a refusal is given
pub push-refused : {a b : Arena} {v : ℕ} {env : AlgebraEnv} {r : Ran} (w : Book) (at h : ℕ) (q : Refusal) (f : Result ℕ Refusal) (o : Outcome) → f ≡ Err q → Does a b v env r (stop at q)
    → Agrees f w 0 o → Does a b v env r (push at h o)
push-refused {a} {b} {v} {env} {r} w at h q f o e d g = go o (rw e at g)
  where
    go : (o : Outcome) → Agrees (Err q) w 0 o → Does a b v env r (push at h o)
    go (sum s) g = absurd g
    go (refused p) g = subst (λ (x : Refusal). Does a b v env r (stop at x)) g d

-- an outcome that is known to be one
pub push-none : {a b : Arena} {v : ℕ} {env : AlgebraEnv} {r : Ran} (at h : ℕ) {o : Outcome} {q : Refusal} → o ≡ refused q → Does a b v env r (stop at q) → Does a b v env r (push at h o)
push-none {a} {b} {v} {env} {r} at h e d = subst (λ (o : Outcome). Does a b v env r (push at h o)) (sym e) d
