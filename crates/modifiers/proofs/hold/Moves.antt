-- What the code does to the arena, as the definitions say it. Assumes nothing.
use Prim.Native.Nat.{ℕ, ◌+◌, ◌-◌, ◌≤◌, ◌<◌}
use native.Mathlib.Omega.{arith}
use mathlib.Core.Path.{◌≡◌, refl, sym, ap, subst, ◌∙◌}
use mathlib.Core.Bool.{Bool, false}
use mathlib.Core.List.{List, [], ◌++◌}
use lib.Dec.{leb}
use lib.ListN.{length, take, drop}
use lib.Seq.{length-take-le}
use Rattle.limits.specs.declared.Refusal.{Refusal}
use Rattle.limits.specs.declared.Refusal.TheVariants.{TooManyVariables, NoRoom}
use Rattle.sums.specs.Tree.Sums.{Sum}
use Rattle.stack.specs.Contract.Arena.{Arena, slot, Space}
use Rattle.stack.specs.Stack.{total}
use Rattle.stack.specs.Contract.Stacked.{Stacked, Sized, sizes_of, deep}
use Rattle.stack.specs.Contract.Blocks.{Raised, Sunk}
use Rattle.std.specs.Prelude.{Option, Some, None}
use Rattle.stack.proofs.slots.Laws.{space-less, space-same, outside_refl, outside_trans, outside_wider, stacked-none, stacked-total, stacked-le, stacked-sized, stacked-moved, stacked-join, stacked-above, stacked-raised, stacked-sunk, deep-from, deep-few}
use Rattle.stack.specs.State.{State, Walked, went, stopped, and_then, with_stack, taking, lend}
use Rattle.stack.specs.Contract.Agree.{Stands, Ready, Agree, Does}
use Rattle.stack.specs.declared.state.AlgebraEnv.{AlgebraEnv}
use Rattle.stack.specs.declared.state.Ran.{Ran}
use Rattle.stack.specs.declared.state.Ran.TheVariants.{Went, Stopped}
use Rattle.modifiers.specs.Holding.{deepest, holding, dropping, copying}
use Rattle.modifiers.specs.Contract.Begins.{Holds, BegunAs, Begins, up_to, CopiesBelow, PutsBack}
use Rattle.modifiers.specs.declared.hold.Begun.{Begun}
use Rattle.modifiers.specs.declared.hold.Begun.TheVariants.{Held, Halted}
use Rattle.modifiers.proofs.hold.Laws.{stacked-at, holds-count, ready_held}
use Rattle.stack.proofs.Laws.{total-append, taking-some, taking-short}
use Rattle.modifiers.proofs.Laws.{lend-fits, lend-full}

-- the search of the sizes from lo up to hi for the top k found r
abbrev pub Found : Arena → ℕ → ℕ → ℕ → Option ℕ → Type 0
Found a lo hi k r = (ns : List ℕ) → Sized a.sizes lo hi ns → r ≡ deep k ns hi

pub found-is : (a : Arena) (lo hi k : ℕ) {r r' : Option ℕ} → r ≡ r' → Found a lo hi k r → Found a lo hi k r'
found-is a lo hi k e f ns s = sym e ∙ f ns s

pub found-for : (a : Arena) (lo hi : ℕ) {n n' : ℕ} (r : Option ℕ) → n ≡ n' → Found a lo hi n r → Found a lo hi n' r
found-for a lo hi r e f = subst (λ (n : ℕ). Found a lo hi n r) e f

-- the top k begin at w
pub record Cut (a : Arena) (lo w hi k : ℕ) (ss : List Sum) : Type 0 where
  pub enough : k ≤ length ss
  pub top : Stacked a w hi (take k ss)
  pub rest : Stacked a lo w (drop k ss)
  pub low : lo ≤ w
  pub high : w ≤ hi
  pub top_cells : w + total (take k ss) ≡ hi
  pub rest_cells : lo + total (drop k ss) ≡ w

pub cut : {a : Arena} {lo hi : ℕ} (k w : ℕ) (ss : List Sum) → Found a lo hi k (Some w) → Stacked a lo hi ss → Cut a lo w hi k ss
cut k w ss f st =
    let d = deep-from k ss w (sym (f (sizes_of ss) (stacked-sized st))) st in
    record { enough = d.0; top = d.1; rest = d.2; low = stacked-le d.2; high = stacked-le d.1; top_cells = stacked-total d.1; rest_cells = stacked-total d.2 }

pub too_few : {a : Arena} {lo hi : ℕ} (k : ℕ) (ss : List Sum) → Found a lo hi k None → Stacked a lo hi ss → length ss < k
too_few k ss f st = deep-few k ss (sym (f (sizes_of ss) (stacked-sized st))) st

-- what the search of the stack asks for, and of what is held
pub search-asks : {a : Arena} {v : ℕ} {env : AlgebraEnv} → Ready a v env → (env.used ≤ length a.sizes) × ((ns : List ℕ) × Sized a.sizes 128 env.used ns)
search-asks ready =
    let below = ready.some.1.below in
    let room = ready.space.sizes in
    (omega arith, (sizes_of ready.some.0.stack, stacked-sized ready.some.1.stack))

pub search-held : {a : Arena} (lo hi : ℕ) (ss : List Sum) → Space a hi → Stacked a lo hi ss
    → (hi ≤ length a.sizes) × ((ns : List ℕ) × Sized a.sizes lo hi ns)
search-held lo hi ss space st = (space.sizes, (sizes_of ss, stacked-sized st))

pub raise-asks : {a : Arena} {v : ℕ} {env : AlgebraEnv} (k w : ℕ) → Ready a v env → Found a 128 env.used k (Some w) → (w ≤ env.used) × Space a (env.used + (v - env.used))
raise-asks k w ready found =
    let s = ready.some.1 in
    let below = s.below in
    ((cut k w ready.some.0.stack found s.stack).high, space-less (omega arith) ready.space)

-- the same of the top k
pub search-top : {a : Arena} {v : ℕ} {env : AlgebraEnv} (k w : ℕ) → Ready a v env → Found a 128 env.used k (Some w)
    → (env.used ≤ length a.sizes) × ((ns : List ℕ) × Sized a.sizes w env.used ns)
search-top {env = env} k w ready found =
    let s = ready.some.1 in
    search-held w env.used (take k ready.some.0.stack) (space-less s.below ready.space) (cut k w ready.some.0.stack found s.stack).top

-- ---- held

halted : (a : Arena) (v at : ℕ) (env : AlgebraEnv) (G : State → (List Sum → State → Walked) → Walked) (r : Begun) → r ≡ Halted TooManyVariables at (leb 2 env.handled)
    → ((st : State) → Stands a v env st → (f : List Sum → State → Walked) → G st f ≡ stopped TooManyVariables at (leb 2 env.handled)) → Begins a a v env r G
halted a v at env G r e h = subst (λ (x : Begun). Begins a a v env x G) (sym e) (record { kept = outside_refl a 0 v; begins = h })

-- there are fewer than k
short : {a : Arena} {v : ℕ} {env : AlgebraEnv} (at k : ℕ) → Found a 128 env.used k None → (st : State) → Stands a v env st → (f : List Sum → State → Walked)
    → taking at k st f ≡ stopped TooManyVariables at (leb 2 env.handled)
short at k found st s f = taking-short at k st f (too_few k st.stack found s.stack) ∙ ap (λ (n : ℕ). stopped TooManyVariables at (leb 2 n)) (sym s.handled)

pub held-short : {a : Arena} {v : ℕ} {env : AlgebraEnv} (at k : ℕ) (r : Begun) → r ≡ Halted TooManyVariables at (leb 2 env.handled) → Found a 128 env.used k None
    → Begins a a v env r (λ st f. taking at k st f)
held-short {a} {v} {env} at k r e found = halted a v at env (λ st f. taking at k st f) r e (short at k found)

pub held-under : {a a' : Arena} {v : ℕ} {env : AlgebraEnv} (at k w : ℕ) → Ready a v env → Found a 128 env.used k (Some w) → Raised a a' w env.used (v - env.used)
    → Begins a a' v env (Held (up_to w env) (env.used - w)) (λ st f. taking at k st f)
held-under {a} {a'} {v} {env} at k w ready found moved =
    let below = ready.some.1.below in
    record {
      kept = outside_wider (omega arith) (omega arith) moved.outside;
      begins = λ st s.
          let c = cut k w st.stack found s.stack in
          let high = c.high in
          let cells = c.top_cells in
          let up = stacked-raised moved c.top c.rest (space-less (omega arith) ready.space) in
          record {
            sums = take k st.stack;
            state = with_stack (drop k st.stack) st;
            held = stacked-at (omega arith) (omega arith) up.0;
            cells = omega arith;
            few = omega arith;
            stands = record { stack = up.1; below = omega arith; handled = s.handled; complex = s.complex; pairs = s.pairs };
            same = λ f. taking-some at k st f c.enough;
          };
    }

-- the top is taken off and nothing held
pub dropped-short : {a : Arena} {v : ℕ} {env : AlgebraEnv} (at : ℕ) (r : Begun) → r ≡ Halted TooManyVariables at (leb 2 env.handled) → Found a 128 env.used 1 None
    → Begins a a v env r (λ st f. dropping at st f)
dropped-short {a} {v} {env} at r e found = halted a v at env (λ st f. dropping at st f) r e (λ st s f. short at 1 found st s (λ ss st'. f [] st'))

-- ---- nothing is held, and the state is st

nothing-held : {a : Arena} {v : ℕ} {env : AlgebraEnv} {G : (List Sum → State → Walked) → Walked} (st : State) → Stands a v env st → ((f : List Sum → State → Walked) → G f ≡ f [] st)
    → Holds a v 0 env G
unfolding total
nothing-held {a} {v} st s same = record {
  sums = [];
  state = st;
  held = stacked-none a (v - 0) v (omega arith);
  cells = refl;
  few = omega arith;
  stands = let b = s.below in record { stack = s.stack; below = omega arith; handled = s.handled; complex = s.complex; pairs = s.pairs };
  same = same;
}

pub dropped : {a : Arena} {v : ℕ} {env : AlgebraEnv} (at w : ℕ) → Found a 128 env.used 1 (Some w) → Begins a a v env (Held (up_to w env) 0) (λ st f. dropping at st f)
dropped {a} {v} {env} at w found = record {
  kept = outside_refl a 0 v;
  begins = λ st s.
      let c = cut 1 w st.stack found s.stack in
      let high = c.high in
      let below = s.below in
      nothing-held (with_stack (drop 1 st.stack) st) (record { stack = c.rest; below = omega arith; handled = s.handled; complex = s.complex; pairs = s.pairs })
      (λ f. taking-some at 1 st (λ ss st'. f [] st') c.enough);
}

-- ---- lent

-- the deepest of some sums, of which there are k
pub lowest : {a : Arena} {lo hi : ℕ} (k c w : ℕ) (ss : List Sum) → Found a lo hi (k - c) (Some w) → length ss ≡ k → Stacked a lo hi ss → Stacked a lo w (deepest c ss)
lowest {a} {lo} k c w ss found len st = subst (λ (n : ℕ). Stacked a lo w (drop (n - c) ss)) (sym len) (cut (k - c) w ss found st).rest

-- they lie from v on, in w - v cells
pub lowest-at : {a : Arena} {v hi : ℕ} (k c w : ℕ) (ss : List Sum) → Found a v hi (k - c) (Some w) → length ss ≡ k → Stacked a v hi ss → Stacked a v (v + (w - v)) (deepest c ss)
lowest-at k c w ss found len st =
    let low = lowest k c w ss found len st in
    let p = stacked-le low in
    stacked-at refl (omega arith) low

pub lowest-within : {a : Arena} {v hi : ℕ} (k w : ℕ) (ss : List Sum) → Found a v hi k (Some w) → Stacked a v hi ss → (v ≤ w) × (v + (w - v) ≤ hi)
lowest-within k w ss found st =
    let c = cut k w ss found st in
    let low = c.low in
    let high = c.high in
    (low, omega arith)

pub lent_never : {a : Arena} {lo hi : ℕ} (k c : ℕ) (ss : List Sum) → Found a lo hi (k - c) None → length ss ≡ k → Stacked a lo hi ss → ⊥
lent_never k c ss found len st = let few = too_few (k - c) ss found st in omega arith

agree-went : {a : Arena} {v : ℕ} {env : AlgebraEnv} {x : Walked} (st : State) → x ≡ went st → Stands a v env st → Agree (Went env) a v x
agree-went {a} {v} {env} st e s = subst (λ (y : Walked). Agree (Went env) a v y) (sym e) s

agree-stopped : (a : Arena) (v : ℕ) {x : Walked} (q : Refusal) (at : ℕ) → x ≡ stopped q at false → Agree (Stopped q at false) a v x
agree-stopped a v q at e = subst (λ (y : Walked). Agree (Stopped q at false) a v y) (sym e) (record { refusal = refl; place = refl; handled = refl })

-- n cells with the sums ds are there; they go on the stack if there is room
pub lent_fits : {a a' : Arena} {v : ℕ} {env : AlgebraEnv} (at n : ℕ) (ds : List Sum) → Ready a v env → Space a (v + n) → Stacked a v (v + n) ds → env.used + n ≤ v → Sunk a a' v env.used n
    → Does a a' v env (Went (up_to (env.used + n) env)) (λ st. lend at (1152 - v) ds st)
lent_fits {a} {a'} {v} {env} at n ds ready space low fits moved =
    let within = ready.within in
    let cells = stacked-total low in
    record {
      kept = outside_wider (omega arith) (omega arith) moved.outside;
      agrees = λ st s.
          let below = s.below in
          let taken = stacked-total s.stack in
          let both = stacked-sunk moved low s.stack space below in
          agree-went (with_stack (ds ++ st.stack) st) (lend-fits at (1152 - v) ds st (omega arith))
          (record { stack = stacked-join both.0 both.1; below = fits; handled = s.handled; complex = s.complex; pairs = s.pairs });
    }

pub lent-full : {a : Arena} {v : ℕ} {env : AlgebraEnv} (at n : ℕ) (ds : List Sum) → Ready a v env → Stacked a v (v + n) ds → v < env.used + n
    → Does a a v env (Stopped NoRoom at false) (λ st. lend at (1152 - v) ds st)
lent-full {a} {v} {env} at n ds ready low full =
    let within = ready.within in
    let cells = stacked-total low in
    record {
      kept = outside_refl a 0 v;
      agrees = λ st s. let taken = stacked-total s.stack in agree-stopped a v NoRoom at (lend-full at (1152 - v) ds st (omega arith));
    }

-- ---- held and lent

-- what the modifier's begin is, of what the lending gave
abbrev pub as_begun : ℕ → Ran → Begun
as_begun m (Went env) = Held env m
as_begun m (Stopped q at b) = Halted q at b

pub begins-is : {a a' : Arena} {v : ℕ} {env : AlgebraEnv} {r r' : Begun} {G : State → (List Sum → State → Walked) → Walked} → r ≡ r' → Begins a a' v env r G → Begins a a' v env r' G
begins-is {a} {a'} {v} {env} {G = G} e b = subst (λ (r : Begun). Begins a a' v env r G) e b

-- nothing was held, so nothing is lent
pub not-held : {a a' : Arena} {v : ℕ} {env : AlgebraEnv} {r : Begun} (at k c : ℕ) (q : Refusal) (p : ℕ) (b : Bool) → r ≡ Halted q p b → Begins a a' v env r (λ st f. taking at k st f)
    → Begins a a' v env r (λ st f. holding at k c (1152 - v) st f)
not-held {v = v} at k c q p b e h =
    let t = begins-is e h in
    begins-is (sym e) (record { kept = t.kept; begins = λ st s f. t.begins st s (λ ss st'. and_then (lend at (1152 - v + total ss) (deepest c ss) st') (λ st''. f ss st'')) })

pub held-few : {a a' : Arena} {v m : ℕ} {env e : AlgebraEnv} {G : State → (List Sum → State → Walked) → Walked} → Ready a v env → Begins a a' v env (Held e m) G → m ≤ v
held-few ready b = (b.begins ready.some.0 ready.some.1).few

pub lend-asks : {a a' : Arena} {v m : ℕ} {env e : AlgebraEnv} (at k : ℕ) → Ready a v env → Begins a a' v env (Held e m) (λ st f. taking at k st f)
    → Ready a' (v - m) e × Space a' (v - m + m) × ((ss : List Sum) × Stacked a' (v - m) (v - m + m) ss × (length ss ≡ k))
lend-asks at k ready b =
    let h = b.begins ready.some.0 ready.some.1 in
    let few = h.few in
    (ready_held ready b.kept h, space-less (omega arith) (space-same b.kept.long ready.space), (h.sums, stacked-at refl (omega arith) h.held, holds-count at k ready.some.0 h))

-- one state, after what was lent
lent-as : {a : Arena} {v m : ℕ} {G : (List Sum → State → Walked) → Walked} (r : Ran) (x : Walked) (ss : List Sum) → Agree r a (v - m) x → Stacked a (v - m) v ss → total ss ≡ m → m ≤ v
    → ((f : List Sum → State → Walked) → G f ≡ and_then x (λ st. f ss st)) → BegunAs (as_begun m r) a v G
lent-as (Went g) (went st) ss agree held cells few same = record { sums = ss; state = st; held = held; cells = cells; few = few; stands = agree; same = same }
lent-as (Went g) (stopped q at b) ss agree held cells few same = absurd agree
lent-as (Stopped q at b) (went st) ss agree held cells few same = absurd agree
lent-as (Stopped q at b) (stopped q' at' b') ss agree held cells few same = λ f. same f ∙ same_stop (sym agree.refusal) (sym agree.place) (sym agree.handled)
  where
    same_stop : {q q' : Refusal} {at at' : ℕ} {b b' : Bool} → q ≡ q' → at ≡ at' → b ≡ b' → stopped q at b ≡ stopped q' at' b'
    same_stop p e h = cc

then-lent : {a a' a'' : Arena} {v m : ℕ} {env e : AlgebraEnv} (at k c : ℕ) (r : Ran) → Ready a v env → Begins a a' v env (Held e m) (λ st f. taking at k st f)
    → ((ss : List Sum) → Stacked a' (v - m) (v - m + m) ss → length ss ≡ k → Does a' a'' (v - m) e r (λ st. lend at (1152 - (v - m)) (deepest c ss) st))
    → Begins a a'' v env (as_begun m r) (λ st f. holding at k c (1152 - v) st f)
then-lent {v = v} {m = m} at k c r ready b does =
    let within = ready.within in
    let asks = lend-asks at k ready b in
    let kept = (does asks.2.0 asks.2.1 asks.2.2).kept in
    record {
      kept = outside_trans b.kept (outside_wider (omega arith) (omega arith) kept);
      begins = λ st s.
          let h = b.begins st s in
          let few = h.few in
          let cells = h.cells in
          let d = does h.sums (stacked-at refl (omega arith) h.held) (holds-count at k st h) in
          lent-as r (lend at (1152 - (v - m)) (deepest c h.sums) h.state) h.sums (d.agrees h.state h.stands) (stacked-above kept (omega arith) h.held) cells few
          (λ f. h.same (λ ss st'. and_then (lend at (1152 - v + total ss) (deepest c ss) st') (λ st''. f ss st'')) ∙ ap
          (λ (n : ℕ). and_then (lend at n (deepest c h.sums) h.state) (λ st''. f h.sums st'')) (omega arith));
    }

pub held-and-lent : {a a' a'' : Arena} {v m : ℕ} {env e : AlgebraEnv} (at k c : ℕ) (r r' : Ran) → r ≡ r' → Ready a v env → Begins a a' v env (Held e m) (λ st f. taking at k st f)
    → ((ss : List Sum) → Stacked a' (v - m) (v - m + m) ss → length ss ≡ k → Does a' a'' (v - m) e r (λ st. lend at (1152 - (v - m)) (deepest c ss) st))
    → Begins a a'' v env (as_begun m r') (λ st f. holding at k c (1152 - v) st f)
held-and-lent {m = m} at k c r r' is ready b does = begins-is (ap (as_begun m) is) (then-lent at k c r ready b does)

-- ---- a copy put below

pub copied-full : {a : Arena} {v : ℕ} {env : AlgebraEnv} (w n at : ℕ) → Ready a v env → v < env.used + n → CopiesBelow a a w n at v env (Halted NoRoom at false)
copied-full {a} {v} {env} w n at ready full =
    let within = ready.within in
    record {
      kept = outside_refl a 0 v;
      copies = λ ss ds st up low s f.
          let both = total-append ss ds in
          let x = stacked-total up in
          let y = stacked-total low in
          let z = stacked-total s.stack in
          ap (λ (o : Walked). and_then o (λ st'. f [] st')) (lend-full at (1152 - v) (ss ++ ds) st (omega arith));
    }

pub copied-fits : {a b c : Arena} {v : ℕ} {env : AlgebraEnv} (w n at : ℕ) → Ready a v env → w + n ≤ env.used → env.used + n ≤ v → Raised a b w env.used n → Sunk b c (w + n) w n
    → CopiesBelow a c w n at v env (Held (up_to (env.used + n) env) 0)
copied-fits {a} {b} {c} {v} {env} w n at ready inside fits up down =
    let within = ready.within in
    let room = space-same up.outside.long ready.space in
    record {
      kept = outside_trans (outside_wider (omega arith) fits up.outside) (outside_wider (omega arith) (omega arith) down.outside);
      copies = λ ss ds st upper low s.
          let both = total-append ss ds in
          let x = stacked-total upper in
          let y = stacked-total low in
          let z = stacked-total s.stack in
          let raised = stacked-raised up upper s.stack (space-less (omega arith) ready.space) in
          let copy = stacked-moved w (w + n) n (λ j h. ap (slot b) (omega arith) ∙ up.moved (w + j) (omega arith) (omega arith)) (space-less (omega arith) room) ds low in
          let sunk = stacked-sunk down copy raised.1 (space-less (omega arith) room) (omega arith) in
          let all = stacked-join (stacked-join (stacked-above down.outside (omega arith) raised.0) sunk.0) sunk.1 in
          nothing-held (with_stack ((ss ++ ds) ++ st.stack) st) (record { stack = all; below = fits; handled = s.handled; complex = s.complex; pairs = s.pairs })
          (λ f. ap (λ (o : Walked). and_then o (λ st'. f [] st')) (lend-fits at (1152 - v) (ss ++ ds) st (omega arith)));
    }

pub copy-asks : {a b : Arena} {v : ℕ} {env : AlgebraEnv} (w n : ℕ) → Ready a v env → w + n ≤ env.used → env.used + n ≤ v → Raised a b w env.used n → (w ≤ w + n) × Space b (w + n + n)
copy-asks w n ready inside fits up =
    (omega arith, space-less (omega arith) (space-same up.outside.long ready.space))

begun-same : (a : Arena) (v : ℕ) {G G' : (List Sum → State → Walked) → Walked} (r : Begun) → ((f : List Sum → State → Walked) → G' f ≡ G f) → BegunAs r a v G → BegunAs r a v G'
begun-same a v (Held env m) e h = record { sums = h.sums; state = h.state; held = h.held; cells = h.cells; few = h.few; stands = h.stands; same = λ f. e f ∙ h.same f }
begun-same a v (Halted q at b) e h = λ f. e f ∙ h f

-- the deepest of the top k, from w up to u
pub deepest-one : {a : Arena} {lo hi : ℕ} (k w u : ℕ) (ss : List Sum) → Found a lo hi k (Some w) → Found a w hi (k - 1) (Some u) → Stacked a lo hi ss → Stacked a w u (deepest 1 (take k ss))
deepest-one k w u ss found next st = let c = cut k w ss found st in lowest k 1 u (take k ss) next (length-take-le k ss c.enough) c.top

pub copied-asks : {a : Arena} {v : ℕ} {env : AlgebraEnv} (k w u : ℕ) → Ready a v env → Found a 128 env.used k (Some w) → Found a w env.used (k - 1) (Some u) → (w ≤ u) × (w + (u - w) ≤ env.used)
copied-asks k w u ready found next =
    let s = ready.some.1 in
    lowest-within (k - 1) u (take k ready.some.0.stack) next (cut k w ready.some.0.stack found s.stack).top

pub copied : {a a' : Arena} {v : ℕ} {env : AlgebraEnv} (at k w u : ℕ) (r : Begun) → Found a 128 env.used k (Some w) → Found a w env.used (k - 1) (Some u)
    → CopiesBelow a a' w (u - w) at v env r → Begins a a' v env r (λ st f. copying at k (1152 - v) st f)
copied {a} {a'} {v} {env} at k w u r found next did = record {
  kept = did.kept;
  begins = λ st s.
      let c = cut k w st.stack found s.stack in
      let high = c.high in
      let below = s.below in
      let one = deepest-one k w u st.stack found next s.stack in
      let low = stacked-le one in
      begun-same a' v r (λ f. taking-some at k st (λ ss st'. and_then (lend at (1152 - v) (ss ++ deepest 1 ss) st') (λ st''. f [] st'')) c.enough)
      (did.copies (take k st.stack) (deepest 1 (take k st.stack)) (with_stack (drop k st.stack) st) c.top (stacked-at refl (omega arith) one)
      (record { stack = c.rest; below = omega arith; handled = s.handled; complex = s.complex; pairs = s.pairs }));
}

pub copied-short : {a : Arena} {v : ℕ} {env : AlgebraEnv} (at k : ℕ) (r : Begun) → r ≡ Halted TooManyVariables at (leb 2 env.handled) → Found a 128 env.used k None
    → Begins a a v env r (λ st f. copying at k (1152 - v) st f)
copied-short {a} {v} {env} at k r e found = halted a v at env (λ st f. copying at k (1152 - v) st f) r e
    (λ st s f. short at k found st s (λ ss st'. and_then (lend at (1152 - v) (ss ++ deepest 1 ss) st') (λ st''. f [] st'')))

pub copied-never : {a : Arena} {lo hi : ℕ} (k w : ℕ) (ss : List Sum) → Found a lo hi k (Some w) → Found a w hi (k - 1) None → Stacked a lo hi ss → ⊥
copied-never k w ss found next st = let c = cut k w ss found st in lent_never k 1 (take k ss) next (length-take-le k ss c.enough) c.top

-- ---- put back

pub put_back : {a a' : Arena} {v : ℕ} {env : AlgebraEnv} (m : ℕ) → Ready a v env → Space a (v + m) → Sunk a a' v env.used m → PutsBack a a' v m env (up_to (env.used + m) env)
put_back m ready space moved =
    let under = ready.some.1.below in
    record {
      kept = outside_wider (omega arith) (omega arith) moved.outside;
      back = λ ss st up s.
          let below = s.below in
          let both = stacked-sunk moved up s.stack space below in
          record { stack = stacked-join both.0 both.1; below = omega arith; handled = s.handled; complex = s.complex; pairs = s.pairs };
    }
