-- Laws of a walk over a stretch of records, a turn at a time, and of a record by the way it is run. Assumes nothing.
use Prim.Native.Nat.{ℕ, ◌+◌, ◌-◌, ◌/◌, ◌≤◌, ◌<◌, min}
use native.Mathlib.Omega.{arith}
use mathlib.Core.Path.{◌≡◌, refl, ap, ◌∙◌, sym}
use mathlib.Core.Bool.{Bool, true, false}
use mathlib.Core.Logic.{⊎_elim}
use mathlib.Core.List.{List}
use lib.Dec.{eqb, leb}
use borrow.Author.Tests.{eqb-true, eq-eqb}
use lib.ListN.{length, get_or, set}
use lib.Ieee.{Float, nan}
use Rattle.std.specs.Prelude.{Ok, Result, Err}
use Rattle.limits.specs.declared.Refusal.{Refusal}
use Rattle.limits.specs.declared.Refusal.TheVariants.{TooManyVariables, NotSupported, InterpreterBug}
use Rattle.formats.specs.declared.record.Record.{Record}
use Rattle.formats.specs.declared.record.Kind.TheVariants.{Modifier}
use Rattle.formats.specs.declared.record.Modifier.TheVariants.{On}
use Rattle.formats.specs.Names.{kind_of, modifier_no}
use Rattle.formats.specs.Tree.{Nodes, rec, size, count, rec_at, next_of, forest}
use Rattle.formats.specs.Rules.{is_a, fields_ok, verdict}
use Rattle.formats.specs.Contract.Walk.{Stretch}
use Rattle.formats.proofs.record.Forest.{below, forest-none, size-forest}
use Rattle.formats.proofs.record.Stands.{or_cases}
use Rattle.formats.proofs.record.Walk.{fields-inside, whole-stretch, count_none, stretch-next, stretch-told, stretch-split, stretch-count, stretch-levels, stretch-inside, stretch-after}
use Rattle.running.specs.Primitives.{Act, went, stop, act, way_of}
use Rattle.running.specs.Running.{Running, Out, done, refused_at, and_then, if_room, settle, copied, give_back, stepped, runs, modified, run_one}
use Rattle.running.specs.Contract.Views.{plain, stack_of, view_did, view_state, view_ran, Room, Under, Ready, ReadyOne}
use Rattle.running.specs.declared.Deed.{Deed}
use Rattle.running.specs.declared.Way.TheVariants.{Acts, Runs, Modifies}
use Rattle.running.specs.declared.State.{State}
use Rattle.running.specs.declared.Stopped.{Stopped}
use Rattle.running.proofs.Stack.{stack-none, stack-pop, stack_push}

-- ---- nodes in turn

pub runs_none : (s : List ℕ) (a e at h : ℕ) (st : Running) → e ≤ a → runs (forest s a e) at h st ≡ done st
unfolding runs
runs_none s a e at h st k = rw (forest-none s a e k)

-- a record, with the nodes inside it and those after it
split_runs : (r : Record) (ns ms : Nodes) (at h n : ℕ) (st : Running) → size ns ≡ n → runs (rec r ns ms) at h st ≡ and_then (run_one r ns at h st) (runs ms (at + 1 + n) h)
unfolding runs run_one
split_runs r ns ms at h n st q = rw (← q)

pub runs-more : (s : List ℕ) (a e : ℕ) (b : Bool) (left : ℕ) → Stretch s a e b left → a < e → (r : Record) → r ≡ rec_at s a → (x : ℕ) → a + 1 + r.inside ≡ x → (h : ℕ) (st : Running)
    → runs (forest s a e) a h st ≡ and_then (run_one r (forest s (a + 1) x) a h st) (runs (forest s x e) x h)
runs-more s a e b left t k r q x p h st =
    let n : size (forest s (a + 1) (next_of s a)) ≡ (rec_at s a).inside = omega (arith, size-forest s (a + 1) (next_of s a)) in
    rw (← p, q)
    (ap (λ x. runs x a h st) (stretch-split s a e b left t k)
    ∙ split_runs (rec_at s a) (forest s (a + 1) (next_of s a)) (forest s (next_of s a) e) a h (rec_at s a).inside st n)

-- ---- one record

-- of the state before it a step keeps the steps and the peak alone
same-room : (b : Bool) (n at : ℕ) (s xs ys : List Float) (st : State) → if_room b n at s (view_state xs st) ≡ if_room b n at s (view_state ys st)
same-room true n at s xs ys st = refl
same-room false n at s xs ys st = refl

pub same-settle : (h at : ℕ) (xs ys : List Float) (st : State) (a : Act) → settle h at (view_state xs st) a ≡ settle h at (view_state ys st) a
same-settle h at xs ys st (went s) = same-room (leb (length s + h) 256) (length s + h) at s xs ys st
same-settle h at xs ys st (stop q) = refl

module _ (r : Record) (ns : Nodes) (at h : ℕ) (st : Running) where
  pub one-acts : (d : Deed) → way_of (kind_of r.kind) ≡ Ok (Acts d) → run_one r ns at h st ≡ settle h at st (act d r st.stack)
  unfolding run_one
  one-acts d q = rw q

  pub one-runs : way_of (kind_of r.kind) ≡ Ok Runs → run_one r ns at h st ≡ runs ns (at + 1) h (stepped st)
  unfolding run_one
  one-runs q = rw q

  pub one-modifies : way_of (kind_of r.kind) ≡ Ok Modifies → run_one r ns at h st ≡ modified r ns at h st
  unfolding run_one modified
  one-modifies q = rw q

  pub other-modifier : eqb r.code (modifier_no On) ≡ false → modified r ns at h st ≡ refused_at NotSupported at
  unfolding modified
  other-modifier q = rw q

  module _ (q : eqb r.code (modifier_no On) ≡ true) where
    pub not-one-body : eqb (count ns) 1 ≡ false → modified r ns at h st ≡ refused_at InterpreterBug at
    unfolding modified
    not-one-body m = rw (q, m)

    pub on-one-body : eqb (count ns) 1 ≡ true
        → modified r ns at h st ≡ and_then (settle (h + 1) at st (copied st.stack)) (λ st'. and_then (runs ns (at + 1) (h + 1) st') (give_back st.stack))
    unfolding modified
    on-one-body m = rw (q, m)

-- a record that acts by itself, run on the numbers xs, which are then ys
pub acted : (r : Record) (ns : Nodes) (at h : ℕ) (st : State) (xs ys : List Float) (d : Deed) → way_of (kind_of r.kind) ≡ Ok (Acts d) → (o : Result ℕ Refusal) → view_did ys o ≡ act d r (stack_of xs st.n)
    → (ran : Result State Stopped) → view_ran ys ran ≡ settle h at (view_state ys st) (view_did ys o) → view_ran ys ran ≡ run_one r ns at h (view_state xs st)
acted r ns at h st xs ys d w o a ran e =
    e ∙ same-settle h at ys xs st (view_did ys o) ∙ ap (settle h at (view_state xs st)) a ∙ sym (one-acts r ns at h (view_state xs st) d w)

-- one that is refused
pub one-refused : (r : Record) (ns : Nodes) (at h : ℕ) (st : Running) {q : Refusal} → way_of (kind_of r.kind) ≡ Err q → run_one r ns at h st ≡ refused_at q at
unfolding run_one
one-refused r ns at h st w = rw w

-- ---- one body

end-done : (o : Out) (f : Running → Out) → ((st : Running) → f st ≡ done st) → and_then o f ≡ o
end-done (done st) f h = h st
end-done (refused_at q at) f h = refl

body-way : (k : ℕ) → eqb k 7 ≡ true → way_of (kind_of k) ≡ Ok Runs
unfolding kind_of
body-way k q = rw (eqb-true k 7 q)

module _ (s : List ℕ) (a e left : ℕ) (t : Stretch s a e true left) (c : count (forest s a e) ≡ 1) where
  pub one-there : a < e
  one-there = ⊎_elim (λ k. k) (λ k. absurd (omega (arith, count_none s a e k))) (below a e)

  -- it ends where the stretch ends
  pub body-ends : next_of s a ≡ e
  body-ends =
      let n = stretch-next s a e true left t one-there in
      let m = stretch-count s a e true left t one-there in
      ⊎_elim (λ k. absurd (omega (arith, stretch-count s (next_of s a) e true left (stretch-after s a e true left t one-there) k))) (λ k. omega arith) (below (next_of s a) e)

  -- its records are a stretch
  pub body-stretch : (0 < left) × ((b : Bool) × Stretch s (a + 1) e b (left - 1))
  body-stretch = (stretch-levels s a e true left t one-there, (is_a (rec_at s a) Modifier, rw body-ends at (stretch-inside s a e true left t one-there)))

  -- it is a step, with what is inside it
  pub runs-body : (h : ℕ) (st : Running) → runs (forest s a e) a h st ≡ runs (forest s (a + 1) e) (a + 1) h (stepped st)
  runs-body h st =
      let r = rec_at s a in
      let w = body-way r.kind (stretch-told s a e true left t one-there).body in
      runs-more s a e true left t one-there r refl e body-ends h st
      ∙ end-done (run_one r (forest s (a + 1) e) a h st) (runs (forest s e e) e h) (λ st'. runs_none s e e e h st' (omega arith))
      ∙ one-runs r (forest s (a + 1) e) a h st w

-- ---- On

-- the run of what is inside On with one more number held, which then goes on top
abbrev pub then_back : ℕ → ℕ → Nodes → List Float → Running → Out
then_back h at ns s st = and_then (runs ns (at + 1) (h + 1) st) (give_back s)

module _ (r : Record) (ns : Nodes) (at h : ℕ) (st : State) (xs : List Float) (q : eqb r.code (modifier_no On) ≡ true) (m : eqb (count ns) 1 ≡ true) where
  pub on-nothing : st.n ≡ 0 → modified r ns at h (view_state xs st) ≡ refused_at TooManyVariables at
  on-nothing z =
      on-one-body r ns at h (view_state xs st) q m
      ∙ ap (λ s. and_then (settle (h + 1) at (view_state xs st) (copied s)) (λ st'. and_then (runs ns (at + 1) (h + 1) st') (give_back (stack_of xs st.n)))) (stack-none xs st.n z)

  pub on-held : 0 < st.n → (o : Result State Stopped) → view_ran xs o ≡ settle (h + 1) at (view_state xs st) (went (stack_of xs st.n))
      → modified r ns at h (view_state xs st) ≡ and_then (view_ran xs o) (then_back h at ns (stack_of xs st.n))
  on-held k o e =
      on-one-body r ns at h (view_state xs st) q m
      ∙ ap (λ x. and_then (settle (h + 1) at (view_state xs st) x) (then_back h at ns (stack_of xs st.n))) (top-copied xs st.n k)
      ∙ ap (λ x. and_then x (then_back h at ns (stack_of xs st.n))) (sym e)
    where
      top-copied : (xs : List Float) (n : ℕ) → 0 < n → copied (stack_of xs n) ≡ went (stack_of xs n)
      top-copied xs n h = rw (stack-pop xs n h)

pub back-stack : (xs : List Float) (n : ℕ) → 0 < n → (ys : List Float) (st : State) → st.n < length ys
    → give_back (stack_of xs n) (view_state ys st) ≡ done (record { stack = stack_of (set ys st.n (get_or xs (n - 1) nan)) (st.n + 1); steps = st.steps; peak = st.peak })
back-stack xs n h ys st k =
    rw (stack-pop xs n h) (ap (λ s. done (record { stack = s; steps = st.steps; peak = st.peak })) (sym (stack_push ys st.n (get_or xs (n - 1) nan) k)))

-- ---- what the code's answers say

pub after-refused : (xs : List Float) (o : Result State Stopped) {s : Stopped} (f : Running → Out) → o ≡ Err s → and_then (view_ran xs o) f ≡ refused_at s.why s.place
after-refused xs o f e = rw e

pub after-done : (xs : List Float) (o : Result State Stopped) {st : State} (f : Running → Out) → o ≡ Ok st → and_then (view_ran xs o) f ≡ f (view_state xs st)
after-done xs o f e = rw e

pub room-refused : (h m : ℕ) (o : Result State Stopped) {s : Stopped} → o ≡ Err s → Room h m o
room-refused h m o e = rw e tt

pub room-done : (h m : ℕ) (o : Result State Stopped) {st : State} → o ≡ Ok st → Room h m o → (st.n + h ≤ 256) × (st.n + h ≤ st.steps + 1) × (st.steps ≤ m)
room-done h m o e k = rw e at k

pub room-more : (h : ℕ) {m m' : ℕ} (o : Result State Stopped) → m ≤ m' → Room h m o → Room h m' o
room-more h (Ok st) k r = (r.0, r.1, omega arith)
room-more h (Err s) k r = tt

pub under_more : {m m' : ℕ} (d : Result ℕ Refusal) → m ≤ m' → Under m d → Under m' d
under_more (Ok n) k u = omega arith
under_more (Err q) k u = tt

-- ---- a turn of a walk, at the record r

plain-inside : (r : Record) → fields_ok r ≡ true → plain r.kind ≡ true → r.inside ≡ 0
unfolding plain
plain-inside r f p =
    let i = fields-inside r f in
    ⊎_elim
    (λ k. eqb-true r.inside 0 (rw (eqb-true r.kind 1 k) at i))
    (λ k. eqb-true r.inside 0 (rw (eqb-true r.kind 5 k) at i))
    (or_cases (eqb r.kind 1) (eqb r.kind 5) p)

module _ {s : List ℕ} {a e : ℕ} {xs : List Float} {st : State} {h l : ℕ} (y : Ready s a e xs st h l) (k : a < e) {r : Record} (q : r ≡ rec_at s a) where
  pub next-in : a + 1 + r.inside ≤ e
  next-in = rw q (stretch-next s a e y.stretch.0 l y.stretch.1 k)

  -- there is room for what it adds
  pub values-in : (st.n + 3 ≤ length xs) × (st.steps < 2048)
  values-in = (omega (arith, y.values, y.room, y.adds, y.steps), omega (arith, y.steps, y.few))

  pub ready-one : ReadyOne s a r xs st h l
  ready-one =
      record {
        levels = stretch-levels s a e y.stretch.0 l y.stretch.1 k;
        inside = rw q (stretch-inside s a e y.stretch.0 l y.stretch.1 k);
        most = y.most;
        few = y.few;
        steps = omega (arith, next-in, y.steps);
        values = y.values;
        room = y.room;
        adds = y.adds;
      }

  -- what comes after it, at x
  pub ready-next : (x : ℕ) → a + 1 + r.inside ≡ x → (ys : List Float) → length ys ≡ length xs → (then : State)
      → (then.n + h ≤ 256) × (then.n + h ≤ then.steps + 1) × (then.steps ≤ st.steps + 1 + r.inside) → Ready s x e ys then h l
  ready-next x p ys v then m =
      record {
        stretch = (y.stretch.0, rw (← p, q) (stretch-after s a e y.stretch.0 l y.stretch.1 k));
        most = y.most;
        few = y.few;
        steps = omega (arith, next-in, y.steps, m.2);
        values = omega (arith, y.values);
        room = m.0;
        adds = m.1;
      }

  -- it is run, and then what comes after it
  pub turn : (x : ℕ) → a + 1 + r.inside ≡ x → (ys : List Float) (o : Result State Stopped) → view_ran ys o ≡ run_one r (forest s (a + 1) (a + 1 + r.inside)) a h (view_state xs st)
      → runs (forest s a e) a h (view_state xs st) ≡ and_then (view_ran ys o) (runs (forest s x e) x h)
  turn x p ys o w =
      let n : ℕ = a + 1 + r.inside in
      rw (← p)
      (runs-more s a e y.stretch.0 l y.stretch.1 k r q n refl h (view_state xs st) ∙ ap (λ z. and_then z (runs (forest s n e) n h)) (sym w))

  -- a plain record holds nothing
  pub plain-next : plain r.kind ≡ true → a + 1 + r.inside ≡ a + 1
  plain-next p = omega (arith, plain-inside r (rw q (stretch-told s a e y.stretch.0 l y.stretch.1 k).fields) p)

-- what is inside a record is ready, after its step
pub ready-in : {s : List ℕ} {a : ℕ} {r : Record} {xs : List Float} {st : State} {h l : ℕ} → ReadyOne s a r xs st h l
    → (st' : State) → st'.n ≡ st.n → st'.steps ≡ st.steps + 1 → Ready s (a + 1) (a + 1 + r.inside) xs st' h (l - 1)
ready-in {s} {a} {r} y st' m u =
    record {
      stretch = (is_a r Modifier, y.inside);
      most = y.most;
      few = y.few;
      steps = omega (arith, y.steps);
      values = y.values;
      room = omega (arith, y.room);
      adds = omega (arith, y.adds);
    }

-- what is inside the one body of a modifier, after the steps of both, with one number more held
module _ {s : List ℕ} {a : ℕ} {r : Record} {xs : List Float} {st : State} {h l : ℕ} (y : ReadyOne s a r xs st h l)
    (k : is_a r Modifier ≡ true) (c : count (forest s (a + 1) (a + 1 + r.inside)) ≡ 1) where
  bodies : Stretch s (a + 1) (a + 1 + r.inside) true (l - 1)
  bodies = rw k at y.inside

  pub body-levels : (1 < l) × (0 < r.inside)
  body-levels = (omega (arith, (body-stretch s (a + 1) (a + 1 + r.inside) (l - 1) bodies c).0), omega (arith, one-there s (a + 1) (a + 1 + r.inside) (l - 1) bodies c))

  pub ready-body : (st' : State) → (st'.n + (h + 1) ≤ 256) × (st'.n + (h + 1) ≤ st'.steps + 1) × (st'.steps ≤ st.steps + 2) → Ready s (a + 2) (a + 1 + r.inside) xs st' (h + 1) (l - 2)
  ready-body st' m =
      let p : a + 1 + 1 ≡ a + 2 = omega arith in
      let q : l - 1 - 1 ≡ l - 2 = omega arith in
      record {
        stretch = rw (p, q) at (body-stretch s (a + 1) (a + 1 + r.inside) (l - 1) bodies c).1;
        most = y.most;
        few = y.few;
        steps = omega (arith, y.steps, m.2, body-levels.1);
        values = y.values;
        room = m.0;
        adds = m.1;
      }

  -- On, once it holds the top number: its body's records, and then that number on top
  pub on-begun : eqb r.code (modifier_no On) ≡ true → 0 < st.n → (o : Result State Stopped) → view_ran xs o ≡ settle (h + 1) a (view_state xs st) (went (stack_of xs st.n)) → {begun : State} → o ≡ Ok begun
      → modified r (forest s (a + 1) (a + 1 + r.inside)) a h (view_state xs st)
      ≡ and_then (runs (forest s (a + 2) (a + 1 + r.inside)) (a + 2) (h + 1) (stepped (view_state xs begun))) (give_back (stack_of xs st.n))
  on-begun z n o e {begun} d =
      let x : ℕ = a + 1 + r.inside in
      let ns = forest s (a + 1) x in
      let b = stack_of xs st.n in
      let p : a + 1 + 1 ≡ a + 2 = omega arith in
      on-held r ns a h st xs z (eq-eqb (count ns) 1 c) n o e
      ∙ after-done xs o (then_back h a ns b) d
      ∙ ap (λ w. and_then w (give_back b)) (runs-body s (a + 1) x (l - 1) bodies c (h + 1) (view_state xs begun)
      ∙ ap (λ i. runs (forest s i x) i (h + 1) (stepped (view_state xs begun))) p)

pub start-ready : (s : List ℕ) → verdict s ≡ Ok tt → (xs : List Float) → min 256 (length s / 24 + 1) + 3 ≤ length xs → (st : State) → st.n ≡ 1 → st.steps ≡ 0 → Ready s 0 (length s / 24) xs st 0 129
start-ready s g xs v st n m =
    let t = whole-stretch s g in
    record { stretch = (false, t); most = length s / 24; few = t.few; steps = omega arith; values = v; room = omega arith; adds = omega arith }
