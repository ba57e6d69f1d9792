-- Laws of walks in the arena: one step after another, bodies with sums held, and Fork's bodies. Assumes nothing.
use Prim.Native.Nat.{ℕ, zero, suc, ◌+◌, ◌-◌, ◌*◌, ◌≤◌, ◌<◌}
use native.Mathlib.Omega.{arith}
use mathlib.Core.Path.{◌≡◌, refl, sym, ap, subst, ◌∙◌}
use mathlib.Core.Bool.{Bool, true, false, ◌||◌}
use mathlib.Core.List.{List}
use lib.Dec.{leb}
use borrow.Author.Tests.{leb-true}
use lib.ListN.{length}
use lib.Seq.{length-take-le}
use Rattle.formats.specs.declared.record.Kind.{Kind}
use Rattle.std.specs.Prelude.{Option, Some, None}
use Rattle.limits.specs.declared.Refusal.{Refusal}
use Rattle.limits.specs.declared.Refusal.TheVariants.{NoRoom}
use Rattle.limits.specs.Refusals.{refusal_no}
use Rattle.sums.specs.Tree.Sums.{Sum}
use Rattle.formats.specs.declared.record.Record.{Record}
use Rattle.formats.specs.declared.record.Kind.TheVariants as kind
use Rattle.formats.specs.Rules.{is_a}
use Rattle.formats.proofs.record.Names.{kind-found}
use Rattle.formats.specs.declared.record.Modifier.TheVariants.{Fork}
use Rattle.formats.specs.Names.{kind_of, modifier_of}
use Rattle.formats.specs.Tree.{forest, height, rec_at, next_of, count}
use Rattle.formats.specs.Contract.Walk.{Stretch}
use Rattle.formats.proofs.record.Walk.{stretch-count, stretch-after, stretch-levels, stretch-inside, stretch-next}
use Rattle.stack.specs.Contract.Arena.{Arena, Space}
use Rattle.stack.specs.Stack.{total, any_complex}
use Rattle.stack.specs.Contract.Stacked.{Stacked}
use Rattle.stack.specs.Contract.Blocks.{Outside}
use Rattle.stack.proofs.slots.Laws.{space-less, space-same, outside_refl, outside_trans, outside_wider, stacked-total, stacked-above}
use Rattle.stack.specs.State.{State, Walked, went, stopped, and_then, stop, lend, taking, taking_if}
use Rattle.stack.specs.Contract.Agree.{Stands, Ready, Agree, Does}
use Rattle.stack.specs.declared.state.AlgebraEnv.{AlgebraEnv}
use Rattle.stack.specs.declared.state.Ran.{Ran}
use Rattle.stack.specs.declared.state.Ran.TheVariants.{Went, Stopped}
use Rattle.modifiers.specs.Holding.{deepest, back_to}
use Rattle.modifiers.specs.Contract.Begins.{Holds, Begins, PutsBack}
use Rattle.modifiers.specs.declared.hold.Begun.TheVariants.{Held, Halted}
use Rattle.modifiers.specs.Modifiers.{Runner, most, forked, modifier}
use Rattle.modifiers.specs.Reading.{runners, step_of, inside_of, by_inside}
use Rattle.modifiers.specs.Contract.Walks.{walk_of, place_of}
use Rattle.modifiers.specs.Contract.Plans.{begin, planned, modified, Follows, UsedAs}
use Rattle.modifiers.specs.declared.Inside.{Inside}
use Rattle.modifiers.specs.declared.Inside.TheVariants as inside
use Rattle.modifiers.specs.declared.Use.{Use}
use Rattle.stack.specs.Steps.{leaf_step}
use Rattle.modifiers.specs.declared.Plan.{Plan}
use Rattle.modifiers.proofs.Runs.{runner_at, runners-split, walk_step, runners-none, stretch-first, place-next, place-stretch, place-on, some}
use Rattle.modifiers.proofs.Plans.{first_run, none_left, then_same}
use Rattle.reading.specs.Contract.Runs.{Keeps, OneBody, Inner, Bodily, Round, Rounds, Many, Forks}

-- ---- stretches

-- a stretch keeps the rules, whatever is known of its levels
pub keeps : {s : List ℕ} {a e : ℕ} {b : Bool} {levels : ℕ} → Stretch s a e b levels → Keeps s a e b
keeps t = record { order = t.order; room = t.room; few = t.few; ok = t.ok; low = omega arith }

pub never : false ≡ true → ⊥
never e = let z : ◌≡◌ {A = ℕ} 0 1 = cc in omega arith

-- ---- one step after another

went-of : {a : Arena} {v : ℕ} {env : AlgebraEnv} (w : Walked) → Agree (Went env) a v w → (st : State) × (w ≡ went st) × Stands a v env st
went-of (went st) h = (st, refl, h)
went-of (stopped q at b) h = absurd h

stopped-of : (a : Arena) (v : ℕ) {q : Refusal} {at : ℕ} {b : Bool} (w : Walked) → Agree (Stopped q at b) a v w → w ≡ stopped q at b
stopped-of a v (went st) h = absurd h
stopped-of a v (stopped q at b) h = rw h.refusal (rw h.place (rw h.handled refl))

agree-stopped : (a : Arena) (v : ℕ) {q : Refusal} {at : ℕ} {b : Bool} (w : Walked) → w ≡ stopped q at b → Agree (Stopped q at b) a v w
agree-stopped a v w e = rw e (record { refusal = refl; place = refl; handled = refl })

-- F, from where it began, is what G is, from where it is now
pub record Going (a b : Arena) (v : ℕ) (env cur : AlgebraEnv) (F G : State → Walked) : Type 0 where
  pub kept : Outside a b 0 v
  pub goes : (st : State) → Stands a v env st → (st' : State) × Stands b v cur st' × (F st ≡ G st')

pub going_start : (a : Arena) (v : ℕ) (env : AlgebraEnv) (F : State → Walked) → Going a a v env env F F
going_start a v env F = record { kept = outside_refl a 0 v; goes = λ st s. (st, s, refl) }

pub going-ready : {a b : Arena} {v : ℕ} {env cur : AlgebraEnv} {F G : State → Walked} → Ready a v env → Going a b v env cur F G → Ready b v cur
going-ready y g =
    let w = g.goes y.some.0 y.some.1 in
    record { space = space-same g.kept.long y.space; within = y.within; some = (w.0, w.1) }

-- what is left may be said otherwise
pub going-same : {a b : Arena} {v : ℕ} {env cur : AlgebraEnv} {F G H : State → Walked} → Going a b v env cur F G → ((st : State) → G st ≡ H st) → Going a b v env cur F H
going-same g e = record { kept = g.kept; goes = λ st s. let x = g.goes st s in (x.0, x.1, x.2 ∙ e x.0) }

pub going_step : {a b c : Arena} {v : ℕ} {env cur nxt : AlgebraEnv} {F G S H : State → Walked} → Going a b v env cur F G → Does b c v cur (Went nxt) S
    → ((st : State) → G st ≡ and_then (S st) H) → Going a c v env nxt F H
going_step {a} {b} {c} {v} {env} {cur} {nxt} {F} {G} {S} {H} g d e =
    record {
      kept = outside_trans g.kept d.kept;
      goes =
          λ st s.
          let x = g.goes st s in
          let y = went-of (S x.0) (d.agrees x.0 x.1) in
          (y.0, y.2, x.2 ∙ e x.0 ∙ ap (λ w. and_then w H) y.1);
    }

pub going-stop : {a b c : Arena} {v : ℕ} {env cur : AlgebraEnv} {q : Refusal} {p : ℕ} {z : Bool} {F G S : State → Walked} (H : State → Walked) → Going a b v env cur F G
    → Does b c v cur (Stopped q p z) S → ((st : State) → G st ≡ and_then (S st) H) → Does a c v env (Stopped q p z) F
going-stop {a} {b} {c} {v} {env} {cur} {q} {p} {z} {F} {G} {S} H g d e =
    record {
      kept = outside_trans g.kept d.kept;
      agrees =
          λ st s.
          let x = g.goes st s in
          agree-stopped c v (F st) (x.2 ∙ e x.0 ∙ ap (λ w. and_then w H) (stopped-of c v (S x.0) (d.agrees x.0 x.1)));
    }

pub going_end : {a b : Arena} {v : ℕ} {env cur : AlgebraEnv} {F G : State → Walked} → Going a b v env cur F G → ((st : State) → G st ≡ went st) → Does a b v env (Went cur) F
going_end {a} {b} {v} {env} {cur} {F} {G} g e =
    record { kept = g.kept; agrees = λ st s. let x = g.goes st s in subst (λ w. Agree (Went cur) b v w) (sym (x.2 ∙ e x.0)) x.1 }

-- the first record of a stretch, where r is the record that was read
pub walk-on : (s : List ℕ) (at to : ℕ) (b : Bool) (left : ℕ) (r : Record) → Stretch s at to b left → at < to → r ≡ rec_at s at → (h : ℕ) (st : State)
    → walk_of s at to h st ≡ and_then (step_of at r (runners (at + 1) (forest s (at + 1) (at + 1 + r.inside))) h st) (λ st'. walk_of s (at + 1 + r.inside) to h st')
walk-on s at to b left r t l e h st = rw e (walk_step s at to b left t l h st)

-- ---- bodies with sums held

-- as many entries are held as there are from v on, and those that lie just below it
held_more : {a : Arena} {v m : ℕ} {ss : List Sum} → m ≤ v → v ≤ 1152 → Stacked a (v - m) v ss → (total ss ≡ m) × (1152 - v + total ss ≡ 1152 - (v - m))
held_more {ss = ss} f w k = let t = stacked-total k in (omega arith, omega arith)

then-stops : {w : Walked} {q : Refusal} {at : ℕ} {z : Bool} (f : State → Walked) → w ≡ stopped q at z → and_then w f ≡ stopped q at z
then-stops f e = ap (λ w. and_then w f) e

-- the first stretch of a plan, by the number of entries then held
first_of : (s : List ℕ) (p : Plan) {a : Arena} {v m : ℕ} {ss : List Sum} (st : State) → m ≤ v → v ≤ 1152 → Stacked a (v - m) v ss
    → walk_of s p.from p.to (1152 - v + total ss) st ≡ walk_of s p.from p.to (1152 - (v - m)) st
first_of s p st f w k = ap (λ h. walk_of s p.from p.to h st) (held_more f w k).1

module _ {a : Arena} {v m : ℕ} {env : AlgebraEnv} (s : List ℕ) (p : Plan) (y : Round a v m env) where
  module _ {b : Arena} where
    -- the first stretch refuses
    pub round-stop : {q : Refusal} {at : ℕ} {z : Bool} → Does a b (v - m) env (Stopped q at z) (λ st. walk_of s p.from p.to (1152 - (v - m)) st) → Rounds a b v m env (Stopped q at z) s p
    round-stop d =
        record {
          kept = outside_wider (omega arith) (omega (arith, y.few)) d.kept;
          agrees =
              λ ss st k t.
              agree-stopped b v (planned s p (1152 - v) ss st)
              (then-stops (λ st'. walk_of s p.again p.until (1152 - v) (back_to ss st')) (first_of s p st y.few y.within k ∙ stopped-of b (v - m) _ (d.agrees st t)));
        }

    module _ {cur : AlgebraEnv} (d : Does a b (v - m) env (Went cur) (λ st. walk_of s p.from p.to (1152 - (v - m)) st)) where
      ends : v - m + m ≡ v
      ends = omega (arith, y.few)

      -- what is held stays
      held_then : {ss : List Sum} → Stacked a (v - m) v ss → Stacked b (v - m) (v - m + m) ss
      held_then {ss} k = subst (λ e. Stacked b (v - m) e ss) (sym ends) (stacked-above d.kept (omega arith) k)

      -- the state before what is held is put back
      pub round-ready : Ready b (v - m) cur
      round-ready =
          let w = went-of (walk_of s p.from p.to (1152 - (v - m)) y.ready.some.0) (d.agrees y.ready.some.0 y.ready.some.1) in
          record { space = space-same d.kept.long y.ready.space; within = y.ready.within; some = (w.0, w.2) }

      pub round-held : Space b (v - m + m) × ((ss : List Sum) × Stacked b (v - m) (v - m + m) ss)
      round-held = (space-less (omega (arith, y.few)) (space-same d.kept.long y.space), (y.held.0, held_then y.held.1))

      module _ {c : Arena} {back : AlgebraEnv} (g : PutsBack b c (v - m) m cur back) where
        kept_then : Outside b c 0 v
        kept_then = subst (λ e. Outside b c 0 e) ends g.kept

        back-then : (ss : List Sum) (st : State) → Stacked a (v - m) v ss → Stands b (v - m) cur st → Stands c v back (back_to ss st)
        back-then ss st k t = subst (λ e. Stands c e back (back_to ss st)) ends (g.back ss st (held_then k) t)

        -- the state after it
        pub round-back : Ready c v back
        round-back =
            let w = round-ready in
            record {
              space = space-same g.kept.long (space-same d.kept.long y.space);
              within = y.within;
              some = (back_to y.held.0 w.some.0, back-then y.held.0 w.some.0 y.held.1 w.some.1);
            }

        -- and the other stretch
        pub round-end : {e : Arena} {r : Ran} → Does c e v back r (λ st. walk_of s p.again p.until (1152 - v) st) → Rounds a e v m env r s p
        round-end {e} {r} f =
            record {
              kept = outside_trans (outside_trans (outside_wider (omega arith) (omega (arith, y.few)) d.kept) kept_then) f.kept;
              agrees =
                  λ ss st k t.
                  let w = went-of (walk_of s p.from p.to (1152 - (v - m)) st) (d.agrees st t) in
                  let z = f.agrees (back_to ss w.0) (back-then ss w.0 k w.2) in
                  subst (λ x. Agree r e v (and_then x (λ st'. walk_of s p.again p.until (1152 - v) (back_to ss st')))) (sym (first_of s p st y.few y.within k ∙ w.1)) z;
            }

-- ---- a modifier that follows a plan

module _ {a b : Arena} {v : ℕ} {env : AlgebraEnv} {s : List ℕ} {at left : ℕ} {r : Record} {p : Plan} (f : Follows s at r left p) where
  -- it refuses before its first body
  pub plan-stop : {q : Refusal} {place : ℕ} {z : Bool} → Begins a b v env (Halted q place z) (λ st g. begin (modifier_of r.code) p.args at (1152 - v) st g)
      → Does a b v env (Stopped q place z) (λ st. modified s at r (1152 - v) st)
  plan-stop e = record { kept = e.kept; agrees = λ st t. agree-stopped b v _ (f.same (1152 - v) st ∙ e.begins st t (planned s p (1152 - v))) }

  module _ {cur : AlgebraEnv} {m : ℕ} (e : Begins a b v env (Held cur m) (λ st g. begin (modifier_of r.code) p.args at (1152 - v) st g)) where
    pub plan-round : Ready a v env → Round b v m cur
    plan-round y =
        let h = e.begins y.some.0 y.some.1 in
        record {
          ready = record { space = space-less (omega arith) (space-same e.kept.long y.space); within = omega (arith, y.within); some = (h.state, h.stands) };
          few = h.few;
          space = space-same e.kept.long y.space;
          within = y.within;
          held = (h.sums, h.held);
        }

    pub plan-end : {c : Arena} {o : Ran} → Rounds b c v m cur o s p → Does a c v env o (λ st. modified s at r (1152 - v) st)
    plan-end {c} {o} g =
        record {
          kept = outside_trans e.kept g.kept;
          agrees =
              λ st t.
              let h = e.begins st t in
              subst (λ w. Agree o c v w) (sym (f.same (1152 - v) st ∙ h.same (planned s p (1152 - v)))) (g.agrees h.sums h.state h.held h.stands);
        }

-- ---- Fork

placed : Walked → ℕ
placed (went st) = 0
placed (stopped q at b) = at

numbered : Walked → ℕ
numbered (went st) = 0
numbered (stopped q at b) = refusal_no q

-- the sums that are taken are as many as were asked for
took-many : (at k : ℕ) (st : State) (ss : List Sum) (st' : State) → ((f : List Sum → State → Walked) → taking at k st f ≡ f ss st') → length ss ≡ k
unfolding taking placed numbered
took-many at k st ss st' e = go (leb k (length st.stack)) refl (e (λ xs x. stopped NoRoom (length xs) false))
  where
    go : (b : Bool) → leb k (length st.stack) ≡ b → taking_if b at k st (λ xs x. stopped NoRoom (length xs) false) ≡ stopped NoRoom (length ss) false → length ss ≡ k
    go true l h = sym (ap placed h) ∙ length-take-le k st.stack (leb-true k (length st.stack) l)
    go false l h = let z : ◌≡◌ {A = ℕ} 1 12 = ap numbered h in absurd (omega arith)

-- a body refuses, and so does the Fork
pub forked-stops : (s : List ℕ) (at h from to : ℕ) (ss : List Sum) (st : State) (b : Bool) (left : ℕ) → Stretch s from to b left → (i : ℕ) → i ≤ count (forest s from to)
    → {q : Refusal} {p : ℕ} {z : Bool} → forked at h ss (runners (place_of s from i) (forest s (place_of s from i) to)) st ≡ stopped q p z → forked at h ss (runners from (forest s from to)) st
    ≡ stopped q p z
unfolding place_of forked
forked-stops s at h from to ss st b left t zero l e = e
forked-stops s at h from to ss st b left t (suc i) l e =
    let a = some s from to (omega arith) in
    let c = stretch-count s from to b left t a in
    let x = forked-stops s at h (next_of s from) to ss st b left (stretch-after s from to b left t a) i (omega (arith, c)) e in
    rw (runners-split s from to b left t a) (then-stops (λ st'. and_then (lend at h (deepest (rec_at s from).args ss) st') ((runner_at s from).run h)) x)

-- more room above
agree-wider : (a : Arena) {v v' : ℕ} (r : Ran) (w : Walked) → v ≤ v' → Agree r a v w → Agree r a v' w
agree-wider a (Went env) (went st) l h = record { stack = h.stack; below = omega (arith, h.below); handled = h.handled; complex = h.complex; pairs = h.pairs }
agree-wider a (Went env) (stopped q at b) l h = h
agree-wider a (Stopped q at b) (went st) l h = h
agree-wider a (Stopped q at b) (stopped q' at' b') l h = h

fork-is : (s : List ℕ) (at : ℕ) (r : Record) (k h : ℕ) (st : State) → modifier_of r.code ≡ Fork → k ≡ most (runners (at + 1) (forest s (at + 1) (at + 1 + r.inside)))
    → modified s at r h st ≡ taking at k st (λ ss st'. forked at (h + total ss) ss (runners (at + 1) (forest s (at + 1) (at + 1 + r.inside))) st')
unfolding modifier
fork-is s at r k h st e q = rw e (rw q refl)

module _ {a b : Arena} {v : ℕ} {env : AlgebraEnv} (s : List ℕ) (at : ℕ) (r : Record) (k : ℕ) (e : modifier_of r.code ≡ Fork)
    (q : k ≡ most (runners (at + 1) (forest s (at + 1) (at + 1 + r.inside)))) where
  -- too few sums
  pub fork-stop : {z : Refusal} {place : ℕ} {x : Bool} → Begins a b v env (Halted z place x) (λ st f. taking at k st f) → Does a b v env (Stopped z place x) (λ st. modified s at r (1152 - v) st)
  fork-stop g = record { kept = g.kept; agrees = λ st t. agree-stopped b v _ (fork-is s at r k (1152 - v) st e q ∙ g.begins st t _) }

  module _ {cur : AlgebraEnv} {m : ℕ} (g : Begins a b v env (Held cur m) (λ st f. taking at k st f)) where
    held_at : (st : State) (h : Holds b v m cur (λ f. taking at k st f)) → Stacked b (v - m) (v - m + m) h.sums × (length h.sums ≡ k)
    held_at st h = (subst (λ x. Stacked b (v - m) x h.sums) (omega (arith, h.few)) h.held, took-many at k st h.sums h.state h.same)

    pub fork-many : Ready a v env → Ready b (v - m) cur × Many b (v - m) m k
    fork-many y =
        let h = g.begins y.some.0 y.some.1 in (
          record { space = space-less (omega arith) (space-same g.kept.long y.space); within = omega (arith, y.within); some = (h.state, h.stands) },
          record { space = space-less (omega (arith, h.few)) (space-same g.kept.long y.space); held = (h.sums, (held_at y.some.0 h).0, (held_at y.some.0 h).1) },
        )

    pub fork-end : {c : Arena} {o : Ran} → Ready a v env → Forks b c (v - m) m k cur o s at (at + 1) (at + 1 + r.inside) → Does a c v env o (λ st. modified s at r (1152 - v) st)
    fork-end {c} {o} y f =
        let n = (fork-many y).1.held in
        record {
          kept = outside_trans g.kept (outside_wider (omega arith) (omega arith) (f.forks n.0 n.1 n.2).kept);
          agrees =
              λ st t.
              let h = g.begins st t in
              let l = held_at st h in
              let w = forked at (1152 - v + total h.sums) h.sums (runners (at + 1) (forest s (at + 1) (at + 1 + r.inside))) h.state in
              let x : Agree o c (v - m) w = rw (held_more h.few y.within h.held).1 ((f.forks h.sums l.0 l.1).agrees h.state h.stands) in
              subst (λ z. Agree o c v z) (sym (fork-is s at r k (1152 - v) st e q ∙ h.same _)) (agree-wider c o w (omega arith) x);
        }

-- ---- the bodies of a Fork, the last of them first

-- those from the i-th on have run
pub record Forking (a b : Arena) (v m k : ℕ) (env cur : AlgebraEnv) (s : List ℕ) (at from to i : ℕ) : Type 0 where
  pub kept : Outside a b 0 v
  pub forks : (ss : List Sum) → Stacked a v (v + m) ss → length ss ≡ k → (st : State) → Stands a v env st
      → (st' : State) × Stands b v cur st' × (forked at (1152 - v) ss (runners (place_of s from i) (forest s (place_of s from i) to)) st ≡ went st')

module _ {a : Arena} {v m k : ℕ} {env : AlgebraEnv} (s : List ℕ) (at from to left : ℕ) (t : Stretch s from to true left) where
  -- none has run yet
  pub forking-start : Forking a a v m k env env s at from to (count (forest s from to))
  unfolding forked
  forking-start =
      let p = place-stretch s from to true left (count (forest s from to)) t (omega arith) in
      let z = none_left s (place_of s from (count (forest s from to))) to p.0.order (omega (arith, p.1)) in
      record { kept = outside_refl a 0 v; forks = λ ss h l st x. (st, x, rw (runners-none s (place_of s from (count (forest s from to))) to (omega (arith, z))) refl) }

  module _ {b : Arena} {cur : AlgebraEnv} where
    pub forking-ready : {i : ℕ} → Ready a v env → Many a v m k → Forking a b v m k env cur s at from to i → Ready b v cur × Many b v m k
    forking-ready y n g =
        let w = g.forks n.held.0 n.held.1 n.held.2 y.some.0 y.some.1 in (
          record { space = space-same g.kept.long y.space; within = y.within; some = (w.0, w.1) },
          record { space = space-same g.kept.long n.space; held = (n.held.0, stacked-above g.kept (omega arith) n.held.1, n.held.2) },
        )

    -- all have run
    pub forking-end : Forking a b v m k env cur s at from to 0 → Forks a b v m k env (Went cur) s at from to
    unfolding place_of
    forking-end g =
        record {
          kept = g.kept;
          forks =
              λ ss h l.
              record { kept = g.kept; agrees = λ st x. let w = g.forks ss h l st x in subst (λ z. Agree (Went cur) b v z) (sym w.2) w.1 };
        }

    module _ (i : ℕ) (l : i < count (forest s from to)) (g : Forking a b v m k env cur s at from to (suc i)) where
      abbrev p : ℕ
      p = place_of s from i

      -- the i-th
      at_i : Stretch s p to true left × (p < to)
      at_i =
          let w = place-stretch s from to true left i t (omega arith) in
          (w.0, some s p to (omega (arith, w.1)))

      pub forking-body : Stretch s p (next_of s p) true left
      forking-body = stretch-first s p to true left at_i.0 at_i.1

      forked-one : (ss : List Sum) (st : State)
          → forked at (1152 - v) ss (runners p (forest s p to)) st
          ≡ and_then (forked at (1152 - v) ss (runners (place_of s from (suc i)) (forest s (place_of s from (suc i)) to)) st)
          (λ st'. and_then (lend at (1152 - v) (deepest (rec_at s p).args ss) st') (λ st''. walk_of s p (next_of s p) (1152 - v) st''))
      unfolding forked
      forked-one ss st =
          rw (place-next s from i)
          (rw (runners-split s p to true left at_i.0 at_i.1)
          (then_same (forked at (1152 - v) ss (runners (next_of s p) (forest s (next_of s p) to)) st) _ _
          (λ st'. then_same (lend at (1152 - v) (deepest (rec_at s p).args ss) st') _ _ (λ st''. sym (first_run s p to left at_i.0 at_i.1 (1152 - v) st'')))))

      module _ {c : Arena} {o : Ran} (n : Many a v m k) (d : (ss : List Sum) → Stacked b v (v + m) ss → length ss ≡ k → Does b c v cur o
          (λ st. lend at (1152 - v) (deepest (rec_at s p).args ss) st)) where
        lent-kept : Outside b c 0 v
        lent-kept = (d n.held.0 (stacked-above g.kept (omega arith) n.held.1) n.held.2).kept

        lent : (ss : List Sum) → Stacked a v (v + m) ss → length ss ≡ k → Does b c v cur o (λ st. lend at (1152 - v) (deepest (rec_at s p).args ss) st)
        lent ss h x = d ss (stacked-above g.kept (omega arith) h) x

      -- there is no room for the copies
      pub lend-stop : {c : Arena} {q : Refusal} {place : ℕ} {z : Bool} (n : Many a v m k)
          → ((ss : List Sum) → Stacked b v (v + m) ss → length ss ≡ k → Does b c v cur (Stopped q place z) (λ st. lend at (1152 - v) (deepest (rec_at s p).args ss) st)) → Forks a c v m k env
          (Stopped q place z) s at from to
      lend-stop {c} {q} {place} {z} n d =
          record {
            kept = outside_trans g.kept (lent-kept n d);
            forks =
                λ ss h x.
                record {
                  kept = outside_trans g.kept (lent-kept n d);
                  agrees =
                      λ st y.
                      let w = g.forks ss h x st y in
                      let e = stopped-of c v (lend at (1152 - v) (deepest (rec_at s p).args ss) w.0) ((lent n d ss h x).agrees w.0 w.1) in
                      agree-stopped c v _
                      (forked-stops s at (1152 - v) from to ss st true left t i (omega arith)
                      (forked-one ss st ∙ ap (λ f. and_then f (λ st'. and_then (lend at (1152 - v) (deepest (rec_at s p).args ss) st') (λ st''. walk_of s p (next_of s p) (1152 - v) st''))) w.2
                      ∙ then-stops (λ st''. walk_of s p (next_of s p) (1152 - v) st'') e));
                };
          }

      module _ {c : Arena} {ready : AlgebraEnv} (n : Many a v m k)
          (d : (ss : List Sum) → Stacked b v (v + m) ss → length ss ≡ k → Does b c v cur (Went ready) (λ st. lend at (1152 - v) (deepest (rec_at s p).args ss) st)) where
        pub lend-ready : Ready a v env → Ready c v ready
        lend-ready y =
            let x = forking-ready y n g in
            let u = went-of (lend at (1152 - v) (deepest (rec_at s p).args x.1.held.0) x.0.some.0)
            ((d x.1.held.0 x.1.held.1 x.1.held.2).agrees x.0.some.0 x.0.some.1) in
            record { space = space-same (lent-kept n d).long x.0.space; within = y.within; some = (u.0, u.2) }

        -- what the body did
        ran-one : {e : Arena} {o : Ran} → Does c e v ready o (λ st. walk_of s p (next_of s p) (1152 - v) st) → (ss : List Sum) → Stacked a v (v + m) ss → length ss ≡ k → (st : State) → Stands a v env st
            → (st' : State) × Agree o e v (walk_of s p (next_of s p) (1152 - v) st') × (forked at (1152 - v) ss (runners p (forest s p to)) st ≡ walk_of s p (next_of s p) (1152 - v) st')
        ran-one f ss h x st y =
            let w = g.forks ss h x st y in
            let u = went-of (lend at (1152 - v) (deepest (rec_at s p).args ss) w.0) ((lent n d ss h x).agrees w.0 w.1) in (
              u.0,
              f.agrees u.0 u.2,
              forked-one ss st
                  ∙ ap (λ z. and_then z (λ st'. and_then (lend at (1152 - v) (deepest (rec_at s p).args ss) st') (λ st''. walk_of s p (next_of s p) (1152 - v) st''))) w.2
                  ∙ ap (λ z. and_then z (λ st''. walk_of s p (next_of s p) (1152 - v) st'')) u.1,
            )

        pub body-stop : {e : Arena} {q : Refusal} {place : ℕ} {z : Bool} → Does c e v ready (Stopped q place z) (λ st. walk_of s p (next_of s p) (1152 - v) st)
            → Forks a e v m k env (Stopped q place z) s at from to
        body-stop {e} f =
            record {
              kept = outside_trans g.kept (outside_trans (lent-kept n d) f.kept);
              forks =
                  λ ss h x.
                  record {
                    kept = outside_trans g.kept (outside_trans (lent-kept n d) f.kept);
                    agrees =
                        λ st y.
                        let w = ran-one f ss h x st y in
                        agree-stopped e v _ (forked-stops s at (1152 - v) from to ss st true left t i (omega arith) (w.2 ∙ stopped-of e v (walk_of s p (next_of s p) (1152 - v) w.0) w.1));
                  };
            }

        pub forking-turn : {e : Arena} {nxt : AlgebraEnv} → Does c e v ready (Went nxt) (λ st. walk_of s p (next_of s p) (1152 - v) st) → Forking a e v m k env nxt s at from to i
        forking-turn f =
            record {
              kept = outside_trans g.kept (outside_trans (lent-kept n d) f.kept);
              forks =
                  λ ss h x st y.
                  let w = ran-one f ss h x st y in
                  let u = went-of (walk_of s p (next_of s p) (1152 - v) w.0) w.1 in
                  (u.0, u.2, w.2 ∙ u.1);
            }

-- what a step asks of the record that was read
pub inner_of : (s : List ℕ) (at to : ℕ) (b : Bool) (left : ℕ) (r : Record) → Stretch s at to b left → at < to → r ≡ rec_at s at → Inner s at r
inner_of s at to b left r t l e = rw e (keeps (stretch-inside s at to b left t l))

-- it is lower than the stretch
pub inner-low : (s : List ℕ) (at to : ℕ) (b : Bool) (left : ℕ) (r : Record) → Stretch s at to b left → at < to → r ≡ rec_at s at → height (forest s (at + 1) (at + 1 + r.inside)) < left
inner-low s at to b left r t l e = rw e (omega (arith, stretch-levels s at to b left t l, (stretch-inside s at to b left t l).low))

-- ---- what a match told

pub does-told : {a b : Arena} {v : ℕ} {env : AlgebraEnv} {r r' : Ran} {f : State → Walked} → r ≡ r' → Does a b v env r f → Does a b v env r' f
does-told {a} {b} {v} {env} {f = f} e d = subst (λ x. Does a b v env x f) e d

pub does-back : {a b : Arena} {v : ℕ} {env : AlgebraEnv} {r r' : Ran} {f : State → Walked} → r ≡ r' → Does a b v env r' f → Does a b v env r f
does-back {a} {b} {v} {env} {f = f} e d = subst (λ x. Does a b v env x f) (sym e) d

-- the state, put together of its parts
pub ready-as : {a : Arena} {v : ℕ} {env env' : AlgebraEnv} → env ≡ env' → Ready a v env' → Ready a v env
ready-as {a} {v} e y = subst (λ x. Ready a v x) (sym e) y

pub does-as : {a b : Arena} {v : ℕ} {env env' : AlgebraEnv} {r : Ran} {f : State → Walked} → env ≡ env' → Does a b v env r f → Does a b v env' r f
does-as {a} {b} {v} {r = r} {f} e d = subst (λ x. Does a b v x r f) e d

pub forks-back : {a b : Arena} {v m k : ℕ} {env : AlgebraEnv} {r r' : Ran} {s : List ℕ} {at from to : ℕ} → r ≡ r' → Forks a b v m k env r' s at from to → Forks a b v m k env r s at from to
forks-back {a} {b} {v} {m} {k} {env} {s = s} {at} {from} {to} e d = subst (λ x. Forks a b v m k env x s at from to) (sym e) d

pub began-few : {a b : Arena} {v m : ℕ} {env cur : AlgebraEnv} {G : State → (List Sum → State → Walked) → Walked} → Ready a v env → Begins a b v env (Held cur m) G → m ≤ v
began-few y g = (g.begins y.some.0 y.some.1).few

pub used-told : {u u' : Use} (s : List ℕ) (at : ℕ) (r : Record) → u ≡ u' → UsedAs u s at r → UsedAs u' s at r
used-told s at r e d = subst (λ x. UsedAs x s at r) e d

-- a modifier that refuses before anything
pub halt-does : {a : Arena} {v : ℕ} {env : AlgebraEnv} {r : Ran} {q : Refusal} {at : ℕ} {F : ℕ → State → Walked}
    → ((ss : List Sum) → Stacked a 128 env.used ss → r ≡ Stopped q at (leb 2 env.handled || any_complex ss)) → ((h : ℕ) (st : State) → F h st ≡ stop at q st)
    → Does a a v env r (λ st. F (1152 - v) st)
halt-does {a} {v} {env} {r} {q} {at} {F} e f =
    record {
      kept = outside_refl a 0 v;
      agrees = λ st s. rw (e st.stack s.stack) (rw s.handled (agree-stopped a v (F (1152 - v) st) (f (1152 - v) st)));
    }

-- ---- a record by what is inside it

module _ (at : ℕ) (r : Record) (fs : List Runner) {x : Inside} (p : x ≡ inside_of (kind_of r.kind)) where
  as_step : (y : Inside) → x ≡ y → (h : ℕ) (st : State) → by_inside y at r fs h st ≡ step_of at r fs h st
  unfolding step_of
  as_step y q h st = rw (← p) (rw q refl)

  module _ {a b : Arena} {v : ℕ} {env : AlgebraEnv} {o : Ran} where
    does-step : (y : Inside) → x ≡ y → Does a b v env o (λ st. by_inside y at r fs (1152 - v) st) → Does a b v env o (λ st. step_of at r fs (1152 - v) st)
    does-step y q d = record { kept = d.kept; agrees = λ st s. subst (λ w. Agree o b v w) (as_step y q (1152 - v) st) (d.agrees st s) }

    pub step-leaf : x ≡ inside.Nothing → Does a b v env o (λ st. leaf_step at r (kind_of r.kind) (1152 - v) st) → Does a b v env o (λ st. step_of at r fs (1152 - v) st)
    step-leaf q d = does-step inside.Nothing q d

    pub step-bodies : x ≡ inside.Bodies → Does a b v env o (λ st. modifier at (modifier_of r.code) fs (1152 - v) st) → Does a b v env o (λ st. step_of at r fs (1152 - v) st)
    step-bodies q d = does-step inside.Bodies q d

-- what has bodies inside is a modifier
modifier-only : (k : Option Kind) → inside_of k ≡ inside.Bodies → k ≡ Some kind.Modifier
modifier-only (Some kind.RealPush) e = let z : ◌≡◌ {A = ℕ} 0 1 = cc in absurd (omega arith)
modifier-only (Some kind.ComplexPush) e = let z : ◌≡◌ {A = ℕ} 0 1 = cc in absurd (omega arith)
modifier-only (Some kind.ArrayPush) e = let z : ◌≡◌ {A = ℕ} 0 1 = cc in absurd (omega arith)
modifier-only (Some kind.OtherPush) e = let z : ◌≡◌ {A = ℕ} 0 1 = cc in absurd (omega arith)
modifier-only (Some kind.Primitive) e = let z : ◌≡◌ {A = ℕ} 0 1 = cc in absurd (omega arith)
modifier-only (Some kind.Modifier) e = refl
modifier-only (Some kind.Body) e = let z : ◌≡◌ {A = ℕ} 0 1 = cc in absurd (omega arith)
modifier-only (Some kind.Run) e = let z : ◌≡◌ {A = ℕ} 0 1 = cc in absurd (omega arith)
modifier-only (Some kind.CustomInverse) e = let z : ◌≡◌ {A = ℕ} 0 1 = cc in absurd (omega arith)
modifier-only (Some kind.Obverse) e = let z : ◌≡◌ {A = ℕ} 0 1 = cc in absurd (omega arith)
modifier-only (Some kind.NoNormal) e = let z : ◌≡◌ {A = ℕ} 0 1 = cc in absurd (omega arith)
modifier-only (Some kind.UnderMarker) e = let z : ◌≡◌ {A = ℕ} 0 1 = cc in absurd (omega arith)
modifier-only (Some kind.AnythingElse) e = let z : ◌≡◌ {A = ℕ} 0 1 = cc in absurd (omega arith)
modifier-only None e = let z : ◌≡◌ {A = ℕ} 0 1 = cc in absurd (omega arith)

is-modifier : (r : Record) {x : Inside} → x ≡ inside_of (kind_of r.kind) → x ≡ inside.Bodies → is_a r kind.Modifier ≡ true
is-modifier r p q = rw (← kind-found r.kind kind.Modifier (modifier-only (kind_of r.kind) (sym p ∙ q))) refl

pub bodily-of : (s : List ℕ) (at : ℕ) (r : Record) {x : Inside} → x ≡ inside_of (kind_of r.kind) → x ≡ inside.Bodies → Inner s at r → Bodily s (at + 1) (at + 1 + r.inside)
bodily-of s at r p q t = subst (λ b. Keeps s (at + 1) (at + 1 + r.inside) b) (is-modifier r p q) t

-- what is asked for when a stack is looked at
pub halt-asks : {a : Arena} {v : ℕ} {env : AlgebraEnv} → Ready a v env → (env.used ≤ length a.sizes) × ((ss : List Sum) × Stacked a 128 env.used ss)
halt-asks y = (omega (arith, y.space.sizes, y.some.1.below), (y.some.0.stack, y.some.1.stack))

-- ---- a turn over the bodies of a Fork, in the words of the code

module _ {a b : Arena} {v m k : ℕ} {env cur : AlgebraEnv} {s : List ℕ} {at from to left i : ℕ} (t : Stretch s from to true left) (pos : 0 < i)
    (top : i ≤ count (forest s from to)) (g : Forking a b v m k env cur s at from to i) where
  again : Forking a b v m k env cur s at from to (suc (i - 1))
  again = let e : i ≡ suc (i - 1) = omega arith in subst (λ j. Forking a b v m k env cur s at from to j) e g

  low : i - 1 < count (forest s from to)
  low = omega arith

  module _ {place : ℕ} {r : Record} {n : ℕ} (p : place ≡ place_of s from (i - 1)) (q : r ≡ rec_at s place) (w : n ≡ r.args) where
    pub turn_body : Stretch s place (place + 1 + r.inside) true left
    turn_body = rw q (rw p (forking-body s at from to left t (i - 1) low again))

    lent-as : {c : Arena} {o : Ran} → ((ss : List Sum) → Stacked b v (v + m) ss → length ss ≡ k → Does b c v cur o (λ st. lend at (1152 - v) (deepest n ss) st))
        → ((ss : List Sum) → Stacked b v (v + m) ss → length ss ≡ k → Does b c v cur o (λ st. lend at (1152 - v) (deepest (rec_at s (place_of s from (i - 1))).args ss) st))
    lent-as d = rw (← p) (rw (← q) (rw (← w) d))

    walk-as : {c e : Arena} {ready : AlgebraEnv} {o : Ran} → Does c e v ready o (λ st. walk_of s place (place + 1 + r.inside) (1152 - v) st)
        → Does c e v ready o (λ st. walk_of s (place_of s from (i - 1)) (next_of s (place_of s from (i - 1))) (1152 - v) st)
    walk-as d = rw (← p) (rw q at d)

    module _ {c : Arena} {o : Ran} (y : Many a v m k) (d : (ss : List Sum) → Stacked b v (v + m) ss → length ss ≡ k → Does b c v cur o (λ st. lend at (1152 - v) (deepest n ss) st)) where
      pub turn-lend-stop : {z : Refusal} {x : ℕ} {f : Bool} → o ≡ Stopped z x f → Forks a c v m k env o s at from to
      turn-lend-stop e = forks-back e (lend-stop s at from to left t (i - 1) low again y (λ ss h l. does-told e (lent-as d ss h l)))

      module _ {ready : AlgebraEnv} (e : o ≡ Went ready) where
        pub turn-ready : Ready a v env → Ready c v ready
        turn-ready u = lend-ready s at from to left t (i - 1) low again y (λ ss h l. does-told e (lent-as d ss h l)) u

        module _ {f : Arena} {z : Ran} (x : Does c f v ready z (λ st. walk_of s place (place + 1 + r.inside) (1152 - v) st)) where
          pub turn-walk-stop : {q : Refusal} {place : ℕ} {b : Bool} → z ≡ Stopped q place b → Forks a f v m k env z s at from to
          turn-walk-stop j = forks-back j (body-stop s at from to left t (i - 1) low again y (λ ss h l. does-told e (lent-as d ss h l)) (does-told j (walk-as x)))

          pub turn-next : {nxt : AlgebraEnv} → z ≡ Went nxt → Forking a f v m k env nxt s at from to (i - 1)
          turn-next j = forking-turn s at from to left t (i - 1) low again y (λ ss h l. does-told e (lent-as d ss h l)) (does-told j (walk-as x))

-- the record that was read ends within the stretch, and what comes after it is a stretch
module _ (s : List ℕ) (at to : ℕ) (b : Bool) (left : ℕ) (r : Record) (t : Stretch s at to b left) (l : at < to) (e : r ≡ rec_at s at) where
  pub walk-next : at + 1 + r.inside ≤ to
  walk-next = rw e (stretch-next s at to b left t l)

  pub walk-rest : Stretch s (at + 1 + r.inside) to b left
  walk-rest = rw e (stretch-after s at to b left t l)

-- the start and the end of a Fork's bodies
pub forking-begin : {a : Arena} {v m k : ℕ} {env : AlgebraEnv} (s : List ℕ) (at from to left : ℕ) {i : ℕ} → Stretch s from to true left → i ≡ count (forest s from to)
    → Forking a a v m k env env s at from to i
forking-begin s at from to left t e = rw e (forking-start s at from to left t)

pub forking-done : {a b : Arena} {v m k : ℕ} {env cur : AlgebraEnv} (s : List ℕ) (at from to left : ℕ) {i : ℕ} → Stretch s from to true left → i ≡ 0
    → Forking a b v m k env cur s at from to i → Forks a b v m k env (Went cur) s at from to
forking-done {a} {b} {v} {m} {k} {env} {cur} s at from to left t e g = forking-end s at from to left t (subst (λ j. Forking a b v m k env cur s at from to j) e g)

-- the body before the i-th is there
pub turn-room : {s : List ℕ} {from to left i place : ℕ} → Stretch s from to true left → 0 < i → i ≤ count (forest s from to) → place ≡ place_of s from (i - 1) → (place < to) × (24 * to ≤ length s)
turn-room {s} {from} {to} {left} {i} t l h p = rw p (let w = place-on s from to (i - 1) (true, left, t) (omega arith) in (w.0, w.1))

-- ---- a turn of the walk

-- the record r stands at the first place of a stretch
pub record Turn (s : List ℕ) (at to : ℕ) (b : Bool) (left : ℕ) (r : Record) : Type 0 where
  pub next : at + 1 + r.inside ≤ to
  pub rest : Stretch s (at + 1 + r.inside) to b left
  pub one : OneBody s (at + 1 + r.inside) to b
  pub inside : Inner s at r
  pub low : height (forest s (at + 1) (at + 1 + r.inside)) < left
  pub on : (h : ℕ) (st : State) → walk_of s at to h st ≡ and_then (step_of at r (runners (at + 1) (forest s (at + 1) (at + 1 + r.inside))) h st) (λ st'. walk_of s (at + 1 + r.inside) to h st')

pub turn : (s : List ℕ) (at to : ℕ) (b : Bool) (left : ℕ) (r : Record) → Stretch s at to b left → OneBody s at to b → at < to → r ≡ rec_at s at → Turn s at to b left r
turn s at to b left r t one l e =
    record {
      next = walk-next s at to b left r t l e;
      rest = walk-rest s at to b left r t l e;
      one = λ q m. let ends = one q l in let same = ap (λ (x : Record). x.inside) e in absurd (omega (arith, m, ends, same));
      inside = inner_of s at to b left r t l e;
      low = inner-low s at to b left r t l e;
      on = walk-on s at to b left r t l e;
    }

pub turn-here : {s : List ℕ} {at to left : ℕ} {r : Record} (k : (b : Bool) × Stretch s at to b left × OneBody s at to b) → at < to → r ≡ rec_at s at → Turn s at to k.0 left r
turn-here {s} {at} {to} {left} {r} k l e = turn s at to k.0 left r k.1 k.2 l e
