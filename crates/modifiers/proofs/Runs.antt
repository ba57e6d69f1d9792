-- Laws of a stretch of records that is run: its first record, what is inside it, and what comes after. Assumes nothing.
use mathlib.Core.Path.{◌≡◌, refl, ap}
use mathlib.Core.Bool.{Bool, true, false, beq}
use mathlib.Core.Logic.{⊎_elim}
use mathlib.Core.List.{List, [], ◌∷◌}
use Prim.Native.Nat.{ℕ, zero, suc, ◌+◌, ◌*◌, ◌≤◌, ◌<◌, max}
use native.Mathlib.Omega.{arith}
use lib.ListN.{length}
use borrow.Author.Tests.{eq-eqb}
use Rattle.formats.specs.declared.record.Record.{Record}
use Rattle.formats.specs.Tree.{Nodes, end, rec, size, height, rec_at, next_of, forest, count}
use Rattle.formats.specs.Rules.{ok_nodes}
use Rattle.formats.specs.Contract.Walk.{Stretch, Walkable}
use Rattle.formats.proofs.record.Forest.{below, forest-none, size-forest}
use Rattle.formats.proofs.record.Fit.{Told, forest-split, height-split}
use Rattle.formats.proofs.record.Walk.{stretch-next, stretch-told, stretch-split, stretch-after, stretch-count, count_none}
use Rattle.stack.specs.State.{State, Walked, went, stopped, and_then}
use Rattle.modifiers.specs.Modifiers.{Runner, run_all, most}
use Rattle.modifiers.specs.Reading.{runners, step_of}
use Rattle.modifiers.specs.Contract.Walks.{walk_of, place_of}

-- nothing more to do
pub then-went : (w : Walked) → and_then w went ≡ w
then-went (went st) = refl
then-went (stopped q at b) = refl

-- the record at a place as it is run
abbrev pub runner_at : List ℕ → ℕ → Runner
runner_at s a = record { args = (rec_at s a).args; run = step_of a (rec_at s a) (runners (a + 1) (forest s (a + 1) (next_of s a))) }

pub runners-none : (s : List ℕ) (a e : ℕ) → e ≤ a → runners a (forest s a e) ≡ []
unfolding runners
runners-none s a e h = rw (forest-none s a e h)

pub walk_none : (s : List ℕ) (a e h : ℕ) (st : State) → e ≤ a → walk_of s a e h st ≡ went st
unfolding run_all
walk_none s a e h st q = rw (runners-none s a e q)

beq_same : (b : Bool) → beq b b ≡ true
beq_same true = refl
beq_same false = refl

-- what a record tells, and nothing after it
ok-again : (b : Bool) (r : Record) (ns ms : Nodes) → Told b r ns ms → ok_nodes b (rec r ns end) ≡ true
unfolding ok_nodes
ok-again b r ns ms t = rw t.fields (rw t.body (rw (beq_same b) (rw t.inside (rw (eq-eqb (size ns) (size ns) refl) (rw t.inner)))))

-- where there are nodes the stretch isn't empty
pub some : (s : List ℕ) (a e : ℕ) → 0 < count (forest s a e) → a < e
some s a e h = ⊎_elim (λ (q : a < e). q) (λ (q : e ≤ a). absurd (omega (arith, count_none s a e q))) (below a e)

module _ (s : List ℕ) (a e : ℕ) (b : Bool) (levels : ℕ) (t : Stretch s a e b levels) (h : a < e) where
  place : a + 1 + size (forest s (a + 1) (next_of s a)) ≡ next_of s a
  place = omega (arith, size-forest s (a + 1) (next_of s a))

  pub runners-split : runners a (forest s a e) ≡ runner_at s a ∷ runners (next_of s a) (forest s (next_of s a) e)
  unfolding runners
  runners-split = rw (stretch-split s a e b levels t h) (rw place)

  pub walk_step : (k : ℕ) (st : State) → walk_of s a e k st ≡ and_then ((runner_at s a).run k st) (λ st'. walk_of s (next_of s a) e k st')
  unfolding run_all
  walk_step k st = rw runners-split

  -- the most arguments that a body takes
  pub most_step : most (runners a (forest s a e)) ≡ max (rec_at s a).args (most (runners (next_of s a) (forest s (next_of s a) e)))
  unfolding most
  most_step = rw runners-split

  height-none : height (forest s (next_of s a) (next_of s a)) ≡ 0
  unfolding height
  height-none = rw (forest-none s (next_of s a) (next_of s a) (omega arith))

  -- the first node by itself is a stretch
  first-ok : ok_nodes b (forest s a (next_of s a)) ≡ true
  unfolding ok_nodes
  first-ok =
      rw (forest-split s a (next_of s a) (omega arith) (omega arith))
      (rw (forest-none s (next_of s a) (next_of s a) (omega arith)) (ok-again b (rec_at s a) _ _ (stretch-told s a e b levels t h)))

  pub stretch-first : Stretch s a (next_of s a) b levels
  stretch-first =
      record {
        order = omega arith;
        room = omega (arith, t.room, stretch-next s a e b levels t h);
        few = omega (arith, t.few, stretch-next s a e b levels t h);
        ok = first-ok;
        low = omega (arith, t.low, height-split s a e h (stretch-next s a e b levels t h), height-split s a (next_of s a) (omega arith) (omega arith), height-none);
      }

pub most-none : (s : List ℕ) (a e : ℕ) → e ≤ a → most (runners a (forest s a e)) ≡ 0
unfolding most
most-none s a e h = rw (runners-none s a e h)

-- a turn of a loop over bodies, where r is the record that was read
pub most-on : (s : List ℕ) (a e : ℕ) (r : Record) → Walkable s a e → a < e → r ≡ rec_at s a
    → most (runners a (forest s a e)) ≡ max r.args (most (runners (a + 1 + r.inside) (forest s (a + 1 + r.inside) e)))
most-on s a e r (b, l, t) h q = rw q (most_step s a e b l t h)

-- ---- the i-th node

pub place-zero : (s : List ℕ) (a : ℕ) → place_of s a 0 ≡ a
unfolding place_of
place-zero s a = refl

-- the next stands where what is inside it ends
pub place-next : (s : List ℕ) (a i : ℕ) → place_of s a (suc i) ≡ next_of s (place_of s a i)
unfolding place_of
place-next s a zero = refl
place-next s a (suc i) = place-next s (next_of s a) i

-- it begins a stretch, with that many fewer nodes
pub place-stretch : (s : List ℕ) (a e : ℕ) (b : Bool) (levels i : ℕ) → Stretch s a e b levels → i ≤ count (forest s a e)
    → Stretch s (place_of s a i) e b levels × (count (forest s a e) ≡ i + count (forest s (place_of s a i) e))
unfolding place_of
place-stretch s a e b l zero t h = (t, omega arith)
place-stretch s a e b l (suc i) t h =
    let a<e : a < e = some s a e (omega arith) in
    let c = stretch-count s a e b l t a<e in
    let w = place-stretch s (next_of s a) e b l i (stretch-after s a e b l t a<e) (omega (arith, c)) in
    (w.0, omega (arith, c, w.1))

-- a turn of a loop that counts nodes: the i-th is there, and is the record that was read
pub place-on : (s : List ℕ) (a e i : ℕ) → Walkable s a e → i < count (forest s a e) → (place_of s a i < e) × (24 * e ≤ length s) × (next_of s (place_of s a i) ≤ e) × (e ≤ 2048)
place-on s a e i (b, l, t) h =
    let w = place-stretch s a e b l i t (omega arith) in
    let q = some s (place_of s a i) e (omega (arith, w.1)) in
    (q, w.0.room, stretch-next s (place_of s a i) e b l w.0 q, w.0.few)

pub next-is : (s : List ℕ) (a p i : ℕ) (r : Record) → p ≡ place_of s a i → r ≡ rec_at s p → p + 1 + r.inside ≡ place_of s a (i + 1)
next-is s a p i r q h = let e : i + 1 ≡ suc i = omega arith in rw e (rw h (rw (place-next s a i) (ap (next_of s) q)))
