-- Laws of plans: what a modifier does is what its plan says. Assumes nothing.
use mathlib.Core.Path.{◌≡◌, refl, sym, ap, ◌∙◌}
use mathlib.Core.Bool.{Bool, true, false, cond}
use mathlib.Core.Logic.{inl, inr, ⊎_elim}
use mathlib.Core.List.{List, [], ◌∷◌, ◌++◌}
use Prim.Native.Nat.{ℕ, suc, ◌+◌, ◌≤◌, ◌<◌}
use native.Mathlib.Omega.{arith}
use lib.Dec.{eqb, leb}
use borrow.Author.Tests.{eqb-true, eqb-false}
use lib.ListN.{length}
use Rattle.sums.specs.Tree.Sums.{Sum}
use Rattle.limits.specs.declared.Refusal.TheVariants.{InterpreterBug, NotSupported}
use Rattle.formats.specs.declared.record.Modifier.{Modifier}
use Rattle.formats.specs.declared.record.Modifier.TheVariants.{Dip, Gap, On, By, Both, Bracket, Fork, Unlisted}
use Rattle.formats.specs.declared.record.Record.{Record}
use Rattle.formats.specs.Names.{modifier_of}
use Rattle.formats.specs.Tree.{Nodes, end, rec, size, forest, count, rec_at, next_of, height}
use Rattle.formats.specs.Rules.{ok_nodes}
use Rattle.formats.specs.Contract.Walk.{Stretch}
use Rattle.formats.proofs.record.Forest.{below, forest-none, forest-more}
use Rattle.formats.proofs.record.Walk.{stretch-next, stretch-count, stretch-after}
use Rattle.stack.specs.Stack.{total}
use Rattle.stack.specs.State.{State, Walked, went, stopped, and_then, stop, lend, taking, taking_if}
use Rattle.modifiers.specs.Holding.{deepest, back_to, holding, copying}
use Rattle.modifiers.specs.Modifiers.{Runner, one_body, two_bodies, modifier}
use Rattle.modifiers.specs.Reading.{runners}
use Rattle.modifiers.specs.Contract.Walks.{walk_of}
use Rattle.modifiers.specs.Contract.Plans.{way_of, begin, plan_by, planned, modified, AtMostOne, Follows, UsedAs}
use Rattle.modifiers.specs.declared.Plan.{Plan}
use Rattle.modifiers.specs.declared.Use.{Use}
use Rattle.modifiers.specs.declared.Use.TheVariants.{Refused, Bodies}
use Rattle.modifiers.specs.declared.Way.TheVariants as way
use Rattle.modifiers.proofs.Runs.{then-went, runner_at, runners-none, runners-split, walk_none, walk_step, stretch-first, some}

-- ---- functions that agree everywhere

pub then_same : (w : Walked) (f g : State → Walked) → ((st : State) → f st ≡ g st) → and_then w f ≡ and_then w g
then_same (went st) f g h = h st
then_same (stopped q at b) f g h = refl

abbrev pub Alike : (f g : List Sum → State → Walked) → Type 0
Alike f g = (ss : List Sum) (st : State) → f ss st ≡ g ss st

taking-if : (b : Bool) (at n : ℕ) (st : State) (f g : List Sum → State → Walked) → Alike f g → taking_if b at n st f ≡ taking_if b at n st g
taking-if true at n st f g h = h _ _
taking-if false at n st f g h = refl

taking-same : (at n : ℕ) (st : State) (f g : List Sum → State → Walked) → Alike f g → taking at n st f ≡ taking at n st g
unfolding taking
taking-same at n st f g h = taking-if (leb n (length st.stack)) at n st f g h

holding-same : (at n c h : ℕ) (st : State) (f g : List Sum → State → Walked) → Alike f g → holding at n c h st f ≡ holding at n c h st g
holding-same at n c h st f g e =
    taking-same at n st _ _ (λ ss st'. then_same (lend at (h + total ss) (deepest c ss) st') (f ss) (g ss) (e ss))

copying-same : (at n h : ℕ) (st : State) (f g : List Sum → State → Walked) → Alike f g → copying at n h st f ≡ copying at n h st g
copying-same at n h st f g e = taking-same at n st _ _ (λ ss st'. then_same (lend at h (ss ++ deepest 1 ss) st') (f []) (g []) (e []))

pub begin-same : (m : Modifier) (n at h : ℕ) (st : State) (f g : List Sum → State → Walked) → Alike f g → begin m n at h st f ≡ begin m n at h st g
unfolding begin
begin-same Dip n at h st f g e = holding-same at 1 0 h st f g e
begin-same Gap n at h st f g e = taking-same at 1 st _ _ (λ ss st'. e [] st')
begin-same On n at h st f g e = holding-same at 1 1 h st f g e
begin-same By n at h st f g e = copying-same at n h st f g e
begin-same Both n at h st f g e = holding-same at n 0 h st f g e
begin-same Bracket n at h st f g e = holding-same at n 0 h st f g e
begin-same Fork n at h st f g e = holding-same at n 0 h st f g e
begin-same Unlisted n at h st f g e = holding-same at n 0 h st f g e

-- ---- one body, or two

-- what is run between a modifier's bodies
abbrev runs : (ℕ → State → Walked) → (State → Walked) → ℕ → List Sum → State → Walked
runs g f h ss st = and_then (g (h + total ss) st) (λ st'. f (back_to ss st'))

-- the bodies that are run: the first alone, the first twice, or the second and then the first
abbrev ran_by : Modifier → Runner → Runner → ℕ → List Sum → State → Walked
ran_by Dip f g h = runs f.run went h
ran_by Gap f g h = runs f.run went h
ran_by On f g h = runs f.run went h
ran_by By f g h = runs f.run went h
ran_by Both f g h = runs f.run (f.run h) h
ran_by Bracket f g h = runs g.run (f.run h) h
ran_by Fork f g h = runs f.run went h
ran_by Unlisted f g h = runs f.run went h

one-is : (m : Modifier) → way_of m ≡ way.One → (at : ℕ) (f g : Runner) (h : ℕ) (st : State) → modifier at m (f ∷ []) h st ≡ begin m f.args at h st (ran_by m f g h)
unfolding modifier begin
one-is Dip e at f g h st = refl
one-is Gap e at f g h st = refl
one-is On e at f g h st = refl
one-is By e at f g h st = refl
one-is Both e at f g h st = refl
one-is Bracket e at f g h st = let z : ◌≡◌ {A = ℕ} 0 1 = cc in absurd (omega arith)
one-is Fork e at f g h st = let z : ◌≡◌ {A = ℕ} 0 1 = cc in absurd (omega arith)
one-is Unlisted e at f g h st = let z : ◌≡◌ {A = ℕ} 0 1 = cc in absurd (omega arith)

two_is : (m : Modifier) → way_of m ≡ way.Two → (at : ℕ) (f g : Runner) (h : ℕ) (st : State) → modifier at m (f ∷ g ∷ []) h st ≡ begin m f.args at h st (ran_by m f g h)
unfolding modifier begin
two_is Dip e at f g h st = let z : ◌≡◌ {A = ℕ} 0 1 = cc in absurd (omega arith)
two_is Gap e at f g h st = let z : ◌≡◌ {A = ℕ} 0 1 = cc in absurd (omega arith)
two_is On e at f g h st = let z : ◌≡◌ {A = ℕ} 0 1 = cc in absurd (omega arith)
two_is By e at f g h st = let z : ◌≡◌ {A = ℕ} 0 1 = cc in absurd (omega arith)
two_is Both e at f g h st = let z : ◌≡◌ {A = ℕ} 0 1 = cc in absurd (omega arith)
two_is Bracket e at f g h st = refl
two_is Fork e at f g h st = let z : ◌≡◌ {A = ℕ} 0 1 = cc in absurd (omega arith)
two_is Unlisted e at f g h st = let z : ◌≡◌ {A = ℕ} 0 1 = cc in absurd (omega arith)

-- where no nodes are left the end is reached
count-more : (s : List ℕ) (a e : ℕ) → a < e → 0 < count (forest s a e)
unfolding count
count-more s a e h = rw (forest-more s a e h) (omega arith)

pub none_left : (s : List ℕ) (a e : ℕ) → a ≤ e → count (forest s a e) ≡ 0 → a ≡ e
unfolding count
none_left s a e l q =
    ⊎_elim (λ (h : a < e). absurd (omega (arith, q, count-more s a e h))) (λ (h : e ≤ a). omega arith) (below a e)

module _ (s : List ℕ) (a e left : ℕ) (t : Stretch s a e true left) where
  -- an empty stretch at its end
  end-ok : ok_nodes true (forest s e e) ≡ true
  unfolding ok_nodes
  end-ok = rw (forest-none s e e (omega arith))

  end_low : height (forest s e e) ≤ left
  unfolding height
  end_low = rw (forest-none s e e (omega arith)) (omega arith)

  stretch-end : Stretch s e e true left
  stretch-end = record { order = omega arith; room = t.room; few = t.few; ok = end-ok; low = end_low }

  module _ (l : a < e) where
    -- the first body by itself
    pub first_run : (k : ℕ) (st : State) → walk_of s a (next_of s a) k st ≡ (runner_at s a).run k st
    first_run k st =
        let f = stretch-first s a e true left t l in
        walk_step s a (next_of s a) true left f (omega arith) k st
        ∙ then_same ((runner_at s a).run k st) _ _ (λ x. walk_none s (next_of s a) (next_of s a) k x (omega arith))
        ∙ then-went ((runner_at s a).run k st)

  -- one body is all there is
  one-all : count (forest s a e) ≡ 1 → (a < e) × (next_of s a ≡ e) × (runners a (forest s a e) ≡ runner_at s a ∷ [])
  one-all q =
      let l = some s a e (omega (arith, q)) in
      let c = stretch-count s a e true left t l in
      let z = none_left s (next_of s a) e (stretch-next s a e true left t l) (omega (arith, q, c)) in
      (l, z, runners-split s a e true left t l ∙ ap (λ rs. runner_at s a ∷ rs) (runners-none s (next_of s a) e (omega (arith, z))))

module _ (s : List ℕ) (a e left : ℕ) (t : Stretch s a e true left) where
  -- two bodies are all there is
  two-all : count (forest s a e) ≡ 2 → (a < e) × (next_of s a < e) × (next_of s (next_of s a) ≡ e) × (runners a (forest s a e) ≡ runner_at s a ∷ runner_at s (next_of s a) ∷ [])
  two-all q =
      let l = some s a e (omega (arith, q)) in
      let c = stretch-count s a e true left t l in
      let u = stretch-after s a e true left t l in
      let w = one-all s (next_of s a) e left u (omega (arith, q, c)) in
      (l, w.0, w.1, runners-split s a e true left t l ∙ ap (λ rs. runner_at s a ∷ rs) w.2)

both : {w w' : Walked} {f g : State → Walked} → w ≡ w' → ((st : State) → f st ≡ g st) → and_then w' g ≡ and_then w f
both {w} {w'} {f} {g} p h = rw p (then_same w' g f (λ st. sym (h st)))

-- what is run, by stretches: f from a up to m, g from m up to e
planned-by : (s : List ℕ) (a m e n : ℕ) (f g : Runner)
    → ((k : ℕ) (st : State) → walk_of s a m k st ≡ f.run k st)
    → ((k : ℕ) (st : State) → walk_of s m e k st ≡ g.run k st)
    → ((k : ℕ) (st : State) → walk_of s e e k st ≡ went st)
    → (d : Modifier) (h : ℕ) (ss : List Sum) (st : State) → ran_by d f g h ss st ≡ planned s (plan_by d n a m e) h ss st
planned-by s a m e n f g p q z Dip h ss st = both (p (h + total ss) st) (λ x. z h (back_to ss x))
planned-by s a m e n f g p q z Gap h ss st = both (p (h + total ss) st) (λ x. z h (back_to ss x))
planned-by s a m e n f g p q z On h ss st = both (p (h + total ss) st) (λ x. z h (back_to ss x))
planned-by s a m e n f g p q z By h ss st = both (p (h + total ss) st) (λ x. z h (back_to ss x))
planned-by s a m e n f g p q z Both h ss st = both (p (h + total ss) st) (λ x. p h (back_to ss x))
planned-by s a m e n f g p q z Bracket h ss st = both (q (h + total ss) st) (λ x. p h (back_to ss x))
planned-by s a m e n f g p q z Fork h ss st = both (p (h + total ss) st) (λ x. z h (back_to ss x))
planned-by s a m e n f g p q z Unlisted h ss st = both (p (h + total ss) st) (λ x. z h (back_to ss x))

-- ---- how many bodies there are

pub runners-length : (at : ℕ) (ns : Nodes) → length (runners at ns) ≡ count ns
unfolding runners count
runners-length at end = refl
runners-length at (rec r ns ms) = ap suc (runners-length (at + 1 + size ns) ms)

one-wrong : (at : ℕ) (fs : List Runner) (st : State) (k : Runner → Walked) → (length fs ≡ 1 → ⊥) → one_body at fs st k ≡ stop at InterpreterBug st
one-wrong at [] st k h = refl
one-wrong at (f ∷ []) st k h = absurd (h refl)
one-wrong at (f ∷ g ∷ fs) st k h = refl

two-wrong : (at : ℕ) (fs : List Runner) (st : State) (k : Runner → Runner → Walked) → (length fs ≡ 2 → ⊥) → two_bodies at fs st k ≡ stop at InterpreterBug st
two-wrong at [] st k h = refl
two-wrong at (f ∷ []) st k h = refl
two-wrong at (f ∷ g ∷ []) st k h = absurd (h refl)
two-wrong at (f ∷ g ∷ e ∷ fs) st k h = refl

wrong-one : (m : Modifier) → way_of m ≡ way.One → (at : ℕ) (fs : List Runner) (h : ℕ) (st : State) → (length fs ≡ 1 → ⊥) → modifier at m fs h st ≡ stop at InterpreterBug st
unfolding modifier
wrong-one Dip e at fs h st n = one-wrong at fs st _ n
wrong-one Gap e at fs h st n = one-wrong at fs st _ n
wrong-one On e at fs h st n = one-wrong at fs st _ n
wrong-one By e at fs h st n = one-wrong at fs st _ n
wrong-one Both e at fs h st n = one-wrong at fs st _ n
wrong-one Bracket e at fs h st n = let z : ◌≡◌ {A = ℕ} 0 1 = cc in absurd (omega arith)
wrong-one Fork e at fs h st n = let z : ◌≡◌ {A = ℕ} 0 1 = cc in absurd (omega arith)
wrong-one Unlisted e at fs h st n = let z : ◌≡◌ {A = ℕ} 0 1 = cc in absurd (omega arith)

wrong-two : (m : Modifier) → way_of m ≡ way.Two → (at : ℕ) (fs : List Runner) (h : ℕ) (st : State) → (length fs ≡ 2 → ⊥) → modifier at m fs h st ≡ stop at InterpreterBug st
unfolding modifier
wrong-two Dip e at fs h st n = let z : ◌≡◌ {A = ℕ} 0 1 = cc in absurd (omega arith)
wrong-two Gap e at fs h st n = let z : ◌≡◌ {A = ℕ} 0 1 = cc in absurd (omega arith)
wrong-two On e at fs h st n = let z : ◌≡◌ {A = ℕ} 0 1 = cc in absurd (omega arith)
wrong-two By e at fs h st n = let z : ◌≡◌ {A = ℕ} 0 1 = cc in absurd (omega arith)
wrong-two Both e at fs h st n = let z : ◌≡◌ {A = ℕ} 0 1 = cc in absurd (omega arith)
wrong-two Bracket e at fs h st n = two-wrong at fs st _ n
wrong-two Fork e at fs h st n = let z : ◌≡◌ {A = ℕ} 0 1 = cc in absurd (omega arith)
wrong-two Unlisted e at fs h st n = let z : ◌≡◌ {A = ℕ} 0 1 = cc in absurd (omega arith)

-- ---- what is done with a modifier

use-if : (b : Bool) (n asked : ℕ) → eqb n asked ≡ b → (s : List ℕ) (at : ℕ) (r : Record) (u : Use) → u ≡ cond b Bodies (Refused InterpreterBug)
    → (n ≡ asked → UsedAs Bodies s at r) → ((n ≡ asked → ⊥) → UsedAs (Refused InterpreterBug) s at r) → UsedAs u s at r
use-if true n asked e s at r u q fits misses = rw q (fits (eqb-true n asked e))
use-if false n asked e s at r u q fits misses = rw q (misses (eqb-false n asked e))

module _ (s : List ℕ) (at : ℕ) (r : Record) (n : ℕ) (c : n ≡ count (forest s (at + 1) (at + 1 + r.inside))) (u : Use) where
  long : length (runners (at + 1) (forest s (at + 1) (at + 1 + r.inside))) ≡ n
  long = rw c (runners-length (at + 1) (forest s (at + 1) (at + 1 + r.inside)))

  pub use-one : way_of (modifier_of r.code) ≡ way.One → u ≡ cond (eqb n 1) Bodies (Refused InterpreterBug) → UsedAs u s at r
  use-one w q =
      use-if (eqb n 1) n 1 refl s at r u q (λ e. inl (w, omega (arith, c))) (λ e h st. wrong-one (modifier_of r.code) w at _ h st (λ l. e (omega (arith, l, long))))

  pub use-two : way_of (modifier_of r.code) ≡ way.Two → u ≡ cond (eqb n 2) Bodies (Refused InterpreterBug) → UsedAs u s at r
  use-two w q =
      use-if (eqb n 2) n 2 refl s at r u q (λ e. inr (w, omega (arith, c))) (λ e h st. wrong-two (modifier_of r.code) w at _ h st (λ l. e (omega (arith, l, long))))

pub is-fork : (m : Modifier) → way_of m ≡ way.Any → m ≡ Fork
is-fork Dip e = let z : ◌≡◌ {A = ℕ} 0 1 = cc in absurd (omega arith)
is-fork Gap e = let z : ◌≡◌ {A = ℕ} 0 1 = cc in absurd (omega arith)
is-fork On e = let z : ◌≡◌ {A = ℕ} 0 1 = cc in absurd (omega arith)
is-fork By e = let z : ◌≡◌ {A = ℕ} 0 1 = cc in absurd (omega arith)
is-fork Both e = let z : ◌≡◌ {A = ℕ} 0 1 = cc in absurd (omega arith)
is-fork Bracket e = let z : ◌≡◌ {A = ℕ} 0 1 = cc in absurd (omega arith)
is-fork Fork e = refl
is-fork Unlisted e = let z : ◌≡◌ {A = ℕ} 0 1 = cc in absurd (omega arith)

pub not_listed : (m : Modifier) → way_of m ≡ way.Unlisted → (at : ℕ) (fs : List Runner) (h : ℕ) (st : State) → modifier at m fs h st ≡ stop at NotSupported st
unfolding modifier
not_listed Dip e at fs h st = let z : ◌≡◌ {A = ℕ} 0 1 = cc in absurd (omega arith)
not_listed Gap e at fs h st = let z : ◌≡◌ {A = ℕ} 0 1 = cc in absurd (omega arith)
not_listed On e at fs h st = let z : ◌≡◌ {A = ℕ} 0 1 = cc in absurd (omega arith)
not_listed By e at fs h st = let z : ◌≡◌ {A = ℕ} 0 1 = cc in absurd (omega arith)
not_listed Both e at fs h st = let z : ◌≡◌ {A = ℕ} 0 1 = cc in absurd (omega arith)
not_listed Bracket e at fs h st = let z : ◌≡◌ {A = ℕ} 0 1 = cc in absurd (omega arith)
not_listed Fork e at fs h st = let z : ◌≡◌ {A = ℕ} 0 1 = cc in absurd (omega arith)
not_listed Unlisted e at fs h st = refl

-- ---- plans are followed

-- a plan has the arguments it was given
args_by : (m : Modifier) (n a b e : ℕ) → (plan_by m n a b e).args ≡ n
args_by Dip n a b e = refl
args_by Gap n a b e = refl
args_by On n a b e = refl
args_by By n a b e = refl
args_by Both n a b e = refl
args_by Bracket n a b e = refl
args_by Fork n a b e = refl
args_by Unlisted n a b e = refl

-- what holds of every stretch that a plan may have
module _ (P : ℕ → ℕ → Type 0) (a b e n : ℕ) (x : P a b) (y : P b e) (z : P e e) where
  first_by : (m : Modifier) → P (plan_by m n a b e).from (plan_by m n a b e).to
  first_by Dip = x
  first_by Gap = x
  first_by On = x
  first_by By = x
  first_by Both = x
  first_by Bracket = y
  first_by Fork = x
  first_by Unlisted = x

  then_by : (m : Modifier) → P (plan_by m n a b e).again (plan_by m n a b e).until
  then_by Dip = z
  then_by Gap = z
  then_by On = z
  then_by By = z
  then_by Both = x
  then_by Bracket = x
  then_by Fork = z
  then_by Unlisted = z

-- a stretch as it is run
abbrev run_of : List ℕ → ℕ → ℕ → Runner
run_of s a e = record { args = 0; run = λ k st. walk_of s a e k st }

module _ (s : List ℕ) (at : ℕ) (r : Record) (left : ℕ) (t : Stretch s (at + 1) (at + 1 + r.inside) true left) where
  abbrev m : Modifier
  m = modifier_of r.code

  abbrev a : ℕ
  a = at + 1

  abbrev e : ℕ
  e = at + 1 + r.inside

  abbrev plan : Plan
  plan = plan_by m (rec_at s a).args a (next_of s a) e

  empty : (k : ℕ) (st : State) → walk_of s e e k st ≡ went st
  empty k st = walk_none s e e k st (omega arith)

  same-one : way_of m ≡ way.One → count (forest s a e) ≡ 1 → (h : ℕ) (st : State) → modified s at r h st ≡ begin m (rec_at s a).args at h st (planned s plan h)
  same-one w c h st =
      let o = one-all s a e left t c in
      let g = run_of s (next_of s a) e in
      rw o.2
      (one-is m w at (runner_at s a) g h st
      ∙ begin-same m (rec_at s a).args at h st (ran_by m (runner_at s a) g h) (planned s plan h)
      (planned-by s a (next_of s a) e (rec_at s a).args (runner_at s a) g (first_run s a e left t o.0) (λ k x. refl) empty m h))

  same-two : way_of m ≡ way.Two → count (forest s a e) ≡ 2 → (h : ℕ) (st : State) → modified s at r h st ≡ begin m (rec_at s a).args at h st (planned s plan h)
  same-two w c h st =
      let o = two-all s a e left t c in
      let u = stretch-after s a e true left t o.0 in
      let g = runner_at s (next_of s a) in
      rw o.3
      (two_is m w at (runner_at s a) g h st
      ∙ begin-same m (rec_at s a).args at h st (ran_by m (runner_at s a) g h) (planned s plan h)
      (planned-by s a (next_of s a) e (rec_at s a).args (runner_at s a) g (first_run s a e left t o.0) (λ k x. rw (← o.2) (first_run s (next_of s a) e left u o.1 k x)) empty m h))

  follows_by : UsedAs Bodies s at r → (a < e) × ((h : ℕ) (st : State) → modified s at r h st ≡ begin m (rec_at s a).args at h st (planned s plan h))
  follows_by (inl (w, c)) = ((one-all s a e left t c).0, same-one w c)
  follows_by (inr (w, c)) = ((two-all s a e left t c).0, same-two w c)

  second-one : UsedAs Bodies s at r → AtMostOne s (next_of s a) e
  second-one (inl (w, c)) l = let o = one-all s a e left t c in absurd (omega (arith, l, o.1))
  second-one (inr (w, c)) l = (two-all s a e left t c).2

  pub plan-follows : UsedAs Bodies s at r → (a < e) × Follows s at r left plan
  plan-follows u =
      let f = follows_by u in
      let x = stretch-first s a e true left t f.0 in
      let y = stretch-after s a e true left t f.0 in
      let z = stretch-end s a e left t in
      let n = (rec_at s a).args in
      let Of : ℕ → ℕ → Type 0 = λ i j. Stretch s i j true left in
      let one : (i : ℕ) → AtMostOne s i i = λ i l. absurd (omega arith) in (
        f.0,
        record {
          first = first_by Of a (next_of s a) e n x y z m;
          then = then_by Of a (next_of s a) e n x y z m;
          first_one = first_by (AtMostOne s) a (next_of s a) e n (λ l. refl) (second-one u) (one e) m;
          then_one = then_by (AtMostOne s) a (next_of s a) e n (λ l. refl) (second-one u) (one e) m;
          same = λ h st. rw (args_by m n a (next_of s a) e) (f.1 h st);
        },
      )

-- there is a first body
pub bodies-some : (s : List ℕ) (at : ℕ) (r : Record) → UsedAs Bodies s at r → at + 1 < at + 1 + r.inside
bodies-some s at r (inl (w, c)) = some s (at + 1) (at + 1 + r.inside) (omega (arith, c))
bodies-some s at r (inr (w, c)) = some s (at + 1) (at + 1 + r.inside) (omega (arith, c))

-- the plan that the code makes
pub plan-made : (s : List ℕ) (at : ℕ) (r f : Record) (m : Modifier) (n left : ℕ) (p : Plan) → p ≡ plan_by m n (at + 1) (at + 1 + 1 + f.inside) (at + 1 + r.inside)
    → m ≡ modifier_of r.code → n ≡ f.args → f ≡ rec_at s (at + 1) → UsedAs Bodies s at r → Stretch s (at + 1) (at + 1 + r.inside) true left → Follows s at r left p
plan-made s at r f m n left p e q k g u t = rw e (rw q (rw k (rw g (plan-follows s at r left t u).1)))
