-- Records inside a record that are run in turn, and those that come after it, walked as one stretch: they stand one behind the other. Assumes nothing.
use Prim.Native.Nat.{ℕ, zero, suc, ◌+◌, ◌-◌, ◌≤◌, ◌<◌}
use native.Mathlib.Omega.{arith}
use mathlib.Core.Path.{◌≡◌, refl, sym, ap, subst, ◌∙◌}
use mathlib.Core.Bool.{Bool, true, false, beq}
use mathlib.Core.Logic.{⊎_elim}
use mathlib.Core.List.{List}
use borrow.Author.Tests.{eq-eqb, eqb-true, ne_eqb}
use Rattle.formats.specs.declared.record.Kind.{Kind}
use Rattle.std.specs.Prelude.{Option, Some, None}
use Rattle.formats.specs.declared.record.Record.{Record}
use Rattle.formats.specs.declared.record.Kind.TheVariants as kind
use Rattle.formats.specs.Names.{kind_of, kind_no}
use Rattle.formats.specs.Tree.{Nodes, rec, size, rec_at, next_of}
use Rattle.formats.specs.Rules.{is_a, ok_nodes}
use Rattle.formats.specs.Contract.Walk.{Stretch}
use Rattle.formats.proofs.record.Names.{kind-back, kind-found}
use Rattle.formats.proofs.record.Forest.{below}
use Rattle.formats.proofs.record.Fit.{Told, forest-split, height-split}
use Rattle.formats.proofs.record.Walk.{stretch-next, stretch-told, stretch-inside, stretch-after}
use Rattle.stack.specs.State.{State, Walked, went, and_then}
use Rattle.stack.proofs.Laws.{then-then}
use Rattle.modifiers.specs.Reading.{step_of, inside_of}
use Rattle.modifiers.specs.Contract.Walks.{walk_of}
use Rattle.modifiers.specs.declared.Inside.{Inside}
use Rattle.modifiers.specs.declared.Inside.TheVariants as inside
use Rattle.modifiers.proofs.Runs.{runner_at, walk_step, walk_none, then-went}
use Rattle.modifiers.proofs.Plans.{then_same}
use Rattle.reading.specs.Contract.Quick.{has_nodes}
use Rattle.reading.specs.Contract.Runs.{OneBody}

beq_same : (b : Bool) → beq b b ≡ true
beq_same true = refl
beq_same false = refl

-- what a record tells, and other nodes after it
ok-other : (b : Bool) (r : Record) (ns ms ms' : Nodes) → Told b r ns ms → ok_nodes b ms' ≡ true → ok_nodes b (rec r ns ms') ≡ true
unfolding ok_nodes
ok-other b r ns ms ms' t o = rw t.fields (rw t.body (rw (beq_same b) (rw t.inside (rw (eq-eqb (size ns) (size ns) refl) (rw t.inner o)))))

abbrev Joined : List ℕ → ℕ → ℕ → ℕ → ℕ → Type 0
Joined s a m e levels = Stretch s a e false levels × ((h : ℕ) (st : State) → walk_of s a e h st ≡ and_then (walk_of s a m h st) (λ st'. walk_of s m e h st'))

none-joined : (s : List ℕ) (a m e levels : ℕ) → Stretch s a m false levels → Stretch s m e false levels → m ≤ a → Joined s a m e levels
none-joined s a m e levels t u q =
    let same : m ≡ a = omega (arith, t.order) in
    (subst (λ (x : ℕ). Stretch s x e false levels) same u, λ h st. rw (walk_none s a m h st q) (ap (λ (x : ℕ). walk_of s x e h st) (sym same)))

more-joined : (s : List ℕ) (a m e levels : ℕ) → Stretch s a m false levels → Stretch s m e false levels → a < m → Joined s (next_of s a) m e levels → Joined s a m e levels
more-joined s a m e levels t u q rest =
    let next = stretch-next s a m false levels t q in
    let ends : next_of s a ≤ e = omega (arith, next, u.order) in
    let whole : Stretch s a e false levels =
    record {
      order = omega arith;
      room = u.room;
      few = u.few;
      ok = rw (forest-split s a e (omega arith) ends) (ok-other false (rec_at s a) _ _ _ (stretch-told s a m false levels t q) rest.0.ok);
      low = omega (arith, t.low, rest.0.low, height-split s a m q next, height-split s a e (omega arith) ends);
    } in (
      whole,
      λ h st.
          walk_step s a e false levels whole (omega arith) h st
          ∙ then_same ((runner_at s a).run h st) _ _ (λ st'. rest.1 h st')
          ∙ sym (ap (λ (w : Walked). and_then w (λ st'. walk_of s m e h st')) (walk_step s a m false levels t q h st)
          ∙ then-then ((runner_at s a).run h st) (λ st'. walk_of s (next_of s a) m h st') (λ st'. walk_of s m e h st')),
    )

-- two stretches, of which one begins where the other ends, are one
joined : (s : List ℕ) (n a m e levels : ℕ) → m ≤ a + n → Stretch s a m false levels → Stretch s m e false levels → Joined s a m e levels
joined s zero a m e levels room t u = none-joined s a m e levels t u (omega arith)
joined s (suc n) a m e levels room t u =
    ⊎_elim
    (λ (q : a < m). more-joined s a m e levels t u q (joined s n (next_of s a) m e levels (omega arith) (stretch-after s a m false levels t q) u))
    (λ (q : m ≤ a). none-joined s a m e levels t u q)
    (below a m)

-- a record that has nodes inside has no bodies inside
no-bodies : (r : Record) → inside_of (kind_of r.kind) ≡ inside.Nodes → is_a r kind.Modifier ≡ false
no-bodies r q = ne_eqb r.kind (kind_no kind.Modifier) (λ e. differ (sym (ap inside_of (ap kind_of e ∙ kind-back kind.Modifier)) ∙ q))
  where
    differ : inside.Bodies ≡ inside.Nodes → ⊥
    differ e = let z : ◌≡◌ {A = ℕ} 0 1 = cc in omega arith

nodes-only : (x : Inside) → has_nodes x ≡ true → x ≡ inside.Nodes
nodes-only inside.Nothing e = let z : ◌≡◌ {A = ℕ} 0 1 = cc in absurd (omega arith)
nodes-only inside.Nodes e = refl
nodes-only inside.Bodies e = let z : ◌≡◌ {A = ℕ} 0 1 = cc in absurd (omega arith)

-- the first record has nodes inside: what is left to walk stands right behind it
module _ (s : List ℕ) (at to : ℕ) (b : Bool) (levels : ℕ) (r : Record) (t : Stretch s at to b levels) (one : OneBody s at to b) (l : at < to) (e : r ≡ rec_at s at)
    (q : has_nodes (inside_of (kind_of r.kind)) ≡ true) where
  nodes : inside_of (kind_of (rec_at s at).kind) ≡ inside.Nodes
  nodes = nodes-only _ (rw (← e) q)

  inner : Stretch s (at + 1) (next_of s at) false levels
  inner =
      let u = subst (λ (x : Bool). Stretch s (at + 1) (next_of s at) x (levels - 1)) (no-bodies (rec_at s at) nodes) (stretch-inside s at to b levels t l) in
      record { order = u.order; room = u.room; few = u.few; ok = u.ok; low = omega (arith, u.low) }

  first : (h : ℕ) (st : State) → walk_of s at to h st ≡ and_then (walk_of s (at + 1) (next_of s at) h st) (λ st'. walk_of s (next_of s at) to h st')
  unfolding step_of
  first h st = walk_step s at to b levels t l h st ∙ rw nodes refl

  pub descended : Stretch s (at + 1) to false levels × ((h : ℕ) (st : State) → walk_of s at to h st ≡ walk_of s (at + 1) to h st)
  descended = go b t one
    where
      go : (x : Bool) → Stretch s at to x levels → OneBody s at to x → Stretch s (at + 1) to false levels × ((h : ℕ) (st : State) → walk_of s at to h st ≡ walk_of s (at + 1) to h st)
      go true u o =
          let ends = o refl l in (
            subst (λ (x : ℕ). Stretch s (at + 1) x false levels) ends inner,
            λ h st.
                first h st ∙ then_same (walk_of s (at + 1) (next_of s at) h st) _ went (λ st'. walk_none s (next_of s at) to h st' (omega arith)) ∙ then-went (walk_of s (at + 1) (next_of s at) h st)
                ∙ ap (λ (x : ℕ). walk_of s (at + 1) x h st) ends,
          )
      go false u o =
          let both = joined s (next_of s at) (at + 1) (next_of s at) to levels (omega arith) inner (stretch-after s at to false levels u l) in
          (both.0, λ h st. first h st ∙ sym (both.1 h st))

-- a record that has neither nodes nor bodies inside has nothing inside
pub nothing-else : (r : Record) (x : Bool) → x ≡ is_a r kind.Modifier → x ≡ false → has_nodes (inside_of (kind_of r.kind)) ≡ false → inside_of (kind_of r.kind) ≡ inside.Nothing
nothing-else r x p q h = by (kind_of r.kind) (λ e. no-modifier (eq-eqb r.kind (kind_no kind.Modifier) (sym (kind-found r.kind kind.Modifier e)))) h
  where
    no-modifier : is_a r kind.Modifier ≡ true → ⊥
    no-modifier e = let z : ◌≡◌ {A = ℕ} 0 1 = cc in omega arith

    by : (k : Option Kind) → (k ≡ Some kind.Modifier → ⊥) → has_nodes (inside_of k) ≡ false → inside_of k ≡ inside.Nothing
    by (Some kind.Modifier) n e = absurd (n refl)
    by (Some kind.Body) n e = let z : ◌≡◌ {A = ℕ} 0 1 = cc in absurd (omega arith)
    by (Some kind.Run) n e = let z : ◌≡◌ {A = ℕ} 0 1 = cc in absurd (omega arith)
    by (Some kind.CustomInverse) n e = let z : ◌≡◌ {A = ℕ} 0 1 = cc in absurd (omega arith)
    by (Some kind.RealPush) n e = refl
    by (Some kind.ComplexPush) n e = refl
    by (Some kind.ArrayPush) n e = refl
    by (Some kind.OtherPush) n e = refl
    by (Some kind.Primitive) n e = refl
    by (Some kind.Obverse) n e = refl
    by (Some kind.NoNormal) n e = refl
    by (Some kind.UnderMarker) n e = refl
    by (Some kind.AnythingElse) n e = refl
    by None n e = refl

-- a modifier has bodies inside
pub bodies-inside : (r : Record) (x : Bool) → x ≡ is_a r kind.Modifier → x ≡ true → inside_of (kind_of r.kind) ≡ inside.Bodies
bodies-inside r x p q = ap inside_of (ap kind_of (eqb-true r.kind (kind_no kind.Modifier) (sym p ∙ q)) ∙ kind-back kind.Modifier)
