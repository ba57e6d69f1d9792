-- The cost of a list, beside what reads it and what runs it. Assumes nothing.
use Prim.Native.Nat.{ℕ, suc, ◌+◌, ◌*◌, ◌/◌, ◌≤◌, ◌<◌, min}
use native.Mathlib.Omega.{arith}
use mathlib.Core.Path.{◌≡◌, refl, sym, ap, subst, ◌∙◌}
use mathlib.Core.Bool.{Bool, true, false, cond}
use mathlib.Core.List.{List, [], ◌∷◌}
use lib.Dec.{leb, eqb}
use lib.ListN.{length}
use borrow.Author.Tests.{eqb-true, leb-true, leb-false}
use lib.Ieee.{Float}
use lib.Ieee.Scale.{finite}
use Rattle.running.proofs.Steps.{same-steps}
use Rattle.formats.specs.declared.record.Kind.{Kind}
use Rattle.limits.specs.declared.Refusal.{Refusal}
use Rattle.limits.specs.Refusals.{refusal_no}
use Rattle.limits.proofs.Refusals.{numbered}
use Rattle.sums.specs.Tree.Sums.{Sum}
use Rattle.formats.specs.declared.record.Record.{Record}
use Rattle.formats.specs.declared.record.Kind.TheVariants as kind
use Rattle.formats.specs.declared.record.Modifier.{Modifier}
use Rattle.formats.specs.declared.record.Modifier.TheVariants.{On}
use Rattle.formats.specs.Names.{kind_of, modifier_of, modifier_no}
use Rattle.formats.specs.Rules.{verdict, Verdict}
use Rattle.formats.specs.Tree.{Nodes, end, rec, size, count, parse, forest}
use Rattle.formats.proofs.record.Names.{modifier-back}
use Rattle.formats.proofs.record.Forest.{size-forest}
use Rattle.formats.proofs.record.Theorem as lists
use Rattle.running.specs.declared.Deed.{Deed}
use Rattle.running.specs.declared.Deed.TheVariants.{Pushes, Works}
use Rattle.running.specs.Primitives.{Act, went, stop, act, way_of}
use Rattle.running.specs.Running as answers
use Rattle.running.specs.Running.{Running, Out, done, refused_at, and_then, if_room, settle, copied, give_back, modify, stepped, run_by, runs, last_of, ended, start, run_nodes, judged, run_list, RunAnswer}
use Rattle.modifiers.specs.Reading as bodies
use Rattle.modifiers.specs.Reading.{inside_of, read_nodes}
use Rattle.std.specs.Prelude.{Result, Ok, Err, Option, Some, None}
use Rattle.reading.specs.Cost.Cost as cost
use Rattle.reading.specs.Cost.Cost.{most_steps, times_of, inside_times, own_cost, cost_of, cost_list, cost_numbers}
use Rattle.reading.specs.Cost.Counting.{ran}
use Rattle.reading.proofs.cost.Theorem.{tells}
use Rattle.reading.proofs.cost.Pairs.{pairs-most}
use Rattle.algebra.specs.declared.ReadAnswer.TheVariants as answer
use Rattle.algebra.specs.Reading.{by_verdict, read_list}
use Rattle.algebra.specs.Replies as entry
use Rattle.algebra.specs.Replies.{of_cost}
use Rattle.uplink.specs.Told.{Told, with_cost}
use Rattle.theorems.specs.Composing.{ReadGives}
use Rattle.theorems.specs.Cost.{CostOfEntries, Limited}
use Rattle.theorems.proofs.Composing.{read_told}

-- ---- run

-- so many steps more, and no more than there are records
abbrev Took : Running → Running → ℕ → ℕ → Type 0
Took st v cost records = (v.steps ≡ st.steps + cost) × (cost ≤ records)

never : {q : Refusal} {at : ℕ} {v : Running} → refused_at q at ≡ done v → ⊥
never e = let z : ◌≡◌ {A = ℕ} 0 1 = cc in omega arith

then-done : (o : Out) (f : Running → Out) (v : Running) → and_then o f ≡ done v → (m : Running) × (o ≡ done m) × (f m ≡ done v)
then-done (done m) f v e = (m, refl, e)
then-done (refused_at q at) f v e = absurd (never e)

steps-done : {st v : Running} → done st ≡ done v → v.steps ≡ st.steps
steps-done {st} {v} e = ap (λ (u : Running). u.steps) (sym (is e))
  where
    is : done st ≡ done v → st ≡ v
    is d = cc

settle-steps : (h at : ℕ) (st v : Running) (a : Act) → settle h at st a ≡ done v → v.steps ≡ st.steps + 1
settle-steps h at st v (stop q) e = absurd (never e)
settle-steps h at st v (went s) e = go (leb (length s + h) 256) e
  where
    go : (b : Bool) → if_room b (length s + h) at s st ≡ done v → v.steps ≡ st.steps + 1
    go true d = steps-done d
    go false d = absurd (never d)

give-steps : (s : List Float) (st v : Running) → give_back s st ≡ done v → v.steps ≡ st.steps
give-steps [] st v e = steps-done e
give-steps (a ∷ s) st v e = steps-done e

-- On alone is run, with one body
on-steps : (on one : Bool) (h at cost records : ℕ) (inner : ℕ → Running → Out) (st v : Running) → ((k : ℕ) (u w : Running) → inner k u ≡ done w → Took u w cost records)
    → modify on one h at inner st ≡ done v → (on ≡ true) × (one ≡ true) × Took st v (suc cost) (suc records)
on-steps false one h at cost records inner st v q e = absurd (never e)
on-steps true false h at cost records inner st v q e = absurd (never e)
on-steps true true h at cost records inner st v q e =
    let t = then-done (settle (h + 1) at st (copied st.stack)) (λ u. and_then (inner (h + 1) u) (give_back st.stack)) v e in
    let s = then-done (inner (h + 1) t.0) (give_back st.stack) v t.2 in
    let k = q (h + 1) t.0 s.0 s.1 in
    (refl, refl, (omega (arith, settle-steps (h + 1) at st t.0 (copied st.stack) t.1, k.0, give-steps st.stack s.0 v s.2), omega (arith, k.1)))

module _ (r : Record) (ns : Nodes) (at h : ℕ) (st v : Running) (inner : ℕ → Running → Out) (took : (k : ℕ) (u w : Running) → inner k u ≡ done w → Took u w (cost_of ns) (size ns)) where
  once : {times : ℕ} → times ≡ 1 → Took st v (suc (cost_of ns)) (suc (size ns)) → Took st v (suc (times * cost_of ns)) (suc (size ns))
  once e t = rw e (omega (arith, t.0), omega (arith, t.1))

  of-on : eqb r.code (modifier_no On) ≡ true → eqb (count ns) 1 ≡ true → times_of (modifier_of r.code) (count ns) ≡ 1
  of-on o c = ap (λ (m : Modifier). times_of m (count ns)) (ap modifier_of (eqb-true r.code (modifier_no On) o) ∙ modifier-back On) ∙ rw c

  modifies : modify (eqb r.code (modifier_no On)) (eqb (count ns) 1) h at inner st ≡ done v → Took st v (suc (times_of (modifier_of r.code) (count ns) * cost_of ns)) (suc (size ns))
  modifies e = let o = on-steps (eqb r.code (modifier_no On)) (eqb (count ns) 1) h at (cost_of ns) (size ns) inner st v took e in once (of-on o.0 o.1) o.2

  within : inner h (stepped st) ≡ done v → Took st v (suc (1 * cost_of ns)) (suc (size ns))
  within e = let k = took h (stepped st) v e in (omega (arith, k.0), omega (arith, k.1))

  alone : (d : Deed) → settle h at st (act d r st.stack) ≡ done v → Took st v (suc (0 * cost_of ns)) (suc (size ns))
  alone d e = (omega (arith, settle-steps h at st v (act d r st.stack) e), omega arith)

  by_kind : (k : Option Kind) → run_by (way_of k) r ns inner at h st ≡ done v → Took st v (suc (inside_times (inside_of k) r ns * cost_of ns)) (suc (size ns))
  unfolding act
  by_kind (Some kind.Modifier) e = modifies e
  by_kind (Some kind.Body) e = within e
  by_kind (Some kind.Run) e = within e
  by_kind (Some kind.RealPush) e = alone Pushes e
  by_kind (Some kind.Primitive) e = alone Works e
  by_kind (Some kind.CustomInverse) e = absurd (never e)
  by_kind (Some kind.ComplexPush) e = absurd (never e)
  by_kind (Some kind.ArrayPush) e = absurd (never e)
  by_kind (Some kind.OtherPush) e = absurd (never e)
  by_kind (Some kind.Obverse) e = absurd (never e)
  by_kind (Some kind.NoNormal) e = absurd (never e)
  by_kind (Some kind.UnderMarker) e = absurd (never e)
  by_kind (Some kind.AnythingElse) e = absurd (never e)
  by_kind None e = absurd (never e)

runs-took : (ns : Nodes) (at h : ℕ) (st v : Running) → runs ns at h st ≡ done v → Took st v (cost_of ns) (size ns)
unfolding runs cost_of size
runs-took end at h st v e = (omega (arith, steps-done e), omega arith)
runs-took (rec r ns ms) at h st v e =
    let t = then-done (run_by (way_of (kind_of r.kind)) r ns (runs ns (at + 1)) at h st) (runs ms (at + 1 + size ns) h) v e in
    let a = by_kind r ns at h st t.0 (runs ns (at + 1)) (λ k u w d. runs-took ns (at + 1) k u w d) (kind_of r.kind) t.1 in
    let b = runs-took ms (at + 1 + size ns) h t.0 v t.2 in
    (omega (arith, a.0, b.0), omega (arith, a.1, b.1))

-- one value is left
ended-done : (o : Out) (v : Float) (n p : ℕ) → ended o ≡ answers.Value v n p → (st : Running) × (o ≡ done st) × (st.steps ≡ n)
ended-done (refused_at q at) v n p e = absurd (let z : ◌≡◌ {A = ℕ} 0 1 = cc in omega arith)
ended-done (done st) v n p e = (st, refl, last st.stack e)
  where
    last : (s : List Float) → last_of s st.steps st.peak ≡ answers.Value v n p → st.steps ≡ n
    last [] d = absurd (let z : ◌≡◌ {A = ℕ} 0 1 = cc in omega arith)
    last (w ∷ []) d = same-steps d
    last (w ∷ u ∷ s) d = absurd (let z : ◌≡◌ {A = ℕ} 0 1 = cc in omega arith)

run-took : (ns : Nodes) (x v : Float) (n p : ℕ) → run_nodes ns x ≡ answers.Value v n p → (cost_of ns ≡ n) × (n ≤ size ns)
unfolding run_nodes
run-took ns x v n p e =
    let o = ended-done (runs ns 0 0 (start x)) v n p e in
    let t = runs-took ns 0 0 (start x) o.0 o.1 in
    (omega (arith, t.0, o.2), omega (arith, t.0, t.1, o.2))

-- a list that keeps the rules has few records
few-records : (l : List ℕ) → verdict l ≡ Ok tt → size (parse l) ≤ 2048
unfolding parse
few-records l g = omega (arith, lists.few l (lists.good-sound l g), size-forest l 0 (length l / 24))

run-cost : (l : List ℕ) (x v : Float) (n p : ℕ) → run_list l x ≡ answers.Value v n p → cost_list l ≡ Ok n
unfolding run_list cost_list
run-cost l x v n p e = go (verdict l) refl (finite x) e
  where
    go : (w : Verdict) → verdict l ≡ w → (b : Bool) → judged w b (parse l) x ≡ answers.Value v n p → cost.judged w (parse l) ≡ Ok n
    go (Err q) g b d = absurd (let z : ◌≡◌ {A = ℕ} 0 1 = cc in omega arith)
    go (Ok tt) g false d = absurd (let z : ◌≡◌ {A = ℕ} 0 1 = cc in omega arith)
    go (Ok tt) g true d = let t = run-took (parse l) x v n p d in ap Ok (omega (arith, t.0, t.1, few-records l g))

-- ---- read

cost-refuses : (l : List ℕ) (q : Refusal) → cost_list l ≡ Err q → read_list l ≡ bodies.refused_at q 0 false
unfolding cost_list read_list
cost-refuses l q e = go (verdict l) e
  where
    go : (v : Verdict) → cost.judged v (parse l) ≡ Err q → by_verdict v (read_nodes (parse l)) ≡ bodies.refused_at q 0 false
    go (Ok tt) d = absurd (let z : ◌≡◌ {A = ℕ} 0 1 = cc in omega arith)
    go (Err p) d = let z : p ≡ q = cc in rw z

nodes-read : (l : List ℕ) (s : Sum) (c h : Bool) (k : ℕ) → read_list l ≡ bodies.done s c h k → read_nodes (parse l) ≡ bodies.done s c h k
unfolding read_list
nodes-read l s c h k e = go (verdict l) e
  where
    go : (v : Verdict) → by_verdict v (read_nodes (parse l)) ≡ bodies.done s c h k → read_nodes (parse l) ≡ bodies.done s c h k
    go (Ok tt) d = d
    go (Err q) d = absurd (let z : ◌≡◌ {A = ℕ} 0 1 = cc in omega arith)

read-cost : (l out out' : List ℕ) (n m k : ℕ) (c : Bool) → cost_list l ≡ Ok n → n < most_steps → ReadGives (read_list l) out out' (answer.Sum m c k) → ran (parse l) ≡ n
read-cost l out out' n m k c e d p =
    let t = read_told (read_list l) p in
    tells.read l n t.s c t.handled t.pairs e d (nodes-read l t.s c t.handled t.pairs t.is)

read_pairs : (l out out' : List ℕ) (n m k : ℕ) (c : Bool) → cost_list l ≡ Ok n → ReadGives (read_list l) out out' (answer.Sum m c k) → k ≤ 258048 * n
read_pairs l out out' n m k c e p = go (leb most_steps n) refl
  where
    go : (b : Bool) → leb most_steps n ≡ b → k ≤ 258048 * n
    go true d = let t = read_told (read_list l) p in omega (arith, t.told, leb-true most_steps n d)
    go false d =
        let t = read_told (read_list l) p in
        let most = pairs-most (parse l) t.s c t.handled t.pairs (nodes-read l t.s c t.handled t.pairs t.is) in
        omega (arith, t.told, most, tells.most l n e (leb-false most_steps n d))

pub cost-of-entries : CostOfEntries
cost-of-entries = record { refuses = cost-refuses; reads = read-cost; pairs = read_pairs; runs = run-cost }

-- ---- the C function

pub limited : Limited
limited l limit place steps k t s = go (cost_list l) refl t.promised.0
  where
    go : (a : Result ℕ Refusal) → cost_list l ≡ a → t.reply ≡ of_cost a → ran (parse l) ≤ limit
    go (Err q) e r = absurd (let z : 0 ≡ refusal_no q = t.returned ∙ ap (λ z. z.number) r in omega (arith, (numbered q).0))
    go (Ok n) e r =
        let z : place ∷ steps ∷ [] ≡ 0 ∷ n ∷ [] = t.told ∙ ap with_cost r in
        let i : steps ≡ n = cc in
        omega (arith, tells.most l n e (omega arith))
