-- A list that is run to a value takes as many steps as it has records. Assumes nothing.
use Prim.Native.Nat.{ℕ, suc, ◌+◌, max}
use native.Mathlib.Omega.{arith}
use mathlib.Core.Path.{◌≡◌, refl, ap, ◌∙◌, sym}
use mathlib.Core.Bool.{Bool, true, false}
use mathlib.Core.List.{List, [], ◌∷◌}
use lib.Dec.{eqb, leb}
use lib.ListN.{length}
use lib.Ieee.{Float}
use lib.Ieee.Scale.{finite}
use borrow.Author.Tests.{eqb-true}
use Rattle.std.specs.Prelude.{Some, Result, Ok, Err}
use Rattle.limits.specs.declared.Refusal.{Refusal}
use Rattle.formats.specs.declared.record.Record.{Record}
use Rattle.formats.specs.declared.record.Kind.{Kind}
use Rattle.formats.specs.declared.record.Kind.TheVariants as kind
use Rattle.formats.specs.declared.record.Modifier.TheVariants.{On}
use Rattle.formats.specs.Names.{kind_no, kind_of, modifier_no}
use Rattle.formats.specs.Tree.{Nodes, end, rec, size, count, forest, parse, records_in}
use Rattle.formats.specs.Rules.{is_a, one_of, used_or_zero, fields_ok, ok_nodes, verdict, Verdict}
use Rattle.formats.proofs.record.Names.{kind-found}
use Rattle.formats.proofs.record.Fit.{told}
use Rattle.formats.proofs.record.Forest.{size-forest}
use Rattle.formats.proofs.record.Walk.{fields-kind, fields-inside, whole-stretch}
use Rattle.running.specs.Primitives.{Act, went, stop, act, way_of}
use Rattle.running.specs.Running.{Running, Out, done, refused_at, and_then, if_room, settle, copied, give_back, modify, stepped, run_by, runs, last_of, ended, start, run_nodes, judged, run_list, RunAnswer, Value}
use Rattle.running.specs.declared.Deed.{Deed}
use Rattle.running.specs.declared.Way.{Way}
use Rattle.running.specs.declared.Way.TheVariants.{Acts, Runs, Modifies}

-- ---- what comes of a run that is done

then-done : (x : Out) (f : Running → Out) (s : Running) → and_then x f ≡ done s → (m : Running) × (x ≡ done m) × (f m ≡ done s)
then-done (done m) f s q = (m, refl, q)
then-done (refused_at r at) f s q = absurd (let z : ◌≡◌ {A = ℕ} 0 1 = cc in omega arith)

room-done : (b : Bool) (n at : ℕ) (l : List Float) (st s : Running) → if_room b n at l st ≡ done s → s.steps ≡ st.steps + 1
room-done true n at l st s q = let e : s ≡ record { stack = l; steps = st.steps + 1; peak = max st.peak n } = cc in ap (λ (m : Running). m.steps) e
room-done false n at l st s q = absurd (let z : ◌≡◌ {A = ℕ} 0 1 = cc in omega arith)

settle-done : (h at : ℕ) (st : Running) (a : Act) (s : Running) → settle h at st a ≡ done s → (s.steps ≡ st.steps + 1) × ((l : List Float) × (a ≡ went l))
settle-done h at st (stop r) s q = absurd (let z : ◌≡◌ {A = ℕ} 0 1 = cc in omega arith)
settle-done h at st (went l) s q = (room-done (leb (length l + h) 256) (length l + h) at l st s q, (l, refl))

back_done : (l : List Float) (m s : Running) → give_back l m ≡ done s → s.steps ≡ m.steps
back_done [] m s q = let e : s ≡ m = cc in ap (λ (x : Running). x.steps) e
back_done (a ∷ l) m s q = let e : s ≡ record { stack = a ∷ m.stack; steps = m.steps; peak = m.peak } = cc in ap (λ (x : Running). x.steps) e

-- ---- a record that acts by itself has nothing inside

module _ (r : Record) (d : Deed) (i : used_or_zero (one_of r (kind.Modifier ∷ kind.Body ∷ kind.Run ∷ kind.CustomInverse ∷ [])) r.inside ≡ true) where
  kind-inside : (k : Kind) → r.kind ≡ kind_no k → way_of (Some k) ≡ Ok (Acts d) → r.inside ≡ 0
  kind-inside kind.RealPush v e = eqb-true r.inside 0 (rw v at i)
  kind-inside kind.ComplexPush v e = eqb-true r.inside 0 (rw v at i)
  kind-inside kind.ArrayPush v e = eqb-true r.inside 0 (rw v at i)
  kind-inside kind.OtherPush v e = eqb-true r.inside 0 (rw v at i)
  kind-inside kind.Primitive v e = eqb-true r.inside 0 (rw v at i)
  kind-inside kind.Modifier v e = absurd (let z : ◌≡◌ {A = ℕ} 0 1 = cc in omega arith)
  kind-inside kind.Body v e = absurd (let z : ◌≡◌ {A = ℕ} 0 1 = cc in omega arith)
  kind-inside kind.Run v e = absurd (let z : ◌≡◌ {A = ℕ} 0 1 = cc in omega arith)
  kind-inside kind.CustomInverse v e = absurd (let z : ◌≡◌ {A = ℕ} 0 1 = cc in omega arith)
  kind-inside kind.Obverse v e = eqb-true r.inside 0 (rw v at i)
  kind-inside kind.NoNormal v e = eqb-true r.inside 0 (rw v at i)
  kind-inside kind.UnderMarker v e = eqb-true r.inside 0 (rw v at i)
  kind-inside kind.AnythingElse v e = eqb-true r.inside 0 (rw v at i)

no-inside : (r : Record) (d : Deed) → fields_ok r ≡ true → way_of (kind_of r.kind) ≡ Ok (Acts d) → r.inside ≡ 0
no-inside r d f e =
    let k = fields-kind r f in
    kind-inside r d (fields-inside r f) k.0 (sym (kind-found r.kind k.0 k.1)) (sym (ap way_of k.1) ∙ e)

-- ---- steps

-- what is inside takes n steps
abbrev Takes : ℕ → (ℕ → Running → Out) → Type 0
Takes n inner = (j : ℕ) (u v : Running) → inner j u ≡ done v → v.steps ≡ u.steps + n

modify-steps : (on one : Bool) (h at n : ℕ) (inner : ℕ → Running → Out) (st m : Running) → Takes n inner → modify on one h at inner st ≡ done m → m.steps ≡ st.steps + suc n
modify-steps false one h at n inner st m t q = absurd (let z : ◌≡◌ {A = ℕ} 0 1 = cc in omega arith)
modify-steps true false h at n inner st m t q = absurd (let z : ◌≡◌ {A = ℕ} 0 1 = cc in omega arith)
modify-steps true true h at n inner st m t q =
    let i = then-done (settle (h + 1) at st (copied st.stack)) (λ st'. and_then (inner (h + 1) st') (give_back st.stack)) m q in
    let j = then-done (inner (h + 1) i.0) (give_back st.stack) m i.2 in
    omega (arith, (settle-done (h + 1) at st (copied st.stack) i.0 i.1).0, t (h + 1) i.0 j.0 j.1, back_done st.stack j.0 m j.2)

one-steps : (w : Result Way Refusal) (r : Record) (ns : Nodes) (inner : ℕ → Running → Out) (at h : ℕ) (st m : Running) → way_of (kind_of r.kind) ≡ w → fields_ok r ≡ true → r.inside ≡ size ns
    → Takes (size ns) inner → run_by w r ns inner at h st ≡ done m → m.steps ≡ st.steps + suc (size ns)
one-steps (Ok (Acts d)) r ns inner at h st m e f z t q =
    let i = settle-done h at st (act d r st.stack) m q in
    omega (arith, i.0, z, no-inside r d f e)
one-steps (Ok Runs) r ns inner at h st m e f z t q = omega (arith, t h (stepped st) m q)
one-steps (Ok Modifies) r ns inner at h st m e f z t q = modify-steps (eqb r.code (modifier_no On)) (eqb (count ns) 1) h at (size ns) inner st m t q
one-steps (Err p) r ns inner at h st m e f z t q = absurd (let z : ◌≡◌ {A = ℕ} 0 1 = cc in omega arith)

pub steps-size : (t : Nodes) (b : Bool) → ok_nodes b t ≡ true → (at h : ℕ) (st s : Running) → runs t at h st ≡ done s → s.steps ≡ st.steps + size t
unfolding runs size
steps-size end b o at h st s q = let e : st ≡ s = cc in rw (← e) (omega arith)
steps-size (rec r ns ms) b o at h st s q =
    let k = told b r ns ms o in
    let v = then-done (run_by (way_of (kind_of r.kind)) r ns (runs ns (at + 1)) at h st) (runs ms (at + 1 + size ns) h) s q in
    omega (
      arith,
      one-steps (way_of (kind_of r.kind)) r ns (runs ns (at + 1)) at h st v.0 refl k.fields k.inside (steps-size ns (is_a r kind.Modifier) k.inner (at + 1)) v.1,
      steps-size ms b k.after (at + 1 + size ns) h v.0 s v.2,
    )

-- ---- the whole

-- the steps of two runs to a value that are the same
pub same-steps : {v w : Float} {n m p k : ℕ} → Value v n p ≡ Value w m k → n ≡ m
same-steps q = ap steps_of q
  where
    steps_of : RunAnswer → ℕ
    steps_of (Ok v) = v.steps
    steps_of (Err s) = 0

last-steps : (l : List Float) (m k : ℕ) {v : Float} {n p : ℕ} → last_of l m k ≡ Value v n p → n ≡ m
last-steps [] m k q = absurd (let z : ◌≡◌ {A = ℕ} 0 1 = cc in omega arith)
last-steps (w ∷ []) m k q = sym (same-steps q)
last-steps (w ∷ u ∷ l) m k q = absurd (let z : ◌≡◌ {A = ℕ} 0 1 = cc in omega arith)

ended-done : (o : Out) {v : Float} {n p : ℕ} → ended o ≡ Value v n p → (st : Running) × (o ≡ done st) × (n ≡ st.steps)
ended-done (done st) q = (st, refl, last-steps st.stack st.steps st.peak q)
ended-done (refused_at r at) q = absurd (let z : ◌≡◌ {A = ℕ} 0 1 = cc in omega arith)

judged-good : (g : Verdict) (b : Bool) (ns : Nodes) (x : Float) {v : Float} {n p : ℕ} → judged g b ns x ≡ Value v n p → (g ≡ Ok tt) × (run_nodes ns x ≡ Value v n p)
judged-good (Err r) b ns x q = absurd (let z : ◌≡◌ {A = ℕ} 0 1 = cc in omega arith)
judged-good (Ok tt) false ns x q = absurd (let z : ◌≡◌ {A = ℕ} 0 1 = cc in omega arith)
judged-good (Ok tt) true ns x q = (refl, q)

-- each record is run once
pub run-steps : (s : List ℕ) (x : Float) {v : Float} {n p : ℕ} → run_list s x ≡ Value v n p → n ≡ records_in s
unfolding run_list run_nodes parse
run-steps s x q =
    let g = judged-good (verdict s) (finite x) (parse s) x q in
    let e = ended-done (runs (forest s 0 (records_in s)) 0 0 (start x)) g.1 in
    omega (arith, e.2, steps-size (forest s 0 (records_in s)) false (whole-stretch s g.0).ok 0 0 (start x) e.0 e.1, size-forest s 0 (records_in s))
