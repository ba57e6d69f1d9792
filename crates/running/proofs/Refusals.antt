-- Which refusals a run gives: none whose number is above 15. Assumes nothing.
use Prim.Native.Nat.{ℕ, zero, suc, ◌+◌, ◌%◌, ◌≤◌}
use native.Mathlib.Omega.{arith}
use mathlib.Core.Bool.{Bool, true, false, ◌&&◌, cond}
use mathlib.Core.List.{List, [], ◌∷◌}
use lib.Dec.{T, leb, eqb, leb→le}
use lib.ListN.{length}
use lib.Ieee.{Float, binary64, of_bits, lt}
use lib.Ieee.Scale.{finite}
use Rattle.std.specs.Prelude.{Option, Some, None, Result, Ok, Err}
use Rattle.formats.specs.declared.record.Kind.{Kind}
use Rattle.numbers.specs.Signs.{zero64}
use Rattle.numbers.specs.Numbers.{small_whole}
use Rattle.limits.specs.declared.Refusal.{Refusal}
use Rattle.limits.specs.declared.Refusal.TheVariants.{BadRecord, TooDeep}
use Rattle.limits.specs.Refusals.{refusal_no}
use Rattle.limits.proofs.Variants.{of-all}
use Rattle.formats.specs.declared.record.Record.{Record}
use Rattle.formats.specs.declared.record.Primitive.{Primitive}
use Rattle.formats.specs.declared.record.Modifier.TheVariants.{On}
use Rattle.formats.specs.Names.{kind_of, primitive_of, modifier_no}
use Rattle.formats.specs.Rules.{judge, shape_of, verdict, Verdict}
use Rattle.formats.specs.Tree.{Nodes, end, rec, size, count, parse, records_in}
use Rattle.formats.specs.contracts.record.Kind as kind-choice
use Rattle.formats.specs.contracts.record.Primitive as primitive-choice
use Rattle.running.specs.Primitives.{power, power_of, square_root, root_unless, work_of, of_one, of_two, Act, went, stop, if_finite, leave, apply, way_of, act}
use Rattle.running.specs.Running.{Running, Out, done, refused_at, and_then, if_room, settle, copied, give_back, modify, stepped, run_by, runs, last_of, ended, start, run_nodes, judged, run_list, numbers_of, RunAnswer}
use Rattle.running.specs.declared.Left.{Left}
use Rattle.running.specs.declared.Left.TheVariants.{Nothing, One, Two, Three}
use Rattle.running.specs.declared.Single.{Single}
use Rattle.running.specs.declared.Single.TheVariants as single
use Rattle.running.specs.declared.Pair.{Pair}
use Rattle.running.specs.declared.Pair.TheVariants as pair
use Rattle.running.specs.declared.Work.{Work}
use Rattle.running.specs.declared.Work.TheVariants.{OfOne, OfTwo}
use Rattle.running.specs.declared.Deed.{Deed}
use Rattle.running.specs.declared.Deed.TheVariants.{Pushes, Works}
use Rattle.running.specs.declared.Way.{Way}
use Rattle.running.specs.declared.Way.TheVariants.{Acts, Runs, Modifies}

-- ---- the test, of whatever may hold a refusal

abbrev low : Refusal → Bool
low q = leb (refusal_no q) 15

abbrev low_result : {A : Type 0} → Result A Refusal → Bool
low_result (Ok a) = true
low_result (Err q) = low q

abbrev low_act : Act → Bool
low_act (went s) = true
low_act (stop q) = low q

abbrev low_out : Out → Bool
low_out (done st) = true
low_out (refused_at q at) = low q

abbrev low_answer : RunAnswer → Bool
low_answer (Ok v) = true
low_answer (Err s) = low s.why

-- ---- one record

power-low : (b a : Float) → T (low_result (power b a))
unfolding power
power-low b a = go (small_whole a)
  where
    go : (w : Option ℕ) → T (low_result (power_of b w))
    go (Some zero) = tt
    go (Some (suc n)) = tt
    go None = tt

root-low : (a : Float) → T (low_result (square_root a))
unfolding square_root
root-low a = go (lt a zero64)
  where
    go : (b : Bool) → T (low_result (root_unless b a))
    go true = tt
    go false = tt

one-low : (o : Single) (a : Float) → T (low_result (of_one o a))
one-low single.Identity a = tt
one-low single.Pop a = tt
one-low single.Dup a = tt
one-low single.Neg a = tt
one-low single.Not a = tt
one-low single.Sqrt a = root-low a
one-low single.Reciprocal a = tt

two-low : (o : Pair) (a b : Float) → T (low_result (of_two o a b))
two-low pair.Flip a b = tt
two-low pair.Add a b = tt
two-low pair.Sub a b = tt
two-low pair.Mul a b = tt
two-low pair.Div a b = tt
two-low pair.Pow a b = power-low b a
two-low pair.Over a b = tt

work-low : (p : Primitive) → T (low_result (work_of p))
work-low p = of-all primitive-choice.the_parts primitive-choice.the_make primitive-choice.as_values primitive-choice.the_eta (λ q. low_result (work_of q)) tt p

way-low : (k : Option Kind) → T (low_result (way_of k))
way-low (Some k) = of-all kind-choice.the_parts kind-choice.the_make kind-choice.as_values kind-choice.the_eta (λ j. low_result (way_of (Some j))) tt k
way-low None = tt

leave_low : (v : Result Left Refusal) (s : List Float) → T (low_result v) → T (low_act (leave v s))
unfolding leave
leave_low (Ok Nothing) s t = tt
leave_low (Ok (One v)) s t = go (finite v)
  where
    go : (b : Bool) → T (low_act (if_finite b v s))
    go true = tt
    go false = tt
leave_low (Ok (Two a b)) s t = tt
leave_low (Ok (Three a b c)) s t = tt
leave_low (Err q) s t = t

apply-low : (w : Result Work Refusal) (s : List Float) → T (low_result w) → T (low_act (apply w s))
unfolding apply
apply-low (Ok (OfOne o)) [] t = tt
apply-low (Ok (OfOne o)) (a ∷ s) t = leave_low (of_one o a) s (one-low o a)
apply-low (Ok (OfTwo o)) [] t = tt
apply-low (Ok (OfTwo o)) (a ∷ []) t = tt
apply-low (Ok (OfTwo o)) (a ∷ b ∷ s) t = leave_low (of_two o a b) s (two-low o a b)
apply-low (Err q) s t = t

act-low : (d : Deed) (r : Record) (s : List Float) → T (low_act (act d r s))
unfolding act
act-low Pushes r s = leave_low (Ok (One (of_bits binary64 r.re))) s tt
act-low Works r s = apply-low (work_of (primitive_of r.code)) s (work-low (primitive_of r.code))

-- ---- nodes

then-low : (o : Out) (f : Running → Out) → T (low_out o) → ((st : Running) → T (low_out (f st))) → T (low_out (and_then o f))
then-low (done st) f t k = k st
then-low (refused_at q at) f t k = t

settle-low : (h at : ℕ) (st : Running) (a : Act) → T (low_act a) → T (low_out (settle h at st a))
settle-low h at st (stop q) t = t
settle-low h at st (went s) t = go (leb (length s + h) 256)
  where
    go : (b : Bool) → T (low_out (if_room b (length s + h) at s st))
    go true = tt
    go false = tt

modify-low : (on one : Bool) (h at : ℕ) (inner : ℕ → Running → Out) (st : Running) → ((k : ℕ) (u : Running) → T (low_out (inner k u))) → T (low_out (modify on one h at inner st))
modify-low false one h at inner st t = tt
modify-low true false h at inner st t = tt
modify-low true true h at inner st t =
    then-low (settle (h + 1) at st (copied st.stack)) (λ u. and_then (inner (h + 1) u) (give_back st.stack)) (settle-low (h + 1) at st (copied st.stack) (copy st.stack))
    (λ u. then-low (inner (h + 1) u) (give_back st.stack) (t (h + 1) u) (give st.stack))
  where
    copy : (s : List Float) → T (low_act (copied s))
    copy [] = tt
    copy (a ∷ s) = tt

    give : (s : List Float) (u : Running) → T (low_out (give_back s u))
    give [] u = tt
    give (a ∷ s) u = tt

by-low : (w : Result Way Refusal) (r : Record) (ns : Nodes) (inner : ℕ → Running → Out) (at h : ℕ) (st : Running) → T (low_result w) → ((k : ℕ) (u : Running) → T (low_out (inner k u)))
    → T (low_out (run_by w r ns inner at h st))
by-low (Ok (Acts d)) r ns inner at h st t k = settle-low h at st (act d r st.stack) (act-low d r st.stack)
by-low (Ok Runs) r ns inner at h st t k = k h (stepped st)
by-low (Ok Modifies) r ns inner at h st t k = modify-low (eqb r.code (modifier_no On)) (eqb (count ns) 1) h at inner st k
by-low (Err q) r ns inner at h st t k = t

runs-low : (ns : Nodes) (at h : ℕ) (st : Running) → T (low_out (runs ns at h st))
unfolding runs
runs-low end at h st = tt
runs-low (rec r ns ms) at h st =
    then-low (run_by (way_of (kind_of r.kind)) r ns (runs ns (at + 1)) at h st) (runs ms (at + 1 + size ns) h)
    (by-low (way_of (kind_of r.kind)) r ns (runs ns (at + 1)) at h st (way-low (kind_of r.kind)) (λ k u. runs-low ns (at + 1) k u))
    (λ u. runs-low ms (at + 1 + size ns) h u)

-- ---- the whole

ended-low : (o : Out) → T (low_out o) → T (low_answer (ended o))
ended-low (refused_at q at) t = t
ended-low (done st) t = go st.stack
  where
    go : (s : List Float) → T (low_answer (last_of s st.steps st.peak))
    go [] = tt
    go (v ∷ []) = tt
    go (v ∷ w ∷ s) = tt

abbrev low_verdict : Verdict → Bool
low_verdict (Ok tt) = true
low_verdict (Err q) = low q

either-low : (b : Bool) (v w : Verdict) → T (low_verdict v) → T (low_verdict w) → T (low_verdict (cond b v w))
either-low true v w p q = p
either-low false v w p q = q

verdict-low : (l : List ℕ) → T (low_verdict (verdict l))
unfolding verdict
verdict-low l = either-low (eqb (length l % 24) 0 && leb (records_in l) 2048) (judge (shape_of false (parse l))) (Err BadRecord) (judge-low (shape_of false (parse l))) tt
  where
    judge-low : (s : Option ℕ) → T (low_verdict (judge s))
    judge-low None = tt
    judge-low (Some h) = either-low (leb h 129) (Ok tt) (Err TooDeep) tt tt

judged-low : (v : Verdict) (b : Bool) (ns : Nodes) (x : Float) → T (low_verdict v) → T (low_answer (judged v b ns x))
unfolding run_nodes
judged-low (Err q) b ns x t = t
judged-low (Ok tt) false ns x t = tt
judged-low (Ok tt) true ns x t = ended-low (runs ns 0 0 (start x)) (runs-low ns 0 0 (start x))

pub run-number : (l : List ℕ) (x : Float) → (numbers_of (run_list l x)).number ≤ 15
unfolding run_list
run-number l x = go (run_list l x) (judged-low (verdict l) (finite x) (parse l) x (verdict-low l))
  where
    go : (a : RunAnswer) → T (low_answer a) → (numbers_of a).number ≤ 15
    go (Ok v) t = omega arith
    go (Err s) t = leb→le (refusal_no s.why) 15 t
