-- What the cost of a list says of reading it. Assumes nothing.
use Prim.Native.Nat.{ℕ, ◌%◌, ◌≤◌, ◌<◌, min}
use native.Mathlib.Omega.{arith}
use mathlib.Core.Path.{◌≡◌, refl, ◌∙◌}
use mathlib.Core.Bool.{Bool, true, false, ◌&&◌, cond}
use mathlib.Core.List.{List}
use mathlib.Core.Logic.{◌⊎◌, inl, inr}
use lib.Dec.{eqb, leb}
use lib.ListN.{length}
use Rattle.limits.specs.declared.Refusal.{Refusal}
use Rattle.limits.specs.declared.Refusal.TheVariants.{BadRecord, TooDeep}
use Rattle.limits.specs.Refusals.{refusal_no}
use Rattle.sums.specs.Tree.Sums.{Sum}
use Rattle.formats.specs.Rules.{shape_of, judge, verdict, Verdict}
use Rattle.formats.specs.Tree.{Nodes, parse, records_in}
use Rattle.stack.specs.State.{State, Walked, went, stopped}
use Rattle.modifiers.specs.Modifiers.{run_all}
use Rattle.modifiers.specs.Reading.{runners, start, done, ended, read_nodes}
use Rattle.std.specs.Prelude.{Result, Ok, Err, Option, Some, None}
use Rattle.reading.specs.Cost.Cost.{cost_of, most_steps, judged, cost_list, cost_numbers}
use Rattle.reading.specs.Cost.Counting.{ran}
use Rattle.reading.specs.Cost.Theorem.{CountsReading, Costs, Tells}
use Rattle.reading.proofs.cost.Most.{ran-most}
use Rattle.reading.proofs.cost.Exact.{nodes-runners, ran-exact}

pub counts-reading : CountsReading
counts-reading ns = nodes-runners 0 ns

-- a sum is read only where no record was refused
went-through : (w : Walked) (s : Sum) (c h : Bool) (k : ℕ) → ended w ≡ done s c h k → (v : State) × (w ≡ went v)
went-through (went v) s c h k e = (v, refl)
went-through (stopped q at b) s c h k e = let z : ◌≡◌ {A = ℕ} 0 1 = cc in absurd (omega arith)

read-exact : (ns : Nodes) (s : Sum) (c h : Bool) (k : ℕ) → read_nodes ns ≡ done s c h k → ran ns ≡ cost_of ns
unfolding read_nodes
read-exact ns s c h k e = let w = went-through (run_all (runners 0 ns) 0 start) s c h k e in ran-exact ns w.0 w.1

pub costs : Costs
costs = record { most = ran-most; exact = ran-exact; read = read-exact }

-- what is told of a list that keeps the rules
steps-told : (v : Verdict) (ns : Nodes) (n : ℕ) → judged v ns ≡ Ok n → min most_steps (cost_of ns) ≡ n
steps-told (Ok tt) ns n e = cc
steps-told (Err q) ns n e = let z : ◌≡◌ {A = ℕ} 0 1 = cc in absurd (omega arith)

told-steps : (l : List ℕ) (n : ℕ) → cost_list l ≡ Ok n → n < most_steps → cost_of (parse l) ≡ n
unfolding cost_list
told-steps l n e k = let m = steps-told (verdict l) (parse l) n e in omega arith

pub tells : Tells
tells =
    record {
      most = λ l n e k. omega (arith, ran-most (parse l), told-steps l n e k);
      read = λ l n s c h p e k d. read-exact (parse l) s c h p d ∙ told-steps l n e k;
    }

-- ---- refusals

-- 11 or 13, and nothing else, is told where a list is refused
pub refuses-only : (l : List ℕ) (q : Refusal) → cost_list l ≡ Err q → (q ≡ BadRecord) ⊎ (q ≡ TooDeep)
unfolding cost_list verdict
refuses-only l q e = either (eqb (length l % 24) 0 && leb (records_in l) 2048) (shape_of false (parse l)) e
  where
    same : {p : Refusal} → ◌≡◌ {A = Result ℕ Refusal} (Err p) (Err q) → q ≡ p
    same d = cc

    tall : (b : Bool) → judged (cond b (Ok tt) (Err TooDeep)) (parse l) ≡ Err q → (q ≡ BadRecord) ⊎ (q ≡ TooDeep)
    tall true d = let z : ◌≡◌ {A = ℕ} 0 1 = cc in absurd (omega arith)
    tall false d = inr (same d)

    either : (b : Bool) (s : Option ℕ) → judged (cond b (judge s) (Err BadRecord)) (parse l) ≡ Err q → (q ≡ BadRecord) ⊎ (q ≡ TooDeep)
    either false s d = inl (same d)
    either true None d = inl (same d)
    either true (Some h) d = tall (leb h 129) d

pub cost-number : (l : List ℕ) → (cost_numbers (cost_list l)).number ≤ 13
cost-number l = go (cost_list l) refl
  where
    few : (q : Refusal) → (q ≡ BadRecord) ⊎ (q ≡ TooDeep) → refusal_no q ≤ 13
    few q (inl e) = rw e (omega arith)
    few q (inr e) = rw e (omega arith)

    go : (a : Result ℕ Refusal) → cost_list l ≡ a → (cost_numbers a).number ≤ 13
    go (Ok n) e = omega arith
    go (Err q) e = few q (refuses-only l q e)
