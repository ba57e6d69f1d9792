-- The demands hold of the C functions, whose contracts tell an entry's reply. Assumes nothing.
use Prim.Native.Nat.{ℕ}
use mathlib.Core.Path.{◌≡◌, refl, sym, ap, subst, ◌∙◌}
use mathlib.Core.List.{List, [], ◌∷◌}
use mathlib.Core.Logic.{◌⊎◌, inl, inr, ⊎_elim}
use lib.Ieee.{Float}
use Rattle.numbers.specs.Signs.{zero64}
use Rattle.limits.specs.declared.Refusal.{Refusal}
use Rattle.algebra.specs.Replies as entry
use Rattle.algebra.specs.Replies.{Entry, Reply, refusing, of_answer, of_run}
use Rattle.uplink.specs.Told.{Valued, with_count, with_pairs, with_steps, with_cost}
use Rattle.values.specs.Value.{Power}
use Rattle.theorems.specs.Demands.{Numbered, Refuses, Answers}
use Rattle.theorems.specs.Demand3.{Runs}
use Rattle.theorems.specs.Functions.{ToldRefusal, FunctionsAnswer, FunctionsDetermined, RunsTold, FunctionsSpeed}
use Rattle.theorems.proofs.Demands.{demand-1, determined}
use Rattle.theorems.proofs.Demand3.{demand-3}

-- ---- demand 1

-- a reply is told by its number and by what `shown` makes of it
module _ (shown : Reply → List ℕ) (zeros : List ℕ) (zero : (q : Refusal) (at : ℕ) → shown (refusing q at) ≡ at ∷ zeros) where
  module _ {out out' : List ℕ} {r : Reply} {no : ℕ} {answer : List ℕ} (n : no ≡ r.number) (a : answer ≡ shown r) where
    told-refusal : Refuses out out' r → ToldRefusal zeros out out' no answer
    told-refusal u = record {
      refusal = u.refusal;
      place = u.place;
      returned = n ∙ ap (λ z. z.number) u.is;
      numbered = subst Numbered (sym n) u.numbered;
      told = a ∙ ap shown u.is ∙ zero u.refusal u.place;
      quiet = u.quiet;
    }

    told-answer : Answers out out' r → (no ≡ 0) ⊎ ToldRefusal zeros out out' no answer
    told-answer d = ⊎_elim (λ e. inl (n ∙ e)) (λ u. inr (told-refusal u)) d

  -- and by its value
  told-value : {l : List ℕ} {no : ℕ} {v : Float} {answer : List ℕ} (e : Entry) → Valued e shown l no v answer → (no ≡ 0) ⊎ (ToldRefusal zeros [] [] no answer × (v ≡ zero64))
  told-value {l} e t =
      ⊎_elim (λ d. inl (t.returned ∙ d)) (λ u. inr (told-refusal t.returned t.told u, t.valued ∙ ap (λ z. z.value) u.is)) (demand-1 e l [] [] t.reply t.promised)

pub functions-answer : FunctionsAnswer
functions-answer = record {
  counts = λ e l out out' no answer t. told-answer with_count (0 ∷ []) (λ q at. refl) t.returned t.told (demand-1 e l out out' t.reply t.promised);
  flags = λ e l out out' no answer t. told-answer with_pairs (0 ∷ 0 ∷ 0 ∷ []) (λ q at. refl) t.returned t.told (demand-1 e l out out' t.reply t.promised);
  runs = λ x l no v answer t. told-value with_steps (0 ∷ 0 ∷ []) (λ q at. refl) (entry.run x) t;
  values = λ e l no v answer t. told-value with_count (0 ∷ []) (λ q at. refl) e t;
  costs = λ e l out out' no answer t. told-answer with_cost (0 ∷ []) (λ q at. refl) t.returned t.told (demand-1 e l out out' t.reply t.promised);
}

-- ---- determined

pub functions-determined : FunctionsDetermined
functions-determined = record {
  tells = λ e shown l out out₁ out₂ no₁ no₂ answer₁ answer₂ t u.
      let d = determined e l out out₁ out₂ t.reply u.reply t.promised u.promised in
      (t.returned ∙ ap (λ z. z.number) d.0 ∙ sym u.returned, t.told ∙ ap shown d.0 ∙ sym u.told, d.1);
  values = λ e shown l no₁ no₂ v₁ v₂ answer₁ answer₂ t u.
      let d = (determined e l [] [] [] t.reply u.reply t.promised u.promised).0 in
      (t.returned ∙ ap (λ z. z.number) d ∙ sym u.returned, t.valued ∙ ap (λ z. z.value) d ∙ sym u.valued, t.told ∙ ap shown d ∙ sym u.told);
}

-- ---- demand 3

pub runs-told : {b : List ℕ} {ts : List Power} → Runs b ts → RunsTold b ts
runs-told s = record {
  gives = λ x no v answer fx fv t.
      let e = t.promised.0 ∙ ap of_run (s.gives x fx fv) in
      (t.returned ∙ ap (λ z. z.number) e, t.valued ∙ ap (λ z. z.value) e, t.told ∙ ap with_steps e);
  refuses = λ x no v answer fx n t.
      let q = s.refuses x fx n in
      let e = t.promised.0 ∙ ap of_run q.1 in
      (t.returned ∙ ap (λ z. z.number) e, t.valued ∙ ap (λ z. z.value) e, (q.0, t.told ∙ ap with_steps e));
}

pub functions-speed : FunctionsSpeed
functions-speed l ts f = record {
  writes = λ out out' no answer room t.
      let s = (demand-3 l ts f).writes out out' t.promised.0 room t.promised.2 in
      let e = t.promised.1 ∙ ap of_answer s.0 in
      (t.returned ∙ ap (λ z. z.number) e, t.told ∙ ap with_count e, runs-told s.1);
}
