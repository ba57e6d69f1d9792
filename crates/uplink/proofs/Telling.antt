-- The numbers of an entry's answer are those of its reply. Assumes nothing.
use Prim.Native.Nat.{ℕ}
use mathlib.Core.Path.{◌≡◌, refl, ap, ◌∙◌}
use mathlib.Core.Bool.{Bool, true, false, cond}
use mathlib.Core.List.{List, [], ◌∷◌}
use lib.Ieee.{Float}
use mir.Val.{bool_byte}
use Rattle.running.specs.declared.RunNumbers.{RunNumbers}
use Rattle.running.specs.Running.{numbers_of, RunAnswer}
use Rattle.std.specs.Prelude.{Result}
use Rattle.limits.specs.declared.Refusal.{Refusal}
use Rattle.values.specs.declared.ValueNumbers.{ValueNumbers}
use Rattle.values.specs.ValueOf.{value_numbers}
use Rattle.reading.specs.declared.cost.CostNumbers.{CostNumbers}
use Rattle.reading.specs.Cost.Cost.{cost_numbers}
use Rattle.algebra.specs.declared.answer.Answer.{Answer}
use Rattle.algebra.specs.declared.answer.Numbers.{Numbers}
use Rattle.algebra.specs.Answer.Making.{answer_numbers}
use Rattle.algebra.specs.declared.ReadAnswer.{ReadAnswer}
use Rattle.algebra.specs.Reading.{read_numbers}
use Rattle.algebra.specs.Replies as entry
use Rattle.algebra.specs.Replies.{Entry, Promised, of_read, of_answer, of_run, of_cost, of_value}
use Rattle.uplink.specs.Told.{Told, Valued, Ran, with_count, with_pairs, with_cost}

as_number : (t : Bool) → bool_byte t ≡ cond t 1 0
as_number true = refl
as_number false = refl

pub told-count : (e : Entry) {l out out' : List ℕ} (a : Answer) {n : Numbers} → n ≡ answer_numbers a → Promised e l out out' (of_answer a)
    → Told e with_count l out out' n.number (n.place ∷ n.count ∷ [])
told-count e a i p = record { reply = of_answer a; promised = p; returned = ap (λ z. z.number) i; told = ap (λ z. z.place ∷ z.count ∷ []) i }

pub told-pairs : (e : Entry) {l out out' : List ℕ} (a : ReadAnswer) {n : Numbers} → n ≡ read_numbers a → Promised e l out out' (of_read a)
    → Told e with_pairs l out out' n.number (n.place ∷ n.count ∷ bool_byte n.flag ∷ n.pairs ∷ [])
told-pairs e a {n} i p = record {
  reply = of_read a;
  promised = p;
  returned = ap (λ z. z.number) i;
  told = ap (λ z. n.place ∷ n.count ∷ z ∷ n.pairs ∷ []) (as_number n.flag) ∙ ap
      (λ z. z.place ∷ z.count ∷ cond z.flag 1 0 ∷ z.pairs ∷ []) i;
}

pub told-run : {x : Float} {l : List ℕ} {n : RunNumbers} (a : RunAnswer) → Promised (entry.run x) l [] [] (of_run a) → n ≡ numbers_of a
    → Ran x l n.number n.value (n.place ∷ n.steps ∷ n.peak ∷ [])
told-run a p i = record { reply = of_run a; promised = p; returned = ap (λ z. z.number) i; valued = ap (λ z. z.value) i; told = ap (λ z. z.place ∷ z.steps ∷ z.peak ∷ []) i }

pub told-value : {x : Float} {l : List ℕ} {n : ValueNumbers} (a : Result Float Refusal) → Promised (entry.value x) l [] [] (of_value a) → n ≡ value_numbers a
    → Valued (entry.value x) with_count l n.number n.value (n.place ∷ n.count ∷ [])
told-value a p i = record { reply = of_value a; promised = p; returned = ap (λ z. z.number) i; valued = ap (λ z. z.value) i; told = ap (λ z. z.place ∷ z.count ∷ []) i }

pub told-cost : {l : List ℕ} {n : CostNumbers} (a : Result ℕ Refusal) → Promised entry.cost l [] [] (of_cost a) → n ≡ cost_numbers a
    → Told entry.cost with_cost l [] [] n.number (n.place ∷ n.steps ∷ [])
told-cost a p i = record { reply = of_cost a; promised = p; returned = ap (λ z. z.number) i; told = ap (λ z. z.place ∷ z.steps ∷ []) i }
