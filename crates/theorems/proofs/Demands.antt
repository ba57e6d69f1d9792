-- Demand 1, and 'determined', over all thirteen entries: each answers with a result or with one refusal of the table; a refusal has zero counts and leaves every
-- output byte as it was; and any two answers that a promise allows are the same. Assumes nothing.
use Prim.Native.Nat.{ℕ}
use mathlib.Core.Path.{◌≡◌, refl, sym, ap, subst, ◌∙◌}
use mathlib.Core.List.{List}
use mathlib.Core.Logic.{inl, inr}
use Rattle.limits.specs.declared.Refusal.{Refusal}
use Rattle.limits.proofs.Refusals.{numbered}
use Rattle.formats.specs.Tree.{records_in}
use Rattle.running.specs.Running as ran
use Rattle.running.specs.Running.{run_list, RunAnswer}
use Rattle.std.specs.Prelude.{Result, Ok, Err, Float}
use Rattle.values.proofs.Taking.{value-determined}
use Rattle.reading.specs.Cost.Cost.{cost_list}
use Rattle.algebra.specs.declared.answer.Answer.{Answer}
use Rattle.algebra.specs.declared.answer.Answer.TheVariants as given
use Rattle.algebra.proofs.answer.Determined as promises
use Rattle.algebra.proofs.answer.Taking.{bytes-determined}
use Rattle.algebra.proofs.answer.Told.{refusal-quiet, bytes-quiet}
use Rattle.algebra.specs.declared.ReadAnswer.{ReadAnswer}
use Rattle.algebra.specs.declared.ReadAnswer.TheVariants as answer
use Rattle.algebra.specs.Reading.{read_list}
use Rattle.algebra.specs.Entries as lists
use Rattle.algebra.specs.Replies
use Rattle.algebra.specs.Replies.{Reply, refusing, of_read, of_answer, of_run, of_cost, of_value}
use Rattle.theorems.specs.Demands.{Numbered, Answers, Demand1, Determined}
use Rattle.theorems.proofs.Reading as reading

-- ---- demand 1

refuses : {out out' : List ℕ} {r : Reply} (q : Refusal) (at : ℕ) → r ≡ refusing q at → out' ≡ out → Answers out out' r
refuses q at e f = inr (record { refusal = q; place = at; is = e; numbered = subst Numbered (ap (λ z. z.number) (sym e)) (numbered q); quiet = f })

by_answer : (a : Answer) {out out' : List ℕ} {r : Reply} → r ≡ of_answer a → ((q : Refusal) (at : ℕ) → a ≡ given.Refused q at → out' ≡ out) → Answers out out' r
by_answer (given.Done n) e f = inl (ap (λ z. z.number) e)
by_answer (given.Refused q at) e f = refuses q at e (f q at refl)

by_read : (a : ReadAnswer) {out out' : List ℕ} {r : Reply} → r ≡ of_read a → ((q : Refusal) (at : ℕ) → a ≡ answer.Refused q at → out' ≡ out) → Answers out out' r
by_read (answer.Sum n c k) e f = inl (ap (λ z. z.number) e)
by_read (answer.Refused q at) e f = refuses q at e (f q at refl)

by-run : (a : RunAnswer) {out out' : List ℕ} {r : Reply} → r ≡ of_run a → out' ≡ out → Answers out out' r
by-run (Ok ran-to) e f = inl (ap (λ z. z.number) e)
by-run (Err ran-to) e f = refuses ran-to.why ran-to.place e f

by-cost : (a : Result ℕ Refusal) {out out' : List ℕ} {r : Reply} → r ≡ of_cost a → out' ≡ out → Answers out out' r
by-cost (Ok n) e f = inl (ap (λ z. z.number) e)
by-cost (Err q) e f = refuses q 0 e f

by_value : (a : Result Float Refusal) {out out' : List ℕ} {r : Reply} → r ≡ of_value a → out' ≡ out → Answers out out' r
by_value (Ok v) e f = inl (ap (λ z. z.number) e)
by_value (Err q) e f = refuses q 0 e f

pub demand-1 : Demand1
demand-1 Replies.read l out out' r p = by_read p.0 p.1 (λ q at i. reading.refusal-quiet (read_list l) p.2 i)
demand-1 Replies.derive l out out' r p = by_answer p.0 p.1 (λ q at i. bytes-quiet p.2 i)
demand-1 Replies.integrate l out out' r p = by_answer p.0 p.1 (λ q at i. bytes-quiet p.2 i)
demand-1 (Replies.write c) l out out' r p = by_answer p.0 p.1 (λ q at i. bytes-quiet p.2 i)
demand-1 Replies.derivative l out out' r p = by_answer p.0 p.1 (λ q at i. refusal-quiet records_in (lists.derivative l) p.2 i)
demand-1 Replies.integral l out out' r p = by_answer p.0 p.1 (λ q at i. refusal-quiet records_in (lists.integral l) p.2 i)
demand-1 (Replies.write_faithful c) l out out' r p = by_answer p.0 p.1 (λ q at i. bytes-quiet p.2 i)
demand-1 Replies.derivative_faithful l out out' r p = by_answer p.0 p.1 (λ q at i. refusal-quiet records_in (lists.derivative_faithful l) p.2 i)
demand-1 Replies.integral_faithful l out out' r p = by_answer p.0 p.1 (λ q at i. refusal-quiet records_in (lists.integral_faithful l) p.2 i)
demand-1 Replies.inverse l out out' r p = by_answer p.0 p.1 (λ q at i. refusal-quiet records_in (lists.inverse l) p.2 i)
demand-1 (Replies.run x) l out out' r p = by-run (run_list l x) p.0 p.1
demand-1 Replies.cost l out out' r p = by-cost (cost_list l) p.0 p.1
demand-1 (Replies.value x) l out out' r p = by_value p.0 p.1 p.3

-- ---- determined

same-reply : {A : Type 0} (f : A → Reply) {a b : A} {r s : Reply} {out₁ out₂ : List ℕ} → r ≡ f a → s ≡ f b → (a ≡ b) × (out₁ ≡ out₂) → (r ≡ s) × (out₁ ≡ out₂)
same-reply f e g h = (e ∙ ap f h.0 ∙ sym g, h.1)

pub determined : Determined
determined Replies.read l out out₁ out₂ r₁ r₂ p q = same-reply of_read p.1 q.1 (promises.determined p.2 q.2)
determined Replies.derive l out out₁ out₂ r₁ r₂ p q = same-reply of_answer p.1 q.1 (bytes-determined p.2 q.2)
determined Replies.integrate l out out₁ out₂ r₁ r₂ p q = same-reply of_answer p.1 q.1 (bytes-determined p.2 q.2)
determined (Replies.write c) l out out₁ out₂ r₁ r₂ p q = same-reply of_answer p.1 q.1 (bytes-determined p.2 q.2)
determined Replies.derivative l out out₁ out₂ r₁ r₂ p q = same-reply of_answer p.1 q.1 (promises.determined p.2 q.2)
determined Replies.integral l out out₁ out₂ r₁ r₂ p q = same-reply of_answer p.1 q.1 (promises.determined p.2 q.2)
determined (Replies.write_faithful c) l out out₁ out₂ r₁ r₂ p q = same-reply of_answer p.1 q.1 (bytes-determined p.2 q.2)
determined Replies.derivative_faithful l out out₁ out₂ r₁ r₂ p q = same-reply of_answer p.1 q.1 (promises.determined p.2 q.2)
determined Replies.integral_faithful l out out₁ out₂ r₁ r₂ p q = same-reply of_answer p.1 q.1 (promises.determined p.2 q.2)
determined Replies.inverse l out out₁ out₂ r₁ r₂ p q = same-reply of_answer p.1 q.1 (promises.determined p.2 q.2)
determined (Replies.run x) l out out₁ out₂ r₁ r₂ p q = (p.0 ∙ sym q.0, p.1 ∙ sym q.1)
determined Replies.cost l out out₁ out₂ r₁ r₂ p q = (p.0 ∙ sym q.0, p.1 ∙ sym q.1)
determined (Replies.value x) l out out₁ out₂ r₁ r₂ p q = same-reply of_value p.1 q.1 (value-determined p.2 q.2, p.3 ∙ sym q.3)
