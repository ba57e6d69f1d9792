-- The thirteen entries side by side: what each may answer, in document 01's numbers.
use Rattle.std.specs.Prelude.{ℕ, ◌≡◌, Bool, false, List, Float, Result}
use Rattle.numbers.specs.Signs.{zero64}
use Rattle.limits.specs.declared.Refusal.{Refusal}
use Rattle.limits.specs.Refusals.{refusal_no}
use Rattle.formats.specs.Tree.{records_in}
use Rattle.sums.specs.Entry.Encoding.{entries_in}
use Rattle.running.specs.declared.RunNumbers.{RunNumbers}
use Rattle.running.specs.Running.{run_list, numbers_of, RunAnswer}
use Rattle.values.specs.declared.ValueNumbers.{ValueNumbers}
use Rattle.values.specs.ValueOf.{ValueOfBytes, value_numbers}
use Rattle.reading.specs.declared.cost.CostNumbers.{CostNumbers}
use Rattle.reading.specs.Cost.Cost.{cost_list, cost_numbers}
use Rattle.algebra.specs.declared.answer.Answer.{Answer}
use Rattle.algebra.specs.declared.answer.Numbers.{Numbers}
use Rattle.algebra.specs.Answer.Promises.{Promise}
use Rattle.algebra.specs.Answer.Making as making
use Rattle.algebra.specs.Answer.Making.{answer_numbers, Gives, OfBytes}
use Rattle.algebra.specs.declared.ReadAnswer.{ReadAnswer}
use Rattle.algebra.specs.Reading.{read_list, answer_of, bytes_of, read_numbers}
use Rattle.algebra.specs.Entries as lists

-- both writes are handed a flag, run and value a number; those called faithful have the second writer
pub data Entry : Type 0 where
  read derive integrate derivative integral inverse cost derivative_faithful integral_faithful : Entry
  write write_faithful : Bool → Entry
  run value : Float → Entry

-- number, place and counts; the flag and the pairs are read's, the value is run's and value's, the peak is run's, steps are run's and cost's
pub record Reply : Type 0 where
  pub number : ℕ
  pub place : ℕ
  pub count : ℕ
  pub flag : Bool
  pub pairs : ℕ
  pub value : Float
  pub steps : ℕ
  pub peak : ℕ

-- a refusal has zero counts
abbrev pub refusing : Refusal → ℕ → Reply
refusing q at = record { number = refusal_no q; place = at; count = 0; flag = false; pairs = 0; value = zero64; steps = 0; peak = 0 }

-- the numbers of what is written, those of a run, of a cost and of a value: each has zeros for the others'
abbrev pub of_numbers : Numbers → Reply
of_numbers n = record { number = n.number; place = n.place; count = n.count; flag = n.flag; pairs = n.pairs; value = zero64; steps = 0; peak = 0 }

abbrev pub of_run_numbers : RunNumbers → Reply
of_run_numbers n = record { number = n.number; place = n.place; count = 0; flag = false; pairs = 0; value = n.value; steps = n.steps; peak = n.peak }

abbrev pub of_cost_numbers : CostNumbers → Reply
of_cost_numbers n = record { number = n.number; place = n.place; count = 0; flag = false; pairs = 0; value = zero64; steps = n.steps; peak = 0 }

abbrev pub of_value_numbers : ValueNumbers → Reply
of_value_numbers n = record { number = n.number; place = n.place; count = n.count; flag = false; pairs = 0; value = n.value; steps = 0; peak = 0 }

abbrev pub of_read : ReadAnswer → Reply
of_read a = of_numbers (read_numbers a)

abbrev pub of_answer : Answer → Reply
of_answer a = of_numbers (answer_numbers a)

abbrev pub of_run : RunAnswer → Reply
of_run a = of_run_numbers (numbers_of a)

abbrev pub of_cost : Result ℕ Refusal → Reply
of_cost a = of_cost_numbers (cost_numbers a)

abbrev pub of_value : Result Float Refusal → Reply
of_value a = of_value_numbers (value_numbers a)

-- of the input l and an output that was out and is out' then; run, cost and value have no output
abbrev pub Promised : Entry → List ℕ → List ℕ → List ℕ → Reply → Type 0
Promised read l out out' r = (a : ReadAnswer) × (r ≡ of_read a) × Promise (answer_of (read_list l)) (bytes_of (read_list l)) out out' a
Promised derive l out out' r = (a : Answer) × (r ≡ of_answer a) × OfBytes entries_in making.derive l out out' a
Promised integrate l out out' r = (a : Answer) × (r ≡ of_answer a) × OfBytes entries_in making.integrate l out out' a
Promised (write c) l out out' r = (a : Answer) × (r ≡ of_answer a) × OfBytes records_in (making.write c) l out out' a
Promised derivative l out out' r = (a : Answer) × (r ≡ of_answer a) × Gives records_in (lists.derivative l) out out' a
Promised integral l out out' r = (a : Answer) × (r ≡ of_answer a) × Gives records_in (lists.integral l) out out' a
Promised (write_faithful c) l out out' r = (a : Answer) × (r ≡ of_answer a) × OfBytes records_in (making.write_faithful c) l out out' a
Promised derivative_faithful l out out' r = (a : Answer) × (r ≡ of_answer a) × Gives records_in (lists.derivative_faithful l) out out' a
Promised integral_faithful l out out' r = (a : Answer) × (r ≡ of_answer a) × Gives records_in (lists.integral_faithful l) out out' a
Promised inverse l out out' r = (a : Answer) × (r ≡ of_answer a) × Gives records_in (lists.inverse l) out out' a
Promised (run x) l out out' r = (r ≡ of_run (run_list l x)) × (out' ≡ out)
Promised cost l out out' r = (r ≡ of_cost (cost_list l)) × (out' ≡ out)
Promised (value x) l out out' r = (a : Result Float Refusal) × (r ≡ of_value a) × ValueOfBytes l x a × (out' ≡ out)
