-- What the cost of a list says of the entries that read it and run it, and what uplink_cost tells a collector.
use Rattle.std.specs.Prelude.{ℕ, ◌*◌, ◌≤◌, ◌<◌, ◌≡◌, Bool, false, List, [], ◌∷◌, Float, Ok, Err}
use Rattle.limits.specs.declared.Refusal.{Refusal}
use Rattle.formats.specs.Tree.{parse}
use Rattle.running.specs.Running.{run_list, Value}
use Rattle.modifiers.specs.Reading.{refused_at}
use Rattle.reading.specs.Cost.Cost.{most_steps, cost_list}
use Rattle.reading.specs.Cost.Counting.{ran}
use Rattle.algebra.specs.declared.ReadAnswer.TheVariants.{Sum}
use Rattle.algebra.specs.Reading.{read_list}
use Rattle.algebra.specs.Replies as entry
use Rattle.uplink.specs.Told.{Told, with_cost}
use Rattle.theorems.specs.Composing.{ReadGives}

-- ---- the entries

-- What `cost` refuses, `read` refuses so, at place 0. Where `read` answers with a sum, it ran as many records as `cost` tells, unless that is the
-- largest number; and for each of them it multiplied at most 258,048 pairs. Where `run` gives a value, its steps are the cost.
pub record CostOfEntries : Type 0 where
  pub refuses : (l : List ℕ) (q : Refusal) → cost_list l ≡ Err q → read_list l ≡ refused_at q 0 false
  pub reads : (l out out' : List ℕ) (n m k : ℕ) (c : Bool) → cost_list l ≡ Ok n → n < most_steps → ReadGives (read_list l) out out' (Sum m c k) → ran (parse l) ≡ n
  pub pairs : (l out out' : List ℕ) (n m k : ℕ) (c : Bool) → cost_list l ≡ Ok n → ReadGives (read_list l) out out' (Sum m c k) → k ≤ 258048 * n
  pub runs : (l : List ℕ) (x v : Float) (n p : ℕ) → run_list l x ≡ Value v n p → cost_list l ≡ Ok n

-- ---- the C function

-- A collector asks uplink_cost, and turns the list away where the number that is returned isn't 0, or where the steps that are told are over a limit of
-- its own. What it then reads runs no more records than the limit.
abbrev pub Limited : Type 0
Limited = (l : List ℕ) (limit place steps : ℕ) → limit < most_steps → Told entry.cost with_cost l [] [] 0 (place ∷ steps ∷ []) → steps ≤ limit → ran (parse l) ≤ limit
