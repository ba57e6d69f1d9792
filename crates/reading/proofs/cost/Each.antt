-- What is said of the counter of each node of a list, beside what the node costs. Assumes nothing.
use Prim.Native.Nat.{ℕ, ◌+◌}
use mathlib.Core.List.{List, [], ◌∷◌}
use Rattle.formats.specs.declared.record.Record.{Record}
use Rattle.formats.specs.Tree.{Nodes, end, rec, size}
use Rattle.modifiers.specs.Reading.{runners}
use Rattle.reading.specs.Cost.Cost.{own_cost, cost_of}
use Rattle.reading.specs.Cost.Counting.{Counter, counter_of, counters}

-- P n f says it of the counter f of a node that costs n
unfoldable pub Each : (ℕ → Counter → Type 0) → List Counter → Nodes → Type 0
Each P [] end = Unit {0}
Each P [] (rec r ns ms) = ⊥
Each P (f ∷ fs) end = ⊥
Each P (f ∷ fs) (rec r ns ms) = P (own_cost r ns (cost_of ns)) f × Each P fs ms

-- it holds of each where it holds of a record over what is inside it
pub each : (P : ℕ → Counter → Type 0)
    → ((at : ℕ) (r : Record) (ns : Nodes) → Each P (counters (at + 1) ns) ns → P (own_cost r ns (cost_of ns)) (counter_of at r (runners (at + 1) ns) (counters (at + 1) ns)))
    → (at : ℕ) (ns : Nodes) → Each P (counters at ns) ns
unfolding counters Each
each P own at end = tt
each P own at (rec r ns ms) = (own at r ns (each P own (at + 1) ns), each P own (at + 1 + size ns) ms)
