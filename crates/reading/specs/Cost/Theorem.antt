-- What the cost of a list says of reading it.
use Rattle.std.specs.Prelude.{ℕ, ◌*◌, ◌≤◌, ◌<◌, ◌≡◌, Bool, false, ◌&&◌, ◌||◌, List, eqb, Ok}
use Rattle.sums.specs.Tree.Sums.{Sum}
use Rattle.formats.specs.declared.record.Record.{Record}
use Rattle.formats.specs.declared.record.Kind.TheVariants.{Modifier}
use Rattle.formats.specs.declared.record.Modifier.TheVariants.{Both}
use Rattle.formats.specs.Names.{modifier_no}
use Rattle.formats.specs.Rules.{is_a}
use Rattle.formats.specs.Tree.{Nodes, end, rec, size, parse}
use Rattle.stack.specs.State.{State, went}
use Rattle.modifiers.specs.Modifiers.{run_all}
use Rattle.modifiers.specs.Reading.{runners, start, read_nodes, done}
use Rattle.reading.specs.Cost.Cost.{cost_of, most_steps, cost_list}
use Rattle.reading.specs.Cost.Counting.{nodes_of, counters, ran}

-- what is counted is the reading itself: its runners are those of the definition of reading
abbrev pub CountsReading : Type 0
CountsReading = (ns : Nodes) → nodes_of (counters 0 ns) ≡ runners 0 ns

-- a reading runs at most as many records as the list costs; and exactly as many where no record is refused, so where a sum is read, or 3 or 4 is told
pub record Costs : Type 0 where
  pub most : (ns : Nodes) → ran ns ≤ cost_of ns
  pub exact : (ns : Nodes) (st : State) → run_all (runners 0 ns) 0 start ≡ went st → ran ns ≡ cost_of ns
  pub read : (ns : Nodes) (s : Sum) (c h : Bool) (k : ℕ) → read_nodes ns ≡ done s c h k → ran ns ≡ cost_of ns

-- of a list of bytes: what is told is the most that is run, unless it is the largest number, and where a sum is read it is what is run
pub record Tells : Type 0 where
  pub most : (l : List ℕ) (n : ℕ) → cost_list l ≡ Ok n → n < most_steps → ran (parse l) ≤ n
  pub read : (l : List ℕ) (n : ℕ) (s : Sum) (c h : Bool) (k : ℕ) → cost_list l ≡ Ok n → n < most_steps → read_nodes (parse l) ≡ done s c h k → ran (parse l) ≡ n

-- a reading multiplies at most 258,048 pairs of outermost terms for each record that it runs
abbrev pub PairsMost : Type 0
PairsMost = (ns : Nodes) (s : Sum) (c h : Bool) (k : ℕ) → read_nodes ns ≡ done s c h k → k ≤ 258048 * ran ns

-- ---- lists that can't be hostile

-- the record is a Both; one of the records is
abbrev pub is_both : Record → Bool
is_both r = is_a r Modifier && eqb r.code (modifier_no Both)

unfoldable pub has_both : Nodes → Bool
has_both end = false
has_both (rec r ns ms) = is_both r || has_both ns || has_both ms

-- a list without one costs at most as many steps as it has records
abbrev pub WithoutBoth : Type 0
WithoutBoth = (ns : Nodes) → has_both ns ≡ false → cost_of ns ≤ size ns
