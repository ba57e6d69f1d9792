-- Reading a list: each node as a step, and what is left at the end.
use Rattle.formats.specs.declared.record.Kind.{Kind}
use Rattle.std.specs.Prelude.{ℕ, ◌+◌, Bool, false, List, [], ◌∷◌, Option, Some, None}
use Rattle.numbers.specs.Signs.{one64}
use Rattle.numbers.specs.Complex.Arith as complex
use Rattle.limits.specs.declared.Refusal.{Refusal}
use Rattle.limits.specs.declared.Refusal.TheVariants.{NoOutput, TooManyOutputs}
use Rattle.sums.specs.Tree.Kinds as kinds
use Rattle.sums.specs.Tree.Sums.{Sum, none}
use Rattle.arithmetic.specs.Singles.{single}
use Rattle.formats.specs.declared.record.Record.{Record}
use Rattle.formats.specs.declared.record.Kind.TheVariants.{RealPush, ComplexPush, ArrayPush, OtherPush, Primitive, Modifier, Body, Run, CustomInverse, Obverse, NoNormal, UnderMarker, AnythingElse}
use Rattle.formats.specs.Names.{kind_of, modifier_of}
use Rattle.formats.specs.Tree as tree
use Rattle.stack.specs.State.{State, Walked, went, stopped, is_handled}
use Rattle.modifiers.specs.declared.Inside.{Inside}
use Rattle.modifiers.specs.declared.Inside.TheVariants.{Nothing, Nodes, Bodies}
use Rattle.stack.specs.Steps.{leaf_step}
use Rattle.modifiers.specs.Modifiers.{Runner, run_all, modifier}

-- what a record has inside that is run: nothing, nodes that are run in turn, or a modifier's bodies
abbrev pub inside_of : Option Kind → Inside
inside_of (Some Modifier) = Bodies
inside_of (Some Body) = Nodes
inside_of (Some Run) = Nodes
inside_of (Some CustomInverse) = Nodes
inside_of (Some RealPush) = Nothing
inside_of (Some ComplexPush) = Nothing
inside_of (Some ArrayPush) = Nothing
inside_of (Some OtherPush) = Nothing
inside_of (Some Primitive) = Nothing
inside_of (Some Obverse) = Nothing
inside_of (Some NoNormal) = Nothing
inside_of (Some UnderMarker) = Nothing
inside_of (Some AnythingElse) = Nothing
inside_of None = Nothing

-- what comes of the record at a place
abbrev pub by_inside : Inside → ℕ → Record → List Runner → ℕ → State → Walked
by_inside Nothing at r fs h st = leaf_step at r (kind_of r.kind) h st
by_inside Nodes at r fs h st = run_all fs h st
by_inside Bodies at r fs h st = modifier at (modifier_of r.code) fs h st

unfoldable pub step_of : ℕ → Record → List Runner → ℕ → State → Walked
step_of at r fs h st = by_inside (inside_of (kind_of r.kind)) at r fs h st

-- each node as it is run; the first stands at the place
unfoldable pub runners : ℕ → tree.Nodes → List Runner
runners at tree.end = []
runners at (tree.rec r ns ms) = record { args = r.args; run = step_of at r (runners (at + 1) ns) } ∷ runners (at + 1 + tree.size ns) ms

-- the stack starts with x
abbrev pub start : State
start = record { stack = single kinds.X one64 none complex.one ∷ []; handled = 0; complex = false; pairs = 0 }

-- a sum with the complex flag, whether what was read counts as handled and the pairs multiplied; or a refusal with its place, and whether it counts as handled
pub data Read : Type 0 where
  done : Sum → Bool → Bool → ℕ → Read
  refused_at : Refusal → ℕ → Bool → Read

-- one sum must be left: else 3 or 4, at place 0
abbrev pub last_of : State → List Sum → Read
last_of st [] = refused_at NoOutput 0 (is_handled st)
last_of st (s ∷ []) = done s st.complex (is_handled st) st.pairs
last_of st (s ∷ t ∷ ss) = refused_at TooManyOutputs 0 (is_handled st)

abbrev pub ended : Walked → Read
ended (went st) = last_of st st.stack
ended (stopped q at b) = refused_at q at b

unfoldable pub read_nodes : tree.Nodes → Read
read_nodes ns = ended (run_all (runners 0 ns) 0 start)
