-- How many records a reading runs, up to its refusal or its end: each as often as it runs, bodies too. The states are those of the definition of reading.
use Rattle.std.specs.Prelude.{ℕ, suc, ◌+◌, ◌≡◌, Bool, cond, List, [], ◌∷◌, ◌++◌, leb, length, take, drop}
use Rattle.limits.specs.declared.Refusal.{Refusal}
use Rattle.sums.specs.Tree.Sums.{Sum}
use Rattle.formats.specs.declared.record.Record.{Record}
use Rattle.formats.specs.declared.record.Modifier.{Modifier}
use Rattle.formats.specs.declared.record.Modifier.TheVariants.{Dip, Gap, On, By, Both, Bracket, Fork, Unlisted}
use Rattle.formats.specs.Names.{kind_of, modifier_of}
use Rattle.formats.specs.Tree as tree
use Rattle.stack.specs.Stack.{total}
use Rattle.stack.specs.State.{State, with_stack, Walked, went, stopped, lend}
use Rattle.modifiers.specs.Holding.{deepest, back_to}
use Rattle.modifiers.specs.declared.Inside.{Inside}
use Rattle.modifiers.specs.declared.Inside.TheVariants.{Nothing, Nodes, Bodies}
use Rattle.modifiers.specs.Modifiers.{Runner, forked, most}
use Rattle.modifiers.specs.Reading.{inside_of, step_of, runners, start}

-- a node as it is run, and how many records run when it is, with h entries held
pub record Counter : Type 0 where
  pub node : Runner
  pub count : ℕ → State → ℕ

unfoldable pub nodes_of : List Counter → List Runner
nodes_of [] = []
nodes_of (f ∷ fs) = f.node ∷ nodes_of fs

-- nothing runs after a refusal
abbrev pub after : Walked → (State → ℕ) → ℕ
after (went st) f = f st
after (stopped q at b) f = 0

-- nodes in turn
unfoldable pub count_all : List Counter → ℕ → State → ℕ
count_all [] h st = 0
count_all (f ∷ fs) h st = f.count h st + after (f.node.run h st) (λ st'. count_all fs h st')

-- ---- modifiers

-- what is held when the first body runs, and the state then; or the modifier is refused before that
pub data Begun : Type 0 where
  begun : List Sum → State → Begun
  halted : Begun

abbrev pub with_held : List Sum → Walked → Begun
with_held ss (went st) = begun ss st
with_held ss (stopped q at b) = halted

-- the top n are taken off; f says what is made of them
abbrev pub taken_off : ℕ → State → (List Sum → State → Begun) → Begun
taken_off n st f = cond (leb n (length st.stack)) (f (take n st.stack) (with_stack (drop n st.stack) st)) halted

-- the top n are held, and copies of the deepest c of them lent; the top is dropped; the deepest of the top n is copied below them
abbrev pub opened : ℕ → ℕ → ℕ → ℕ → State → Begun
opened at n c h st = taken_off n st (λ ss st'. with_held ss (lend at (h + total ss) (deepest c ss) st'))

abbrev pub dropped : State → Begun
dropped st = taken_off 1 st (λ ss st'. begun [] st')

abbrev pub copied : ℕ → ℕ → ℕ → State → Begun
copied at n h st = taken_off n st (λ ss st'. with_held [] (lend at h (ss ++ deepest 1 ss) st'))

-- Where the definition of reading begins a modifier in the way `begin`, its bodies are counted from b: what follows goes on from there, or it is a refusal, whatever follows.
pub record BeginsAs (begin : (List Sum → State → Walked) → Walked) (b : Begun) : Type 0 where
  pub goes : (ss : List Sum) (st : State) → b ≡ begun ss st → (k : List Sum → State → Walked) → begin k ≡ k ss st
  pub halts : b ≡ halted → (q : Refusal) × (at : ℕ) × (h : Bool) × ((k : List Sum → State → Walked) → begin k ≡ stopped q at h)

-- g runs, what is held is put back, and f runs
abbrev pub count_around : Begun → ℕ → Counter → (State → ℕ) → ℕ
count_around halted h g f = 0
count_around (begun ss st) h g f = g.count (h + total ss) st + after (g.node.run (h + total ss) st) (λ st'. f (back_to ss st'))

-- the bodies of a Fork, the last of them first
abbrev pub count_forked : ℕ → ℕ → List Sum → List Counter → State → ℕ
count_forked at h ss [] st = 0
count_forked at h ss (f ∷ fs) st =
    count_forked at h ss fs st + after (forked at h ss (nodes_of fs) st) (λ st'. after (lend at h (deepest f.node.args ss) st') (f.count h))

abbrev pub count_fork : Begun → ℕ → ℕ → List Counter → ℕ
count_fork halted at h fs = 0
count_fork (begun ss st) at h fs = count_forked at (h + total ss) ss fs st

-- no body runs where there isn't exactly one, or aren't exactly two
abbrev pub of_one_body : List Counter → (Counter → ℕ) → ℕ
of_one_body [] k = 0
of_one_body (f ∷ []) k = k f
of_one_body (f ∷ g ∷ fs) k = 0

abbrev pub of_two_bodies : List Counter → (Counter → Counter → ℕ) → ℕ
of_two_bodies [] k = 0
of_two_bodies (f ∷ []) k = 0
of_two_bodies (f ∷ g ∷ []) k = k f g
of_two_bodies (f ∷ g ∷ e ∷ fs) k = 0

abbrev pub nothing : State → ℕ
nothing st = 0

abbrev pub count_modifier : ℕ → Modifier → List Counter → ℕ → State → ℕ
count_modifier at Dip fs h st = of_one_body fs (λ f. count_around (opened at 1 0 h st) h f nothing)
count_modifier at Gap fs h st = of_one_body fs (λ f. count_around (dropped st) h f nothing)
count_modifier at On fs h st = of_one_body fs (λ f. count_around (opened at 1 1 h st) h f nothing)
count_modifier at By fs h st = of_one_body fs (λ f. count_around (copied at f.node.args h st) h f nothing)
count_modifier at Both fs h st = of_one_body fs (λ f. count_around (opened at f.node.args 0 h st) h f (f.count h))
count_modifier at Bracket fs h st = of_two_bodies fs (λ f g. count_around (opened at f.node.args 0 h st) h g (f.count h))
count_modifier at Fork fs h st = count_fork (taken_off (most (nodes_of fs)) st begun) at h fs
count_modifier at Unlisted fs h st = 0

-- ---- a list

abbrev pub count_inside : Inside → ℕ → Record → List Counter → ℕ → State → ℕ
count_inside Nothing at r fs h st = 0
count_inside Nodes at r fs h st = count_all fs h st
count_inside Bodies at r fs h st = count_modifier at (modifier_of r.code) fs h st

-- the record at a place, over the nodes inside it as they are run and as they are counted
abbrev pub counter_of : ℕ → Record → List Runner → List Counter → Counter
counter_of at r gs fs = record { node = record { args = r.args; run = step_of at r gs }; count = λ h st. suc (count_inside (inside_of (kind_of r.kind)) at r fs h st) }

-- each node as it is counted; the first stands at the place
unfoldable pub counters : ℕ → tree.Nodes → List Counter
counters at tree.end = []
counters at (tree.rec r ns ms) = counter_of at r (runners (at + 1) ns) (counters (at + 1) ns) ∷ counters (at + 1 + tree.size ns) ms

-- how many records a reading of the list runs
unfoldable pub ran : tree.Nodes → ℕ
ran ns = count_all (counters 0 ns) 0 start
