-- A reading runs at most as many records as the list costs. Assumes nothing.
use Prim.Native.Nat.{ℕ, ◌+◌, ◌*◌, ◌≤◌}
use native.Mathlib.Omega.{arith}
use mathlib.Core.Path.{subst}
use mathlib.Core.List.{List, [], ◌∷◌}
use Rattle.sums.specs.Tree.Sums.{Sum}
use Rattle.formats.specs.declared.record.Record.{Record}
use Rattle.formats.specs.declared.record.Modifier.{Modifier}
use Rattle.formats.specs.declared.record.Modifier.TheVariants.{Dip, Gap, On, By, Both, Bracket, Fork, Unlisted}
use Rattle.formats.specs.Names.{kind_of, modifier_of}
use Rattle.formats.specs.Tree as tree
use Rattle.stack.specs.Stack.{total}
use Rattle.stack.specs.State.{State, Walked, went, stopped, lend}
use Rattle.modifiers.specs.Holding.{deepest, back_to}
use Rattle.modifiers.specs.declared.Inside.{Inside}
use Rattle.modifiers.specs.declared.Inside.TheVariants.{Nothing, Nodes, Bodies}
use Rattle.modifiers.specs.Modifiers.{forked, most}
use Rattle.modifiers.specs.Reading.{inside_of, start}
use Rattle.reading.specs.Cost.Cost.{where_asked, times_of, inside_times, own_cost, cost_of}
use Rattle.reading.specs.Cost.Counting.{Counter, nodes_of, after, count_all, Begun, begun, halted, opened, dropped, copied, taken_off, count_around, count_forked, count_fork, of_one_body, of_two_bodies, nothing, count_modifier, count_inside, counters, ran}
use Rattle.reading.proofs.cost.Each.{Each, each}

-- a count that is at most n, whatever is held and whatever the state is
abbrev Below : ℕ → Counter → Type 0
Below n f = (h : ℕ) (st : State) → f.count h st ≤ n

after-most : (w : Walked) (f : State → ℕ) (n : ℕ) → ((st : State) → f st ≤ n) → after w f ≤ n
after-most (went st) f n h = h st
after-most (stopped q at b) f n h = omega arith

all_most : (fs : List Counter) (ns : tree.Nodes) → Each Below fs ns → (h : ℕ) (st : State) → count_all fs h st ≤ cost_of ns
unfolding Each count_all cost_of
all_most [] tree.end e h st = omega arith
all_most [] (tree.rec r ns ms) e h st = absurd e
all_most (f ∷ fs) tree.end e h st = absurd e
all_most (f ∷ fs) (tree.rec r ns ms) e h st =
    let a = e.0 h st in
    let b = after-most (f.node.run h st) (λ st'. count_all fs h st') (cost_of ms) (λ st'. all_most fs ms e.1 h st') in
    omega arith

around-most : (b : Begun) (h : ℕ) (g : Counter) (f : State → ℕ) (n m : ℕ) → Below n g → ((st : State) → f st ≤ m) → count_around b h g f ≤ n + m
around-most halted h g f n m p q = omega arith
around-most (begun ss st) h g f n m p q =
    let a = p (h + total ss) st in
    let b = after-most (g.node.run (h + total ss) st) (λ st'. f (back_to ss st')) m (λ st'. q (back_to ss st')) in
    omega arith

-- with nothing to run when what is held is back
once-most : (b : Begun) (h : ℕ) (f : Counter) (n : ℕ) → Below n f → count_around b h f nothing ≤ 1 * n
once-most b h f n p = let a = around-most b h f nothing n 0 p (λ st. omega arith) in omega arith

forked-most : (at h : ℕ) (ss : List Sum) (fs : List Counter) (ns : tree.Nodes) → Each Below fs ns → (st : State) → count_forked at h ss fs st ≤ cost_of ns
unfolding Each cost_of
forked-most at h ss [] tree.end e st = omega arith
forked-most at h ss [] (tree.rec r ns ms) e st = absurd e
forked-most at h ss (f ∷ fs) tree.end e st = absurd e
forked-most at h ss (f ∷ fs) (tree.rec r ns ms) e st =
    let n = own_cost r ns (cost_of ns) in
    let lent : State → Walked = λ st'. lend at h (deepest f.node.args ss) st' in
    let a = forked-most at h ss fs ms e.1 st in
    let b = after-most (forked at h ss (nodes_of fs) st) (λ st'. after (lent st') (f.count h)) n (λ st'. after-most (lent st') (f.count h) n (λ st''. e.0 h st'')) in
    omega arith

fork-most : (b : Begun) (at h : ℕ) (fs : List Counter) (ns : tree.Nodes) → Each Below fs ns → count_fork b at h fs ≤ 1 * cost_of ns
fork-most halted at h fs ns e = omega arith
fork-most (begun ss st) at h fs ns e = let a = forked-most at (h + total ss) ss fs ns e st in omega arith

-- where there is one body, and where there are two
one-most : (fs : List Counter) (ns : tree.Nodes) (times : ℕ) (k : Counter → ℕ) → Each Below fs ns → ((f : Counter) (n : ℕ) → Below n f → k f ≤ times * n)
    → of_one_body fs k ≤ where_asked 1 times (tree.count ns) * cost_of ns
unfolding Each cost_of tree.count
one-most [] tree.end times k e q = omega arith
one-most [] (tree.rec r ns ms) times k e q = absurd e
one-most (f ∷ fs) tree.end times k e q = absurd e
one-most (f ∷ []) (tree.rec r ns tree.end) times k e q = let a = q f (own_cost r ns (cost_of ns)) e.0 in subst (λ (n : ℕ). k f ≤ times * n) (omega arith) a
one-most (f ∷ []) (tree.rec r ns (tree.rec s is ms)) times k e q = absurd e.1
one-most (f ∷ g ∷ fs) (tree.rec r ns ms) times k e q = omega arith

two-most : (fs : List Counter) (ns : tree.Nodes) (k : Counter → Counter → ℕ) → Each Below fs ns → ((f g : Counter) (n m : ℕ) → Below n f → Below m g → k f g ≤ m + n)
    → of_two_bodies fs k ≤ where_asked 2 1 (tree.count ns) * cost_of ns
unfolding Each cost_of tree.count
two-most [] tree.end k e q = omega arith
two-most [] (tree.rec r ns ms) k e q = absurd e
two-most (f ∷ fs) tree.end k e q = absurd e
two-most (f ∷ []) (tree.rec r ns ms) k e q = omega arith
two-most (f ∷ g ∷ []) (tree.rec r ns tree.end) k e q = absurd e.1
two-most (f ∷ g ∷ []) (tree.rec r ns (tree.rec s is tree.end)) k e q = let a = q f g (own_cost r ns (cost_of ns)) (own_cost s is (cost_of is)) e.0 e.1.0 in omega arith
two-most (f ∷ g ∷ []) (tree.rec r ns (tree.rec s is (tree.rec t js ms))) k e q = absurd e.1.1
two-most (f ∷ g ∷ d ∷ fs) (tree.rec r ns ms) k e q = omega arith

modifier-most : (at : ℕ) (m : Modifier) (fs : List Counter) (ns : tree.Nodes) → Each Below fs ns → (h : ℕ) (st : State) → count_modifier at m fs h st ≤ times_of m (tree.count ns) * cost_of ns
modifier-most at Dip fs ns e h st = one-most fs ns 1 _ e (once-most (opened at 1 0 h st) h)
modifier-most at Gap fs ns e h st = one-most fs ns 1 _ e (once-most (dropped st) h)
modifier-most at On fs ns e h st = one-most fs ns 1 _ e (once-most (opened at 1 1 h st) h)
modifier-most at By fs ns e h st = one-most fs ns 1 _ e (λ f. once-most (copied at f.node.args h st) h f)
modifier-most at Both fs ns e h st = one-most fs ns 2 _ e (λ f n p. let a = around-most (opened at f.node.args 0 h st) h f (f.count h) n n p (λ st'. p h st') in omega arith)
modifier-most at Bracket fs ns e h st = two-most fs ns _ e (λ f g n m p q. around-most (opened at f.node.args 0 h st) h g (f.count h) m n q (λ st'. p h st'))
modifier-most at Fork fs ns e h st = fork-most (taken_off (most (nodes_of fs)) st begun) at h fs ns e
modifier-most at Unlisted fs ns e h st = omega arith

inside-most : (i : Inside) (at : ℕ) (r : Record) (fs : List Counter) (ns : tree.Nodes) → Each Below fs ns → (h : ℕ) (st : State) → count_inside i at r fs h st ≤ inside_times i r ns * cost_of ns
inside-most Nothing at r fs ns e h st = omega arith
inside-most Nodes at r fs ns e h st = let a = all_most fs ns e h st in omega arith
inside-most Bodies at r fs ns e h st = modifier-most at (modifier_of r.code) fs ns e h st

-- a reading runs at most as many records as the list costs
pub ran-most : (ns : tree.Nodes) → ran ns ≤ cost_of ns
unfolding ran
ran-most ns =
    all_most (counters 0 ns) ns
    (each Below (λ at r is e h st. let a = inside-most (inside_of (kind_of r.kind)) at r (counters (at + 1) is) is e h st in omega arith) 0 ns)
    0 start
