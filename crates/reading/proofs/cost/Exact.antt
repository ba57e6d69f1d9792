-- A reading in which no record is refused runs exactly as many records as the list costs. Assumes nothing.
use Prim.Native.Nat.{ℕ, ◌+◌, ◌*◌}
use native.Mathlib.Omega.{arith}
use mathlib.Core.Path.{◌≡◌, refl, ap, subst, ◌∙◌}
use mathlib.Core.List.{List, [], ◌∷◌}
use Rattle.sums.specs.Tree.Sums.{Sum}
use Rattle.formats.specs.declared.record.Record.{Record}
use Rattle.formats.specs.declared.record.Modifier.{Modifier}
use Rattle.formats.specs.declared.record.Modifier.TheVariants.{Dip, Gap, On, By, Both, Bracket, Fork, Unlisted}
use Rattle.formats.specs.Names.{kind_of, modifier_of}
use Rattle.formats.specs.Tree as tree
use Rattle.stack.specs.Stack.{total}
use Rattle.stack.specs.State.{State, Walked, went, stopped, and_then, taking, lend}
use Rattle.modifiers.specs.Holding.{deepest, back_to}
use Rattle.modifiers.specs.declared.Inside.{Inside}
use Rattle.modifiers.specs.declared.Inside.TheVariants.{Nothing, Nodes, Bodies}
use Rattle.modifiers.specs.Modifiers.{Runner, run_all, around, forked, most, one_body, two_bodies, modifier}
use Rattle.modifiers.specs.Reading.{inside_of, by_inside, step_of, runners, start}
use Rattle.reading.specs.Cost.Cost.{where_asked, times_of, inside_times, own_cost, cost_of}
use Rattle.reading.specs.Cost.Counting.{Counter, nodes_of, after, count_all, Begun, begun, taken_off, opened, dropped, copied, BeginsAs, count_around, count_forked, count_fork, of_one_body, of_two_bodies, nothing, count_modifier, count_inside, counters, ran}
use Rattle.reading.proofs.cost.Each.{Each, each}
use Rattle.reading.proofs.cost.Begins.{hold-begins, drop-begins, copy-begins, fork-begins, never, opens}

then-went : (w : Walked) (f : State → Walked) (v : State) → and_then w f ≡ went v → (m : State) × (w ≡ went m) × (f m ≡ went v)
then-went (went m) f v e = (m, refl, e)
then-went (stopped q at b) f v e = absurd (never e)

after_is : (w : Walked) (f : State → ℕ) (m : State) → w ≡ went m → after w f ≡ f m
after_is w f m e = rw e

-- a node that goes through counts n
abbrev Exact : ℕ → Counter → Type 0
Exact n f = (h : ℕ) (st v : State) → f.node.run h st ≡ went v → f.count h st ≡ n

all-exact : (fs : List Counter) (ns : tree.Nodes) → Each Exact fs ns → (h : ℕ) (st v : State) → run_all (nodes_of fs) h st ≡ went v → count_all fs h st ≡ cost_of ns
unfolding Each count_all cost_of run_all nodes_of
all-exact [] tree.end e h st v d = refl
all-exact [] (tree.rec r ns ms) e h st v d = absurd e
all-exact (f ∷ fs) tree.end e h st v d = absurd e
all-exact (f ∷ fs) (tree.rec r ns ms) e h st v d =
    let t = then-went (f.node.run h st) (λ u. run_all (nodes_of fs) h u) v d in
    let a = e.0 h st t.0 t.1 in
    let b = after_is (f.node.run h st) (λ u. count_all fs h u) t.0 t.1 in
    let c = all-exact fs ms e.1 h t.0 v t.2 in
    omega arith

-- ---- modifiers

-- g runs, what is held is put back, and f, which counts m where it goes through, runs
around-exact : {begin : (List Sum → State → Walked) → Walked} (b : Begun) → BeginsAs begin b → (h : ℕ) (g : Counter) (f : State → ℕ) (r : State → Walked) (n m : ℕ) (v : State)
    → Exact n g → ((u w : State) → r u ≡ went w → f u ≡ m) → around h begin g.node.run r ≡ went v → count_around b h g f ≡ n + m
around-exact b B h g f r n m v p q d =
    let o = opens b B (λ ss s. and_then (g.node.run (h + total ss) s) (λ u. r (back_to ss u))) v d in
    rw o.2 (go o.0 o.1 o.3)
  where
    go : (ss : List Sum) (s : State) → and_then (g.node.run (h + total ss) s) (λ u. r (back_to ss u)) ≡ went v → count_around (begun ss s) h g f ≡ n + m
    go ss s d =
        let t = then-went (g.node.run (h + total ss) s) (λ u. r (back_to ss u)) v d in
        let a = p (h + total ss) s t.0 t.1 in
        let b = after_is (g.node.run (h + total ss) s) (λ u. f (back_to ss u)) t.0 t.1 in
        let c = q (back_to ss t.0) v t.2 in
        omega arith

-- with nothing to run when what is held is back
once-exact : {begin : (List Sum → State → Walked) → Walked} (b : Begun) → BeginsAs begin b → (h : ℕ) (f : Counter) (n : ℕ) (v : State)
    → Exact n f → around h begin f.node.run went ≡ went v → count_around b h f nothing ≡ 1 * n
once-exact b B h f n v p d = let a = around-exact b B h f nothing went n 0 v p (λ u w q. refl) d in omega arith

forked-exact : (at h : ℕ) (ss : List Sum) (fs : List Counter) (ns : tree.Nodes) → Each Exact fs ns → (st v : State) → forked at h ss (nodes_of fs) st ≡ went v
    → count_forked at h ss fs st ≡ cost_of ns
unfolding Each cost_of forked nodes_of
forked-exact at h ss [] tree.end e st v d = refl
forked-exact at h ss [] (tree.rec r ns ms) e st v d = absurd e
forked-exact at h ss (f ∷ fs) tree.end e st v d = absurd e
forked-exact at h ss (f ∷ fs) (tree.rec r ns ms) e st v d =
    let lent : State → Walked = λ u. lend at h (deepest f.node.args ss) u in
    let t = then-went (forked at h ss (nodes_of fs) st) (λ u. and_then (lent u) (f.node.run h)) v d in
    let s = then-went (lent t.0) (f.node.run h) v t.2 in
    let a = forked-exact at h ss fs ms e.1 st t.0 t.1 in
    let b = after_is (forked at h ss (nodes_of fs) st) (λ u. after (lent u) (f.count h)) t.0 t.1 in
    let c = after_is (lent t.0) (f.count h) s.0 s.1 in
    let g = e.0 h s.0 v s.2 in
    omega arith

-- where there is one body, and where there are two
one-exact : (at : ℕ) (fs : List Counter) (ns : tree.Nodes) (times : ℕ) (st v : State) (k : Counter → ℕ) (run : Runner → Walked) → Each Exact fs ns
    → ((f : Counter) (n : ℕ) → Exact n f → run f.node ≡ went v → k f ≡ times * n) → one_body at (nodes_of fs) st run ≡ went v
    → of_one_body fs k ≡ where_asked 1 times (tree.count ns) * cost_of ns
unfolding Each cost_of tree.count nodes_of
one-exact at [] ns times st v k run e q d = absurd (never d)
one-exact at (f ∷ g ∷ fs) ns times st v k run e q d = absurd (never d)
one-exact at (f ∷ []) tree.end times st v k run e q d = absurd e
one-exact at (f ∷ []) (tree.rec r ns (tree.rec s is ms)) times st v k run e q d = absurd e.1
one-exact at (f ∷ []) (tree.rec r ns tree.end) times st v k run e q d = subst (λ (n : ℕ). k f ≡ times * n) (omega arith) (q f (own_cost r ns (cost_of ns)) e.0 d)

two-exact : (at : ℕ) (fs : List Counter) (ns : tree.Nodes) (st v : State) (k : Counter → Counter → ℕ) (run : Runner → Runner → Walked) → Each Exact fs ns
    → ((f g : Counter) (n m : ℕ) → Exact n f → Exact m g → run f.node g.node ≡ went v → k f g ≡ m + n) → two_bodies at (nodes_of fs) st run ≡ went v
    → of_two_bodies fs k ≡ where_asked 2 1 (tree.count ns) * cost_of ns
unfolding Each cost_of tree.count nodes_of
two-exact at [] ns st v k run e q d = absurd (never d)
two-exact at (f ∷ []) ns st v k run e q d = absurd (never d)
two-exact at (f ∷ g ∷ c ∷ fs) ns st v k run e q d = absurd (never d)
two-exact at (f ∷ g ∷ []) tree.end st v k run e q d = absurd e
two-exact at (f ∷ g ∷ []) (tree.rec r ns tree.end) st v k run e q d = absurd e.1
two-exact at (f ∷ g ∷ []) (tree.rec r ns (tree.rec s is (tree.rec t js ms))) st v k run e q d = absurd e.1.1
two-exact at (f ∷ g ∷ []) (tree.rec r ns (tree.rec s is tree.end)) st v k run e q d =
    let a = q f g (own_cost r ns (cost_of ns)) (own_cost s is (cost_of is)) e.0 e.1.0 d in omega arith

fork-exact : (at : ℕ) (fs : List Counter) (ns : tree.Nodes) → Each Exact fs ns → (h : ℕ) (st v : State)
    → taking at (most (nodes_of fs)) st (λ ss s. forked at (h + total ss) ss (nodes_of fs) s) ≡ went v → count_fork (taken_off (most (nodes_of fs)) st begun) at h fs ≡ 1 * cost_of ns
fork-exact at fs ns e h st v d =
    let b = taken_off (most (nodes_of fs)) st begun in
    let o = opens b (fork-begins at (most (nodes_of fs)) st) (λ ss s. forked at (h + total ss) ss (nodes_of fs) s) v d in
    let a = forked-exact at (h + total o.0) o.0 fs ns e o.1 v o.3 in
    ap (λ (x : Begun). count_fork x at h fs) o.2 ∙ omega arith

modifier-exact : (at : ℕ) (m : Modifier) (fs : List Counter) (ns : tree.Nodes) → Each Exact fs ns → (h : ℕ) (st v : State) → modifier at m (nodes_of fs) h st ≡ went v
    → count_modifier at m fs h st ≡ times_of m (tree.count ns) * cost_of ns
unfolding modifier
modifier-exact at Dip fs ns e h st v d = one-exact at fs ns 1 st v _ _ e (λ f n p q. once-exact (opened at 1 0 h st) (hold-begins at 1 0 h st) h f n v p q) d
modifier-exact at Gap fs ns e h st v d = one-exact at fs ns 1 st v _ _ e (λ f n p q. once-exact (dropped st) (drop-begins at st) h f n v p q) d
modifier-exact at On fs ns e h st v d = one-exact at fs ns 1 st v _ _ e (λ f n p q. once-exact (opened at 1 1 h st) (hold-begins at 1 1 h st) h f n v p q) d
modifier-exact at By fs ns e h st v d =
    one-exact at fs ns 1 st v _ _ e (λ f n p q. once-exact (copied at f.node.args h st) (copy-begins at f.node.args h st) h f n v p q) d
modifier-exact at Both fs ns e h st v d =
    one-exact at fs ns 2 st v _ _ e
    (λ f n p q. let a = around-exact (opened at f.node.args 0 h st) (hold-begins at f.node.args 0 h st) h f (f.count h) (f.node.run h) n n v p (p h) q in omega arith)
    d
modifier-exact at Bracket fs ns e h st v d =
    two-exact at fs ns st v _ _ e
    (λ f g n m p q z. around-exact (opened at f.node.args 0 h st) (hold-begins at f.node.args 0 h st) h g (f.count h) (f.node.run h) m n v q (p h) z)
    d
modifier-exact at Fork fs ns e h st v d = fork-exact at fs ns e h st v d
modifier-exact at Unlisted fs ns e h st v d = absurd (never d)

-- ---- a list

inside-exact : (i : Inside) (at : ℕ) (r : Record) (fs : List Counter) (ns : tree.Nodes) → Each Exact fs ns → (h : ℕ) (st v : State) → by_inside i at r (nodes_of fs) h st ≡ went v
    → count_inside i at r fs h st ≡ inside_times i r ns * cost_of ns
inside-exact Nothing at r fs ns e h st v d = omega arith
inside-exact Nodes at r fs ns e h st v d = let a = all-exact fs ns e h st v d in omega arith
inside-exact Bodies at r fs ns e h st v d = modifier-exact at (modifier_of r.code) fs ns e h st v d

-- what is counted is what the definition of reading runs
pub nodes-runners : (at : ℕ) (ns : tree.Nodes) → nodes_of (counters at ns) ≡ runners at ns
unfolding nodes_of counters runners
nodes-runners at tree.end = refl
nodes-runners at (tree.rec r ns ms) = ap (λ (fs : List Runner). record { args = r.args; run = step_of at r (runners (at + 1) ns) } ∷ fs) (nodes-runners (at + 1 + tree.size ns) ms)

record-exact : (at : ℕ) (r : Record) (ns : tree.Nodes) → Each Exact (counters (at + 1) ns) ns → (h : ℕ) (st v : State) → step_of at r (runners (at + 1) ns) h st ≡ went v
    → count_inside (inside_of (kind_of r.kind)) at r (counters (at + 1) ns) h st ≡ inside_times (inside_of (kind_of r.kind)) r ns * cost_of ns
unfolding step_of
record-exact at r ns e h st v d =
    let i = inside_of (kind_of r.kind) in
    inside-exact i at r (counters (at + 1) ns) ns e h st v (ap (λ (fs : List Runner). by_inside i at r fs h st) (nodes-runners (at + 1) ns) ∙ d)

pub ran-exact : (ns : tree.Nodes) (v : State) → run_all (runners 0 ns) 0 start ≡ went v → ran ns ≡ cost_of ns
unfolding ran
ran-exact ns v d =
    all-exact (counters 0 ns) ns (each Exact (λ at r is e h st u q. let a = record-exact at r is e h st u q in omega arith) 0 ns) 0 start v
    (ap (λ (fs : List Runner). run_all fs 0 start) (nodes-runners 0 ns) ∙ d)
