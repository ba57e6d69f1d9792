-- A reading multiplies at most so many pairs for each record that it runs: the sums on the stack are good all the way. Assumes nothing.
use Prim.Native.Nat.{ℕ, suc, ◌+◌, ◌*◌, ◌≤◌}
use native.Mathlib.Omega.{arith}
use mathlib.Core.Path.{◌≡◌, refl, sym, subst}
use mathlib.Core.Bool.{Bool, true, false, cond}
use mathlib.Core.List.{List, [], ◌∷◌, ◌++◌}
use lib.Dec.{leb}
use lib.ListN.{length, take, drop}
use Rattle.limits.specs.declared.Refusal.TheVariants.{NoRoom}
use Rattle.sums.specs.Tree.Sums.{Sum}
use Rattle.arithmetic.specs.Singles.{GoodSum}
use Rattle.formats.specs.declared.record.Record.{Record}
use Rattle.formats.specs.declared.record.Modifier.{Modifier}
use Rattle.formats.specs.declared.record.Modifier.TheVariants.{Dip, Gap, On, By, Both, Bracket, Fork, Unlisted}
use Rattle.formats.specs.Names.{kind_of, modifier_of}
use Rattle.formats.specs.Tree as tree
use Rattle.stack.specs.Stack.{total}
use Rattle.stack.specs.State.{State, with_stack, Walked, went, stopped, and_then, lend}
use Rattle.modifiers.specs.Holding.{deepest, back_to}
use Rattle.modifiers.specs.declared.Inside.{Inside}
use Rattle.modifiers.specs.declared.Inside.TheVariants.{Nothing, Nodes, Bodies}
use Rattle.modifiers.specs.Modifiers.{Runner, run_all, around, forked, most, one_body, two_bodies, modifier}
use Rattle.modifiers.specs.Reading.{inside_of, by_inside, step_of, runners, start, done, last_of, ended, read_nodes}
use Rattle.modifiers.proofs.Keeps.{each_take, each-drop, each_append, each-deepest}
use Rattle.modifiers.proofs.Good.{x-good}
use Rattle.modifiers.proofs.Pairs.{Fine, Within, within_more, lend-within, leaf-within}
use Rattle.reading.specs.Cost.Counting.{Counter, nodes_of, after, count_all, Begun, begun, halted, with_held, taken_off, opened, dropped, copied, BeginsAs, count_around, count_forked, count_fork, of_one_body, of_two_bodies, nothing, count_modifier, count_inside, counter_of, counters, ran}
use Rattle.reading.specs.Cost.Theorem.{PairsMost}
use Rattle.reading.proofs.cost.Begins.{hold-begins, drop-begins, copy-begins, fork-begins}
use Rattle.reading.proofs.cost.Exact.{nodes-runners}

-- a node multiplies at most as many pairs as the records that run
abbrev Bounded : Counter → Type 0
Bounded f = (h : ℕ) (st : State) → Fine st.stack → Within st.pairs (f.count h st) (f.node.run h st)

abbrev AllBounded : List Counter → Type 0
AllBounded [] = Unit {0}
AllBounded (f ∷ fs) = Bounded f × AllBounded fs

-- one run after another
on-within : (p n q m : ℕ) (w : Walked) → q ≤ p + 258048 * n → Within q m w → Within p (n + m) w
on-within p n q m (went st) le a = (a.0, let few = a.1 in omega arith)
on-within p n q m (stopped r at b) le a = tt

then-within : (p n : ℕ) (w : Walked) (g : State → ℕ) (f : State → Walked) → Within p n w → ((st : State) → Fine st.stack → Within st.pairs (g st) (f st))
    → Within p (n + after w g) (and_then w f)
then-within p n (went st) g f a k = on-within p n st.pairs (g st) (f st) a.1 (k st a.0)
then-within p n (stopped q at b) g f a k = tt

all-within : (fs : List Counter) → AllBounded fs → (h : ℕ) (st : State) → Fine st.stack → Within st.pairs (count_all fs h st) (run_all (nodes_of fs) h st)
unfolding count_all run_all nodes_of
all-within [] a h st k = (k, omega arith)
all-within (f ∷ fs) a h st k =
    then-within st.pairs (f.count h st) (f.node.run h st) (λ u. count_all fs h u) (λ u. run_all (nodes_of fs) h u) (a.0 h st k) (λ u l. all-within fs a.1 h u l)

-- ---- modifiers

-- what is held and what is on the stack is good when the first body runs, and no pair was multiplied
abbrev Opened : ℕ → Begun → Type 0
Opened p (begun ss st) = Fine ss × Fine st.stack × (st.pairs ≡ p)
Opened p halted = Unit {0}

taken-opened : (n : ℕ) (st : State) (g : List Sum → State → Begun) → Fine st.stack → ((ss ts : List Sum) → Fine ss → Fine ts → Opened st.pairs (g ss (with_stack ts st)))
    → Opened st.pairs (taken_off n st g)
taken-opened n st g k q = go (leb n (length st.stack))
  where
    go : (b : Bool) → Opened st.pairs (cond b (g (take n st.stack) (with_stack (drop n st.stack) st)) halted)
    go true =
        q (take n st.stack) (drop n st.stack) (each_take (λ c s. GoodSum s) false n st.stack k) (each-drop (λ c s. GoodSum s) false n st.stack k)
    go false = tt

held-opened : (at h : ℕ) (ss ls : List Sum) (st : State) → Fine ss → Fine ls → Fine st.stack → Opened st.pairs (with_held ss (lend at h ls st))
unfolding lend
held-opened at h ss ls st e l k = go (leb (h + total ls + total st.stack) 1024)
  where
    go : (b : Bool) → Opened st.pairs (with_held ss (cond b (went (with_stack (ls ++ st.stack) st)) (stopped NoRoom at false)))
    go true = (e, each_append (λ c s. GoodSum s) false ls st.stack l k, refl)
    go false = tt

module _ (at h : ℕ) (st : State) (k : Fine st.stack) where
  hold-opened : (n c : ℕ) → Opened st.pairs (opened at n c h st)
  hold-opened n c =
      taken-opened n st (λ ss u. with_held ss (lend at (h + total ss) (deepest c ss) u)) k
      (λ ss ts e l. held-opened at (h + total ss) ss (deepest c ss) (with_stack ts st) e (each-deepest (λ c s. GoodSum s) false c ss e) l)

  drop-opened : Opened st.pairs (dropped st)
  drop-opened = taken-opened 1 st (λ ss u. begun [] u) k (λ ss ts e l. (tt, l, refl))

  copy-opened : (n : ℕ) → Opened st.pairs (copied at n h st)
  copy-opened n =
      taken-opened n st (λ ss u. with_held [] (lend at h (ss ++ deepest 1 ss) u)) k
      (λ ss ts e l.
      held-opened at h [] (ss ++ deepest 1 ss) (with_stack ts st) tt
      (each_append (λ c s. GoodSum s) false ss (deepest 1 ss) e (each-deepest (λ c s. GoodSum s) false 1 ss e)) l)

-- what follows a beginning
begins-within : {begin : (List Sum → State → Walked) → Walked} (p : ℕ) (b : Begun) → BeginsAs begin b → Opened p b → (n : Begun → ℕ) (f : List Sum → State → Walked)
    → ((ss : List Sum) (s : State) → Fine ss → Fine s.stack → Within s.pairs (n (begun ss s)) (f ss s)) → Within p (n b) (begin f)
begins-within p (begun ss s) B o n f q =
    subst (λ (w : Walked). Within p (n (begun ss s)) w) (sym (B.goes ss s refl f))
    (subst (λ (x : ℕ). Within x (n (begun ss s)) (f ss s)) o.2 (q ss s o.0 o.1))
begins-within p halted B o n f q = subst (λ (w : Walked). Within p (n halted) w) (sym ((B.halts refl).3 f)) tt

around-within : {begin : (List Sum → State → Walked) → Walked} (p : ℕ) (b : Begun) → BeginsAs begin b → Opened p b → (h : ℕ) (g : Counter) (f : State → ℕ) (r : State → Walked) → Bounded g
    → ((u : State) → Fine u.stack → Within u.pairs (f u) (r u)) → Within p (count_around b h g f) (around h begin g.node.run r)
around-within p b B o h g f r x y =
    begins-within p b B o (λ c. count_around c h g f) (λ ss s. and_then (g.node.run (h + total ss) s) (λ u. r (back_to ss u)))
    (λ ss s e k.
    then-within s.pairs (g.count (h + total ss) s) (g.node.run (h + total ss) s) (λ u. f (back_to ss u)) (λ u. r (back_to ss u)) (x (h + total ss) s k)
    (λ u l. y (back_to ss u) (each_append (λ c s. GoodSum s) false ss u.stack e l)))

-- with nothing to run when what is held is back
once-within : {begin : (List Sum → State → Walked) → Walked} (p : ℕ) (b : Begun) → BeginsAs begin b → Opened p b → (h : ℕ) (g : Counter) → Bounded g
    → Within p (count_around b h g nothing) (around h begin g.node.run went)
once-within p b B o h g x = around-within p b B o h g nothing went x (λ u k. (k, omega arith))

forked-within : (at h : ℕ) (ss : List Sum) → Fine ss → (fs : List Counter) → AllBounded fs → (st : State) → Fine st.stack
    → Within st.pairs (count_forked at h ss fs st) (forked at h ss (nodes_of fs) st)
unfolding forked nodes_of
forked-within at h ss e [] a st k = (k, omega arith)
forked-within at h ss e (f ∷ fs) a st k =
    let lent : State → Walked = λ u. lend at h (deepest f.node.args ss) u in
    then-within st.pairs (count_forked at h ss fs st) (forked at h ss (nodes_of fs) st) (λ u. after (lent u) (f.count h)) (λ u. and_then (lent u) (f.node.run h))
    (forked-within at h ss e fs a.1 st k)
    (λ u l.
    let given = lend-within u.pairs 0 at h (deepest f.node.args ss) u (each-deepest (λ c s. GoodSum s) false f.node.args ss e) l (omega arith) in
    within_more u.pairs (and_then (lent u) (f.node.run h)) (omega arith) (then-within u.pairs 0 (lent u) (f.count h) (f.node.run h) given (λ v m. a.0 h v m)))

-- where there is one body, and where there are two
one-within : (p at : ℕ) (fs : List Counter) (st : State) (n : Counter → ℕ) (run : Runner → Walked) → AllBounded fs → ((f : Counter) → Bounded f → Within p (n f) (run f.node))
    → Within p (of_one_body fs n) (one_body at (nodes_of fs) st run)
unfolding nodes_of
one-within p at [] st n run a q = tt
one-within p at (f ∷ []) st n run a q = q f a.0
one-within p at (f ∷ g ∷ fs) st n run a q = tt

two-within : (p at : ℕ) (fs : List Counter) (st : State) (n : Counter → Counter → ℕ) (run : Runner → Runner → Walked) → AllBounded fs
    → ((f g : Counter) → Bounded f → Bounded g → Within p (n f g) (run f.node g.node)) → Within p (of_two_bodies fs n) (two_bodies at (nodes_of fs) st run)
unfolding nodes_of
two-within p at [] st n run a q = tt
two-within p at (f ∷ []) st n run a q = tt
two-within p at (f ∷ g ∷ []) st n run a q = q f g a.0 a.1.0
two-within p at (f ∷ g ∷ e ∷ fs) st n run a q = tt

modifier-within : (at : ℕ) (m : Modifier) (fs : List Counter) → AllBounded fs → (h : ℕ) (st : State) → Fine st.stack
    → Within st.pairs (count_modifier at m fs h st) (modifier at m (nodes_of fs) h st)
unfolding modifier
modifier-within at Dip fs a h st k = one-within st.pairs at fs st _ _ a (λ f x. once-within st.pairs (opened at 1 0 h st) (hold-begins at 1 0 h st) (hold-opened at h st k 1 0) h f x)
modifier-within at Gap fs a h st k = one-within st.pairs at fs st _ _ a (λ f x. once-within st.pairs (dropped st) (drop-begins at st) (drop-opened at h st k) h f x)
modifier-within at On fs a h st k = one-within st.pairs at fs st _ _ a (λ f x. once-within st.pairs (opened at 1 1 h st) (hold-begins at 1 1 h st) (hold-opened at h st k 1 1) h f x)
modifier-within at By fs a h st k =
    one-within st.pairs at fs st _ _ a (λ f x. once-within st.pairs (copied at f.node.args h st) (copy-begins at f.node.args h st) (copy-opened at h st k f.node.args) h f x)
modifier-within at Both fs a h st k =
    one-within st.pairs at fs st _ _ a
    (λ f x. let n = f.node.args in around-within st.pairs (opened at n 0 h st) (hold-begins at n 0 h st) (hold-opened at h st k n 0) h f (f.count h) (f.node.run h) x (x h))
modifier-within at Bracket fs a h st k =
    two-within st.pairs at fs st _ _ a
    (λ f g x y. let n = f.node.args in around-within st.pairs (opened at n 0 h st) (hold-begins at n 0 h st) (hold-opened at h st k n 0) h g (f.count h) (f.node.run h) y (x h))
modifier-within at Fork fs a h st k =
    let n = most (nodes_of fs) in
    begins-within st.pairs (taken_off n st begun) (fork-begins at n st) (taken-opened n st begun k (λ ss ts e l. (e, l, refl))) (λ b. count_fork b at h fs)
    (λ ss s. forked at (h + total ss) ss (nodes_of fs) s) (λ ss s e l. forked-within at (h + total ss) ss e fs a s l)
modifier-within at Unlisted fs a h st k = tt

-- ---- a list

inside-within : (i : Inside) (at : ℕ) (r : Record) (fs : List Counter) → AllBounded fs → (h : ℕ) (st : State) → Fine st.stack
    → Within st.pairs (suc (count_inside i at r fs h st)) (by_inside i at r (nodes_of fs) h st)
inside-within Nothing at r fs a h st k = leaf-within at r (kind_of r.kind) h st k
inside-within Nodes at r fs a h st k = within_more st.pairs (run_all (nodes_of fs) h st) (omega arith) (all-within fs a h st k)
inside-within Bodies at r fs a h st k =
    let m = modifier_of r.code in
    within_more st.pairs (modifier at m (nodes_of fs) h st) (omega arith) (modifier-within at m fs a h st k)

record-bounded : (at : ℕ) (r : Record) (ns : tree.Nodes) → AllBounded (counters (at + 1) ns) → Bounded (counter_of at r (runners (at + 1) ns) (counters (at + 1) ns))
unfolding step_of
record-bounded at r ns a h st k =
    let i = inside_of (kind_of r.kind) in
    let n = suc (count_inside i at r (counters (at + 1) ns) h st) in
    subst (λ (fs : List Runner). Within st.pairs n (by_inside i at r fs h st)) (nodes-runners (at + 1) ns) (inside-within i at r (counters (at + 1) ns) a h st k)

counters-bounded : (at : ℕ) (ns : tree.Nodes) → AllBounded (counters at ns)
unfolding counters
counters-bounded at tree.end = tt
counters-bounded at (tree.rec r ns ms) = (record-bounded at r ns (counters-bounded (at + 1) ns), counters-bounded (at + 1 + tree.size ns) ms)

-- the pairs that are told are those of the last state
last-pairs : (st : State) (ss : List Sum) (s : Sum) (c h : Bool) (k : ℕ) → last_of st ss ≡ done s c h k → st.pairs ≡ k
last-pairs st [] s c h k e = absurd (let z : ◌≡◌ {A = ℕ} 0 1 = cc in omega arith)
last-pairs st (t ∷ []) s c h k e = cc
last-pairs st (t ∷ u ∷ ss) s c h k e = absurd (let z : ◌≡◌ {A = ℕ} 0 1 = cc in omega arith)

ended-pairs : (w : Walked) (n : ℕ) (s : Sum) (c h : Bool) (k : ℕ) → Within 0 n w → ended w ≡ done s c h k → k ≤ 258048 * n
ended-pairs (went st) n s c h k a e = omega (arith, a.1, last-pairs st st.stack s c h k e)
ended-pairs (stopped q at b) n s c h k a e = absurd (let z : ◌≡◌ {A = ℕ} 0 1 = cc in omega arith)

pub pairs-most : PairsMost
unfolding read_nodes ran
pairs-most ns s c h k e =
    ended-pairs (run_all (runners 0 ns) 0 start) (count_all (counters 0 ns) 0 start) s c h k
    (subst (λ (fs : List Runner). Within 0 (count_all (counters 0 ns) 0 start) (run_all fs 0 start)) (nodes-runners 0 ns)
    (all-within (counters 0 ns) (counters-bounded 0 ns) 0 start (x-good, tt)))
    e
