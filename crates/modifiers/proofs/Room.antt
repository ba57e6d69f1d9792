-- A smaller arena first: what is read while entries are held, and isn't refused with 12, is read the same with fewer held. Assumes nothing.
use Prim.Native.Nat.{ℕ, zero, suc, ◌+◌, ◌≤◌}
use native.Mathlib.Omega.{arith}
use mathlib.Core.Path.{◌≡◌, refl, ap, ◌∙◌}
use mathlib.Core.Bool.{Bool, true, false, cond}
use mathlib.Core.List.{List, [], ◌∷◌, ◌++◌}
use lib.Dec.{leb}
use lib.ListN.{length, take, drop}
use borrow.Author.Tests.{leb-true, le-leb}
use Rattle.formats.specs.declared.record.Kind.{Kind}
use Rattle.std.specs.Prelude.{Option, Some, None}
use Rattle.limits.specs.declared.Refusal.TheVariants.{NoRoom}
use Rattle.sums.specs.Tree.Sums.{Sum}
use Rattle.sums.specs.Tree.Map.{Outcome, sum, refused}
use Rattle.arithmetic.proofs.Steps.{differ}
use Rattle.formats.specs.declared.record.Record.{Record}
use Rattle.formats.specs.declared.record.Primitive.{Primitive}
use Rattle.formats.specs.declared.record.Modifier.{Modifier}
use Rattle.formats.specs.declared.record.Modifier.TheVariants.{Dip, Gap, On, By, Both, Bracket, Fork, Unlisted}
use Rattle.formats.specs.declared.record.Kind.TheVariants as kind
use Rattle.formats.specs.Names.{kind_of, modifier_of, primitive_of}
use Rattle.formats.specs.Table.{row}
use Rattle.formats.specs.Tree as tree
use Rattle.primitives.specs.Forms.{of_one, of_two, pairs_of}
use Rattle.stack.specs.Stack.{total}
use Rattle.stack.specs.State.{State, Walked, went, stopped, and_then, with_stack, taking_if, taking, lend, push}
use Rattle.stack.specs.Steps.{constant_of, flagged, paired, leaves_of_one, leaves_of_two, leaves, primitive, leaf_step}
use Rattle.modifiers.specs.Holding.{deepest, back_to, holding, dropping, copying}
use Rattle.modifiers.specs.declared.Inside.{Inside}
use Rattle.modifiers.specs.declared.Inside.TheVariants.{Nothing, Nodes, Bodies}
use Rattle.modifiers.specs.Modifiers.{Runner, run_all, around, forked, most, one_body, two_bodies, modifier}
use Rattle.modifiers.specs.Reading.{ended, inside_of, by_inside, step_of, runners, start, read_nodes}
use Rattle.modifiers.specs.Contract.Room.{is_full, is_full_read, read_held}

-- unless the first is refused with 12, the second is the first
record Stays (w w' : Walked) : Type 0 where
  same : is_full w ≡ false → w' ≡ w

self : (w : Walked) → Stays w w
self w = record { same = λ h. refl }

then-stays : (w w' : Walked) (f f' : State → Walked) → Stays w w' → ((st : State) → Stays (f st) (f' st)) → Stays (and_then w f) (and_then w' f')
then-stays (went st) w' f f' k g = record { same = λ h. ap (λ (w : Walked). and_then w f') (k.same refl) ∙ (g st).same h }
then-stays (stopped q at b) w' f f' k g = record { same = λ h. ap (λ (w : Walked). and_then w f') (k.same h) }

-- what goes on with some sums taken off
abbrev Goes : (f f' : List Sum → State → Walked) → Type 0
Goes f f' = (ss : List Sum) (st : State) → Stays (f ss st) (f' ss st)

taking-stays : (at n : ℕ) (st : State) (f f' : List Sum → State → Walked) → Goes f f' → Stays (taking at n st f) (taking at n st f')
unfolding taking
taking-stays at n st f f' k = go (leb n (length st.stack))
  where
    go : (b : Bool) → Stays (taking_if b at n st f) (taking_if b at n st f')
    go true = k (take n st.stack) (with_stack (drop n st.stack) st)
    go false = self _

-- a node that runs so with any number held and any fewer
record RunStays (f : Runner) : Type 0 where
  same : (h h' : ℕ) (st : State) → h' ≤ h → Stays (f.run h st) (f.run h' st)

data AllStay : List Runner → Type 0 where
  no_more : AllStay []
  one_more : {f : Runner} {fs : List Runner} → RunStays f → AllStay fs → AllStay (f ∷ fs)

all-run : {fs : List Runner} (h h' : ℕ) (st : State) → h' ≤ h → AllStay fs → Stays (run_all fs h st) (run_all fs h' st)
unfolding run_all
all-run h h' st l no_more = self _
all-run h h' st l (one_more {f = f} {fs = fs} k a) = then-stays (f.run h st) (f.run h' st) _ _ (k.same h h' st l) (λ st'. all-run h h' st' l a)

module _ (at : ℕ) where
  one-body : {fs : List Runner} (st : State) (k k' : Runner → Walked) → AllStay fs → ((f : Runner) → RunStays f → Stays (k f) (k' f)) → Stays (one_body at fs st k) (one_body at fs st k')
  one-body st k k' no_more e = self _
  one-body st k k' (one_more {f = f} a no_more) e = e f a
  one-body st k k' (one_more a (one_more b c)) e = self _

  two-bodies : {fs : List Runner} (st : State) (k k' : Runner → Runner → Walked) → AllStay fs → ((f g : Runner) → RunStays f → RunStays g → Stays (k f g) (k' f g))
      → Stays (two_bodies at fs st k) (two_bodies at fs st k')
  two-bodies st k k' no_more e = self _
  two-bodies st k k' (one_more a no_more) e = self _
  two-bodies st k k' (one_more {f = f} a (one_more {f = g} b no_more)) e = e f g a b
  two-bodies st k k' (one_more a (one_more b (one_more c d))) e = self _

  -- ---- with h entries held, and with h'

  module _ (h h' : ℕ) (fewer : h' ≤ h) where
    lend-stays : (ss : List Sum) (st : State) → Stays (lend at h ss st) (lend at h' ss st)
    unfolding lend
    lend-stays ss st = go (leb (h + total ss + total st.stack) 1024) refl
      where
        go : (b : Bool) → leb (h + total ss + total st.stack) 1024 ≡ b
            → Stays (cond b (went (with_stack (ss ++ st.stack) st)) (stopped NoRoom at false)) (lend at h' ss st)
        go true e =
            let le : h' + total ss + total st.stack ≤ 1024 = omega (arith, leb-true (h + total ss + total st.stack) 1024 e) in
            record { same = λ z. rw (le-leb (h' + total ss + total st.stack) 1024 le) }
        go false e = record { same = λ z. differ z }

    push-stays : (o : Outcome) (st : State) → Stays (push at h o st) (push at h' o st)
    push-stays (sum s) st = lend-stays (s ∷ []) st
    push-stays (refused q) st = self _

    -- ---- a record with no inside

    one-leaves : (p : Primitive) (n : ℕ) (a : Sum) (st : State) → Stays (leaves_of_one at h p n a st) (leaves_of_one at h' p n a st)
    one-leaves p zero a st = self _
    one-leaves p (suc zero) a st = push-stays (of_one p a) st
    one-leaves p (suc (suc n)) a st = lend-stays (a ∷ a ∷ []) st

    two-leaves : (p : Primitive) (n : ℕ) (a b : Sum) (st : State) → Stays (leaves_of_two at h p n a b st) (leaves_of_two at h' p n a b st)
    two-leaves p zero a b st = self _
    two-leaves p (suc zero) a b st = push-stays (of_two p b a) (paired (pairs_of p b a) st)
    two-leaves p (suc (suc zero)) a b st = lend-stays (b ∷ a ∷ []) st
    two-leaves p (suc (suc (suc n))) a b st = lend-stays (b ∷ a ∷ b ∷ []) st

    leaves-stay : (p : Primitive) → Goes (leaves at h p) (leaves at h' p)
    leaves-stay p [] st = self _
    leaves-stay p (a ∷ []) st = one-leaves p (row p).left a st
    leaves-stay p (a ∷ b ∷ ss) st = two-leaves p (row p).left a b st

    primitive-stays : (p : Primitive) (st : State) → Stays (primitive at p h st) (primitive at p h' st)
    unfolding primitive
    primitive-stays p st =
        then-stays (taking at (row p).taken st (leaves at h p)) (taking at (row p).taken st (leaves at h' p)) _ _
        (taking-stays at (row p).taken st (leaves at h p) (leaves at h' p) (leaves-stay p)) (λ st'. self _)

    complex-stays : (o : Outcome) (st : State) → Stays (and_then (push at h o st) (λ st'. went (flagged true st'))) (and_then (push at h' o st) (λ st'. went (flagged true st')))
    complex-stays o st = then-stays (push at h o st) (push at h' o st) _ _ (push-stays o st) (λ st'. self _)

    leaf-stays : (r : Record) (k : Option Kind) (st : State) → Stays (leaf_step at r k h st) (leaf_step at r k h' st)
    unfolding leaf_step
    leaf-stays r (Some kind.RealPush) st = push-stays (constant_of r.re 0) st
    leaf-stays r (Some kind.ComplexPush) st = complex-stays (constant_of r.re r.im) st
    leaf-stays r (Some kind.ArrayPush) st = self _
    leaf-stays r (Some kind.OtherPush) st = self _
    leaf-stays r (Some kind.Primitive) st = primitive-stays (primitive_of r.code) st
    leaf-stays r (Some kind.Modifier) st = self _
    leaf-stays r (Some kind.Body) st = self _
    leaf-stays r (Some kind.Run) st = self _
    leaf-stays r (Some kind.CustomInverse) st = self _
    leaf-stays r (Some kind.Obverse) st = self _
    leaf-stays r (Some kind.NoNormal) st = self _
    leaf-stays r (Some kind.UnderMarker) st = self _
    leaf-stays r (Some kind.AnythingElse) st = self _
    leaf-stays r None st = self _

    -- ---- bodies

    -- a body runs with more held, and what is held is put back
    around-stays : (g : Runner) (f f' : State → Walked) → RunStays g → ((st : State) → Stays (f st) (f' st))
        → Goes (λ ss st. and_then (g.run (h + total ss) st) (λ st'. f (back_to ss st'))) (λ ss st. and_then (g.run (h' + total ss) st) (λ st'. f' (back_to ss st')))
    around-stays g f f' k e ss st =
        then-stays (g.run (h + total ss) st) (g.run (h' + total ss) st) _ _ (k.same (h + total ss) (h' + total ss) st (omega arith)) (λ st'. e (back_to ss st'))

    dropping-stays : (st : State) (f f' : List Sum → State → Walked) → Goes f f' → Stays (dropping at st f) (dropping at st f')
    dropping-stays st f f' k = taking-stays at 1 st _ _ (λ ss st'. k [] st')

    copying-stays : (n : ℕ) (st : State) (f f' : List Sum → State → Walked) → Goes f f' → Stays (copying at n h st f) (copying at n h' st f')
    copying-stays n st f f' k =
        taking-stays at n st _ _ (λ ss st'. then-stays (lend at h (ss ++ deepest 1 ss) st') (lend at h' (ss ++ deepest 1 ss) st') _ _
        (lend-stays (ss ++ deepest 1 ss) st') (λ st''. k [] st''))

    forked-stays : (ss : List Sum) {fs : List Runner} (st : State) → AllStay fs → Stays (forked at h ss fs st) (forked at h' ss fs st)
    unfolding forked
    forked-stays ss st no_more = self _
    forked-stays ss st (one_more {f = f} {fs = fs} k a) =
        then-stays (forked at h ss fs st) (forked at h' ss fs st) _ _ (forked-stays ss st a)
        (λ st'. then-stays (lend at h (deepest f.args ss) st') (lend at h' (deepest f.args ss) st') _ _ (lend-stays (deepest f.args ss) st') (λ st''. k.same h h' st'' fewer))

  module _ (h h' : ℕ) (fewer : h' ≤ h) where
    holding_stays : (n c : ℕ) (st : State) (f f' : List Sum → State → Walked) → Goes f f' → Stays (holding at n c h st f) (holding at n c h' st f')
    holding_stays n c st f f' k =
        taking-stays at n st _ _ (λ ss st'. then-stays (lend at (h + total ss) (deepest c ss) st') (lend at (h' + total ss) (deepest c ss) st') _ _
        (lend-stays (h + total ss) (h' + total ss) (omega arith) (deepest c ss) st') (λ st''. k ss st''))

    -- one body runs while some are held, and another after it, or nothing
    once-held : (n c : ℕ) (st : State) (f : Runner) → RunStays f → Stays (around h (holding at n c h st) f.run went) (around h' (holding at n c h' st) f.run went)
    once-held n c st f k = holding_stays n c st _ _ (around-stays h h' fewer f went went k (λ st'. self _))

    twice-held : (n : ℕ) (st : State) (g f : Runner) → RunStays g → RunStays f
        → Stays (around h (holding at n 0 h st) g.run (f.run h)) (around h' (holding at n 0 h' st) g.run (f.run h'))
    twice-held n st g f k l = holding_stays n 0 st _ _ (around-stays h h' fewer g (f.run h) (f.run h') k (λ st'. l.same h h' st' fewer))

    modifier-stays : (m : Modifier) {fs : List Runner} (st : State) → AllStay fs → Stays (modifier at m fs h st) (modifier at m fs h' st)
    unfolding modifier
    modifier-stays Dip st a = one-body st _ _ a (once-held 1 0 st)
    modifier-stays Gap st a = one-body st _ _ a (λ f k. dropping-stays h h' fewer st _ _ (around-stays h h' fewer f went went k (λ st'. self _)))
    modifier-stays On st a = one-body st _ _ a (once-held 1 1 st)
    modifier-stays By st a = one-body st _ _ a (λ f k. copying-stays h h' fewer f.args st _ _ (around-stays h h' fewer f went went k (λ st'. self _)))
    modifier-stays Both st a = one-body st _ _ a (λ f k. twice-held f.args st f f k k)
    modifier-stays Bracket st a = two-bodies st _ _ a (λ f g k l. twice-held f.args st g f l k)
    modifier-stays Fork {fs} st a = taking-stays at (most fs) st _ _ (λ ss st'. forked-stays (h + total ss) (h' + total ss) (omega arith) ss st' a)
    modifier-stays Unlisted st a = self _

    inside-stays : (i : Inside) (r : Record) {fs : List Runner} (st : State) → AllStay fs → Stays (by_inside i at r fs h st) (by_inside i at r fs h' st)
    inside-stays Nothing r st a = leaf-stays h h' fewer r (kind_of r.kind) st
    inside-stays Nodes r st a = all-run h h' st fewer a
    inside-stays Bodies r st a = modifier-stays (modifier_of r.code) st a

    step_stays : (r : Record) {fs : List Runner} (st : State) → AllStay fs → Stays (step_of at r fs h st) (step_of at r fs h' st)
    unfolding step_of
    step_stays r st a = inside-stays (inside_of (kind_of r.kind)) r st a

-- ---- records

all_stay : (at : ℕ) (ns : tree.Nodes) → AllStay (runners at ns)
unfolding runners
all_stay at tree.end = no_more
all_stay at (tree.rec r ns ms) =
    one_more (record { same = λ h h' st l. step_stays at h h' l r st (all_stay (at + 1) ns) }) (all_stay (at + 1 + tree.size ns) ms)

full-read : (w : Walked) → is_full_read (ended w) ≡ false → is_full w ≡ false
full-read (went st) e = refl
full-read (stopped q at b) e = e

-- a list that is read with entries held from the start, and not refused with 12, is read the same with none held
pub read_small : (h : ℕ) (ns : tree.Nodes) → is_full_read (read_held h ns) ≡ false → read_nodes ns ≡ read_held h ns
unfolding read_held read_nodes
read_small h ns e = ap ended ((all-run h 0 start (omega arith) (all_stay 0 ns)).same (full-read (run_all (runners 0 ns) h start) e))

pub none-held : (ns : tree.Nodes) → read_held 0 ns ≡ read_nodes ns
unfolding read_held read_nodes
none-held ns = refl
