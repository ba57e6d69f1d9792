-- What reading keeps: a property of sums, which may ask about the complex flag, holds of what is read where it holds of x, of every push and of what every primitive forms. Assumes nothing.
use Prim.Native.Nat.{ℕ, zero, suc, ◌+◌, ◌-◌}
use mathlib.Core.Path.{◌≡◌, refl, sym, subst, ◌∙◌}
use mathlib.Core.Bool.{Bool, true, false, ◌||◌, cond}
use mathlib.Core.List.{List, [], ◌∷◌, ◌++◌}
use lib.Dec.{leb}
use lib.ListN.{length, take, drop}
use native.Mathlib.Omega.{arith}
use Rattle.formats.specs.declared.record.Kind.{Kind}
use Rattle.std.specs.Prelude.{Option, Some, None}
use Rattle.numbers.specs.Signs.{one64}
use Rattle.numbers.specs.Complex.Arith as complex
use Rattle.limits.specs.declared.Refusal.{Refusal}
use Rattle.limits.specs.declared.Refusal.TheVariants.{NoRoom}
use Rattle.sums.specs.Tree.Kinds as kinds
use Rattle.sums.specs.Tree.Sums.{Sum, none}
use Rattle.sums.specs.Tree.Map.{Outcome, sum, refused}
use Rattle.arithmetic.specs.Singles.{single}
use Rattle.arithmetic.proofs.Steps.{differ}
use Rattle.formats.specs.declared.record.Primitive.{Primitive}
use Rattle.formats.specs.declared.record.Modifier.{Modifier}
use Rattle.formats.specs.declared.record.Modifier.TheVariants.{Dip, Gap, On, By, Both, Bracket, Fork, Unlisted}
use Rattle.formats.specs.declared.record.Record.{Record}
use Rattle.formats.specs.declared.record.Kind.TheVariants as kind
use Rattle.formats.specs.Names.{kind_of, modifier_of, primitive_of}
use Rattle.formats.specs.Table.{row}
use Rattle.formats.specs.Tree as tree
use Rattle.stack.specs.Stack.{total}
use Rattle.primitives.specs.Forms.{of_one, of_two, pairs_of}
use Rattle.stack.specs.State.{State, with_stack, Walked, went, stopped, and_then, taking_if, taking, lend, push}
use Rattle.stack.specs.Steps.{constant_of, paired, leaves_of_one, leaves_of_two, leaves, is_complex_primitive, primitive, leaf_step}
use Rattle.modifiers.specs.Holding.{deepest, back_to, holding, dropping, copying}
use Rattle.modifiers.specs.declared.Inside.{Inside}
use Rattle.modifiers.specs.declared.Inside.TheVariants.{Nothing, Nodes, Bodies}
use Rattle.modifiers.specs.Modifiers.{Runner, run_all, around, forked, most, one_body, two_bodies, modifier}
use Rattle.modifiers.specs.Reading.{inside_of, by_inside, step_of, runners, start, done, last_of, ended, read_nodes}

-- what is asked of the property: the Bool is the complex flag, and Complex sets it
pub record Keeping (P : Bool → Sum → Type 0) : Type 0 where
  pub weaker : (s : Sum) → P false s → P true s
  pub real : (c : Bool) (re : ℕ) (s : Sum) → constant_of re 0 ≡ sum s → P c s
  pub complex : (re im : ℕ) (s : Sum) → constant_of re im ≡ sum s → P true s
  pub one : (c : Bool) (p : Primitive) (a s : Sum) → P c a → of_one p a ≡ sum s → P c s
  pub two : (c : Bool) (p : Primitive) (a b s : Sum) → P c a → P c b → of_two p b a ≡ sum s → P (c || is_complex_primitive p) s

-- it holds of each of a list
abbrev pub Each : (Bool → Sum → Type 0) → Bool → List Sum → Type 0
Each P c [] = Unit {0}
Each P c (s ∷ ss) = P c s × Each P c ss

-- and of each on the stack, under the flag as it is
abbrev pub Kept : (Bool → Sum → Type 0) → State → Type 0
Kept P st = Each P st.complex st.stack

-- a flag that is set stays set
abbrev pub Rises : Bool → Bool → Type 0
Rises c d = c ≡ true → d ≡ true

-- what came of a run that began under the flag c
abbrev pub After : (Bool → Sum → Type 0) → Bool → Walked → Type 0
After P c (went st) = Rises c st.complex × Kept P st
After P c (stopped q at b) = Unit {0}

-- a run that keeps the property
abbrev pub Keeps : (Bool → Sum → Type 0) → (ℕ → State → Walked) → Type 0
Keeps P f = (h : ℕ) (st : State) → Kept P st → After P st.complex (f h st)

abbrev pub AllKeep : (Bool → Sum → Type 0) → List Runner → Type 0
AllKeep P [] = Unit {0}
AllKeep P (f ∷ fs) = Keeps P f.run × AllKeep P fs

-- the stack holds by d, while the flag is still c
abbrev Left : (Bool → Sum → Type 0) → Bool → Bool → Walked → Type 0
Left P c d (went st) = (st.complex ≡ c) × Each P d st.stack
Left P c d (stopped q at b) = Unit {0}

-- what goes on with some sums held, after a run that began under the flag c
abbrev Goes : (Bool → Sum → Type 0) → Bool → (List Sum → State → Walked) → Type 0
Goes P c f = (ss : List Sum) (st : State) → Rises c st.complex → Each P st.complex ss → Kept P st → After P c (f ss st)

-- a way to begin from st, which then gives what it holds to what goes on
abbrev Begins : (Bool → Sum → Type 0) → State → ((List Sum → State → Walked) → Walked) → Type 0
Begins P st begin = (f : List Sum → State → Walked) → Goes P st.complex f → After P st.complex (begin f)

-- ---- flags

or-rises : (c b : Bool) → Rises c (c || b)
or-rises true b e = refl
or-rises false b e = differ (sym e)

module _ (P : Bool → Sum → Type 0) where
  -- ---- lists of sums

  pub each_take : (c : Bool) (n : ℕ) (ss : List Sum) → Each P c ss → Each P c (take n ss)
  each_take c zero ss e = tt
  each_take c (suc n) [] e = tt
  each_take c (suc n) (s ∷ ss) e = (e.0, each_take c n ss e.1)

  pub each-drop : (c : Bool) (n : ℕ) (ss : List Sum) → Each P c ss → Each P c (drop n ss)
  each-drop c zero ss e = e
  each-drop c (suc n) [] e = tt
  each-drop c (suc n) (s ∷ ss) e = each-drop c n ss e.1

  pub each_append : (c : Bool) (ss ts : List Sum) → Each P c ss → Each P c ts → Each P c (ss ++ ts)
  each_append c [] ts e f = f
  each_append c (s ∷ ss) ts e f = (e.0, each_append c ss ts e.1 f)

  pub each-deepest : (c : Bool) (n : ℕ) (ss : List Sum) → Each P c ss → Each P c (deepest n ss)
  each-deepest c n ss e = each-drop c (length ss - n) ss e

  -- ---- one run after another

  after-rises : (c d : Bool) (w : Walked) → Rises c d → After P d w → After P c w
  after-rises c d (went st) r a = (λ e. a.0 (r e), a.1)
  after-rises c d (stopped q at b) r a = tt

  then-after : (c : Bool) (w : Walked) (f : State → Walked) → After P c w → ((st : State) → Rises c st.complex → Kept P st → After P c (f st)) → After P c (and_then w f)
  then-after c (went st) f a k = k st a.0 a.1
  then-after c (stopped q at b) f a k = tt

  then_keeps : (c : Bool) (w : Walked) (f : State → Walked) → After P c w → ((st : State) → Kept P st → After P st.complex (f st)) → After P c (and_then w f)
  then_keeps c w f a k = then-after c w f a (λ st r e. after-rises c st.complex (f st) r (k st e))

  -- ---- sums taken off and put on

  pub taking-any : (Q : Walked → Type 0) → ((q : Refusal) (i : ℕ) (b : Bool) → Q (stopped q i b)) → (d : Bool) (at n : ℕ) (st : State) (f : List Sum → State → Walked) → Each P d st.stack
      → ((ss ts : List Sum) → Each P d ss → Each P d ts → Q (f ss (with_stack ts st))) → Q (taking at n st f)
  unfolding taking
  taking-any Q z d at n st f e k = go (leb n (length st.stack))
    where
      go : (b : Bool) → Q (taking_if b at n st f)
      go true = k (take n st.stack) (drop n st.stack) (each_take d n st.stack e) (each-drop d n st.stack e)
      go false = z _ _ _

  lend-left : (d : Bool) (at h : ℕ) (ss : List Sum) (st : State) → Each P d ss → Each P d st.stack → Left P st.complex d (lend at h ss st)
  unfolding lend
  lend-left d at h ss st e k = go (leb (h + total ss + total st.stack) 1024)
    where
      go : (b : Bool) → Left P st.complex d (cond b (went (with_stack (ss ++ st.stack) st)) (stopped NoRoom at false))
      go true = (refl, each_append d ss st.stack e k)
      go false = tt

  push-left : (d : Bool) (at h : ℕ) (o : Outcome) (st : State) → ((s : Sum) → o ≡ sum s → P d s) → Each P d st.stack → Left P st.complex d (push at h o st)
  push-left d at h (sum s) st k e = lend-left d at h (s ∷ []) st (k s refl, tt) e
  push-left d at h (refused q) st k e = tt

  left_after : (c : Bool) (w : Walked) → Left P c c w → After P c w
  left_after c (went st) a = (λ e. a.0 ∙ e, rw a.0 a.1)
  left_after c (stopped q at b) a = tt

  -- the flag is set where b says so
  flag-after : (c b : Bool) (n : State → ℕ) (w : Walked) → Left P c (c || b) w
      → After P c (and_then w (λ st. went (record { stack = st.stack; handled = n st; complex = st.complex || b; pairs = st.pairs })))
  flag-after c b n (went st) a = rw a.0 (or-rises c b, a.1)
  flag-after c b n (stopped q at x) a = tt

  lend-after : (at h : ℕ) (ss : List Sum) (st : State) → Each P st.complex ss → Kept P st → After P st.complex (lend at h ss st)
  lend-after at h ss st e k = left_after st.complex (lend at h ss st) (lend-left st.complex at h ss st e k)

  -- ---- runs in turn

  pub run-all : (fs : List Runner) → AllKeep P fs → Keeps P (run_all fs)
  unfolding run_all
  run-all [] a h st k = (λ e. e, k)
  run-all (f ∷ fs) a h st k = then_keeps st.complex (f.run h st) (λ st'. run_all fs h st') (a.0 h st k) (λ st' k'. run-all fs a.1 h st' k')

module _ (P : Bool → Sum → Type 0) (keeps : Keeping P) where
  rises-one : (c d : Bool) (s : Sum) → Rises c d → P c s → P d s
  rises-one false false s r h = h
  rises-one false true s r h = keeps.weaker s h
  rises-one true true s r h = h
  rises-one true false s r h = differ (sym (r refl))

  pub each-rises : (c d : Bool) (ss : List Sum) → Rises c d → Each P c ss → Each P d ss
  each-rises c d [] r e = tt
  each-rises c d (s ∷ ss) r e = (rises-one c d s r e.0, each-rises c d ss r e.1)

  -- ---- primitives

  module _ (c : Bool) (at h : ℕ) (p : Primitive) (st : State) (k : Each P c st.stack) where
    abbrev d : Bool
    d = c || is_complex_primitive p

    up : (s : Sum) → P c s → P d s
    up s = rises-one c d s (or-rises c (is_complex_primitive p))

    stack-up : Each P d st.stack
    stack-up = each-rises c d st.stack (or-rises c (is_complex_primitive p)) k

    one_left : (n : ℕ) (a : Sum) → P c a → Left P st.complex d (leaves_of_one at h p n a st)
    one_left zero a x = (refl, stack-up)
    one_left (suc zero) a x = push-left P d at h (of_one p a) st (λ s e. keeps.one d p a s (up a x) e) stack-up
    one_left (suc (suc n)) a x = lend-left P d at h (a ∷ a ∷ []) st (up a x, (up a x, tt)) stack-up

    two-left : (n : ℕ) (a b : Sum) → P c a → P c b → Left P st.complex d (leaves_of_two at h p n a b st)
    two-left zero a b x y = (refl, stack-up)
    two-left (suc zero) a b x y = push-left P d at h (of_two p b a) (paired (pairs_of p b a) st) (λ s e. keeps.two c p a b s x y e) stack-up
    two-left (suc (suc zero)) a b x y = lend-left P d at h (b ∷ a ∷ []) st (up b y, (up a x, tt)) stack-up
    two-left (suc (suc (suc n))) a b x y = lend-left P d at h (b ∷ a ∷ b ∷ []) st (up b y, (up a x, (up b y, tt))) stack-up

    leaves-left : (ss : List Sum) → Each P c ss → Left P st.complex d (leaves at h p ss st)
    leaves-left [] e = tt
    leaves-left (a ∷ []) e = one_left (row p).left a e.0
    leaves-left (a ∷ b ∷ ss) e = two-left (row p).left a b e.0 e.1.0

  primitive-keeps : (at : ℕ) (p : Primitive) → Keeps P (primitive at p)
  unfolding primitive
  primitive-keeps at p h st k =
      flag-after P st.complex (is_complex_primitive p) _ (taking at (row p).taken st (leaves at h p))
      (taking-any P (Left P st.complex (st.complex || is_complex_primitive p)) (λ q i b. tt) st.complex at (row p).taken st (leaves at h p) k
      (λ ss ts e f. leaves-left st.complex at h p (with_stack ts st) f ss e))

  -- ---- a record with nothing inside

  leaf-keeps : (at : ℕ) (r : Record) (f : Option Kind) → Keeps P (leaf_step at r f)
  unfolding leaf_step
  leaf-keeps at r (Some kind.RealPush) h st k =
      left_after P st.complex (push at h (constant_of r.re 0) st) (push-left P st.complex at h (constant_of r.re 0) st (keeps.real st.complex r.re) k)
  leaf-keeps at r (Some kind.ComplexPush) h st k =
      flag-after P st.complex true (λ st'. st'.handled) (push at h (constant_of r.re r.im) st)
      (push-left P (st.complex || true) at h (constant_of r.re r.im) st (λ s e. rises-one true (st.complex || true) s (λ z. set st.complex) (keeps.complex r.re r.im s e))
      (each-rises st.complex (st.complex || true) st.stack (or-rises st.complex true) k))
    where
      set : (c : Bool) → c || true ≡ true
      set true = refl
      set false = refl
  leaf-keeps at r (Some kind.ArrayPush) h st k = tt
  leaf-keeps at r (Some kind.OtherPush) h st k = tt
  leaf-keeps at r (Some kind.Primitive) h st k = primitive-keeps at (primitive_of r.code) h st k
  leaf-keeps at r (Some kind.Modifier) h st k = tt
  leaf-keeps at r (Some kind.Body) h st k = tt
  leaf-keeps at r (Some kind.Run) h st k = tt
  leaf-keeps at r (Some kind.CustomInverse) h st k = tt
  leaf-keeps at r (Some kind.Obverse) h st k = tt
  leaf-keeps at r (Some kind.NoNormal) h st k = tt
  leaf-keeps at r (Some kind.UnderMarker) h st k = (λ e. e, k)
  leaf-keeps at r (Some kind.AnythingElse) h st k = tt
  leaf-keeps at r None h st k = tt

  -- ---- modifiers

  -- what is held is put back under the later flag
  back-kept : (c : Bool) (ss : List Sum) (st : State) → Rises c st.complex → Each P c ss → Kept P st → Kept P (back_to ss st)
  back-kept c ss st r e k = each_append P st.complex ss st.stack (each-rises c st.complex ss r e) k

  -- a body is run, what is held is put back, and f goes on
  around-after : (h : ℕ) (st : State) (begin : (List Sum → State → Walked) → Walked) (g : ℕ → State → Walked) (f : State → Walked) → Begins P st begin → Keeps P g
      → ((st : State) → Kept P st → After P st.complex (f st)) → After P st.complex (around h begin g f)
  around-after h st begin g f b x y = b (λ ss st. and_then (g (h + total ss) st) (λ st'. f (back_to ss st'))) goes
    where
      goes : Goes P st.complex (λ ss st. and_then (g (h + total ss) st) (λ st'. f (back_to ss st')))
      goes ss s r e k =
          after-rises P st.complex s.complex (and_then (g (h + total ss) s) (λ st'. f (back_to ss st'))) r
          (then-after P s.complex (g (h + total ss) s) (λ st'. f (back_to ss st')) (x (h + total ss) s k)
          (λ st' r' k'. after-rises P s.complex st'.complex (f (back_to ss st')) r' (y (back_to ss st') (back-kept s.complex ss st' r' e k'))))

  module _ (at h : ℕ) (st : State) (k : Kept P st) where
    holding-begins : (n c : ℕ) → Begins P st (holding at n c h st)
    holding-begins n c f g =
        taking-any P (After P st.complex) (λ q i b. tt) st.complex at n st (λ ss st'. and_then (lend at (h + total ss) (deepest c ss) st') (λ st''. f ss st'')) k
        (λ ss ts e k'. then-after P st.complex (lend at (h + total ss) (deepest c ss) (with_stack ts st)) (λ st''. f ss st'')
        (lend-after P at (h + total ss) (deepest c ss) (with_stack ts st) (each-deepest P st.complex c ss e) k')
        (λ st'' r k''. g ss st'' r (each-rises st.complex st''.complex ss r e) k''))

    dropping-begins : Begins P st (dropping at st)
    dropping-begins f g =
        taking-any P (After P st.complex) (λ q i b. tt) st.complex at 1 st (λ ss st'. f [] st') k (λ ss ts e k'. g [] (with_stack ts st) (λ z. z) tt k')

    copying-begins : (n : ℕ) → Begins P st (copying at n h st)
    copying-begins n f g =
        taking-any P (After P st.complex) (λ q i b. tt) st.complex at n st (λ ss st'. and_then (lend at h (ss ++ deepest 1 ss) st') (λ st''. f [] st'')) k
        (λ ss ts e k'. then-after P st.complex (lend at h (ss ++ deepest 1 ss) (with_stack ts st)) (λ st''. f [] st'')
        (lend-after P at h (ss ++ deepest 1 ss) (with_stack ts st) (each_append P st.complex ss (deepest 1 ss) e (each-deepest P st.complex 1 ss e)) k')
        (λ st'' r k''. g [] st'' r tt k''))

  forked-after : (at h : ℕ) (fs : List Runner) → AllKeep P fs → (c : Bool) (ss : List Sum) (st : State) → Rises c st.complex → Each P c ss → Kept P st → After P st.complex (forked at h ss fs st)
  unfolding forked
  forked-after at h [] a c ss st r e k = (λ z. z, k)
  forked-after at h (f ∷ fs) a c ss st r e k =
      then-after P st.complex (forked at h ss fs st) _ (forked-after at h fs a.1 c ss st r e k)
      (λ st' r' k'. after-rises P st.complex st'.complex (and_then (lend at h (deepest f.args ss) st') (f.run h)) r'
      (then_keeps P st'.complex (lend at h (deepest f.args ss) st') (f.run h)
      (lend-after P at h (deepest f.args ss) st' (each-deepest P st'.complex f.args ss (each-rises c st'.complex ss (λ z. r' (r z)) e)) k')
      (a.0 h)))

  one-body : (at : ℕ) (fs : List Runner) (st : State) (k : Runner → Walked) → AllKeep P fs → ((f : Runner) → Keeps P f.run → After P st.complex (k f))
      → After P st.complex (one_body at fs st k)
  one-body at [] st k a y = tt
  one-body at (f ∷ []) st k a y = y f a.0
  one-body at (f ∷ g ∷ fs) st k a y = tt

  two-bodies : (at : ℕ) (fs : List Runner) (st : State) (k : Runner → Runner → Walked) → AllKeep P fs
      → ((f g : Runner) → Keeps P f.run → Keeps P g.run → After P st.complex (k f g)) → After P st.complex (two_bodies at fs st k)
  two-bodies at [] st k a y = tt
  two-bodies at (f ∷ []) st k a y = tt
  two-bodies at (f ∷ g ∷ []) st k a y = y f g a.0 a.1.0
  two-bodies at (f ∷ g ∷ e ∷ fs) st k a y = tt

  went-keeps : (st : State) → Kept P st → After P st.complex (went st)
  went-keeps st k = (λ e. e, k)

  modifier-keeps : (at : ℕ) (m : Modifier) (fs : List Runner) → AllKeep P fs → Keeps P (modifier at m fs)
  unfolding modifier
  modifier-keeps at Dip fs a h st k = one-body at fs st _ a (λ f x. around-after h st (holding at 1 0 h st) f.run went (holding-begins at h st k 1 0) x went-keeps)
  modifier-keeps at Gap fs a h st k = one-body at fs st _ a (λ f x. around-after h st (dropping at st) f.run went (dropping-begins at h st k) x went-keeps)
  modifier-keeps at On fs a h st k = one-body at fs st _ a (λ f x. around-after h st (holding at 1 1 h st) f.run went (holding-begins at h st k 1 1) x went-keeps)
  modifier-keeps at By fs a h st k = one-body at fs st _ a (λ f x. around-after h st (copying at f.args h st) f.run went (copying-begins at h st k f.args) x went-keeps)
  modifier-keeps at Both fs a h st k = one-body at fs st _ a (λ f x. around-after h st (holding at f.args 0 h st) f.run (f.run h) (holding-begins at h st k f.args 0) x (x h))
  modifier-keeps at Bracket fs a h st k =
      two-bodies at fs st _ a (λ f g x y. around-after h st (holding at f.args 0 h st) g.run (f.run h) (holding-begins at h st k f.args 0) y (x h))
  modifier-keeps at Fork fs a h st k =
      taking-any P (After P st.complex) (λ q i b. tt) st.complex at (most fs) st (λ ss st'. forked at (h + total ss) ss fs st') k
      (λ ss ts e k'. forked-after at (h + total ss) fs a st.complex ss (with_stack ts st) (λ z. z) e k')
  modifier-keeps at Unlisted fs a h st k = tt

  -- ---- every node of a list

  inside-keeps : (i : Inside) (at : ℕ) (r : Record) (fs : List Runner) → AllKeep P fs → Keeps P (by_inside i at r fs)
  inside-keeps Nothing at r fs a h st k = leaf-keeps at r (kind_of r.kind) h st k
  inside-keeps Nodes at r fs a h st k = run-all P fs a h st k
  inside-keeps Bodies at r fs a h st k = modifier-keeps at (modifier_of r.code) fs a h st k

  step_keeps : (at : ℕ) (r : Record) (fs : List Runner) → AllKeep P fs → Keeps P (step_of at r fs)
  unfolding step_of
  step_keeps at r fs a h st k = inside-keeps (inside_of (kind_of r.kind)) at r fs a h st k

  pub runners-keep : (at : ℕ) (ns : tree.Nodes) → AllKeep P (runners at ns)
  unfolding runners
  runners-keep at tree.end = tt
  runners-keep at (tree.rec r ns ms) = (step_keeps at r (runners (at + 1) ns) (runners-keep (at + 1) ns), runners-keep (at + 1 + tree.size ns) ms)

  -- a list that is run keeps the property, on the whole stack
  pub run-keeps : (ns : tree.Nodes) (at h : ℕ) (st st' : State) → Kept P st → run_all (runners at ns) h st ≡ went st' → Kept P st'
  run-keeps ns at h st st' k e = (subst (After P st.complex) e (run-all P (runners at ns) (runners-keep at ns) h st k)).1

  last-keeps : (st : State) (ss : List Sum) (s : Sum) (c b : Bool) (n : ℕ) → Each P st.complex ss → last_of st ss ≡ done s c b n → P c s
  last-keeps st [] s c b n k e = absurd (let z : ◌≡◌ {A = ℕ} 0 1 = cc in omega arith)
  last-keeps st (t ∷ []) s c b n k e = let x : st.complex ≡ c = cc in let y : t ≡ s = cc in rw (← x, ← y) k.0
  last-keeps st (t ∷ u ∷ ss) s c b n k e = absurd (let z : ◌≡◌ {A = ℕ} 0 1 = cc in omega arith)

  ended-keeps : (w : Walked) (s : Sum) (c b : Bool) (n : ℕ) → After P false w → ended w ≡ done s c b n → P c s
  ended-keeps (went st) s c b n a e = last-keeps st st.stack s c b n a.1 e
  ended-keeps (stopped q at x) s c b n a e = absurd (let z : ◌≡◌ {A = ℕ} 0 1 = cc in omega arith)

  -- and so does reading, where it holds of x
  pub read_keeps : (ns : tree.Nodes) {s : Sum} {c b : Bool} {n : ℕ} → P false (single kinds.X one64 none complex.one) → read_nodes ns ≡ done s c b n → P c s
  unfolding read_nodes
  read_keeps ns {s} {c} {b} {n} x e = ended-keeps (run_all (runners 0 ns) 0 start) s c b n (run-all P (runners 0 ns) (runners-keep 0 ns) 0 start (x, tt)) e

-- ---- the flag

-- what asks nothing
nothing-asked : Keeping (λ c s. Unit {0})
nothing-asked = record { weaker = λ s h. tt; real = λ c re s e. tt; complex = λ re im s e. tt; one = λ c p a s h e. tt; two = λ c p a b s h k e. tt }

each-nothing : (c : Bool) (ss : List Sum) → Each (λ c s. Unit {0}) c ss
each-nothing c [] = tt
each-nothing c (s ∷ ss) = (tt, each-nothing c ss)

-- along a run a flag that is set stays set
pub flag-stays : (ns : tree.Nodes) (at h : ℕ) (st st' : State) → run_all (runners at ns) h st ≡ went st' → st.complex ≡ true → st'.complex ≡ true
flag-stays ns at h st st' e =
    (subst (After (λ c s. Unit {0}) st.complex) e
    (run-all (λ c s. Unit {0}) (runners at ns) (runners-keep (λ c s. Unit {0}) nothing-asked at ns) h st (each-nothing st.complex st.stack))
    ).0
