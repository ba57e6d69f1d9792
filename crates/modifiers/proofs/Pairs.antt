-- How many pairs a record that has no inside multiplies at most. Assumes nothing.
use Prim.Native.Nat.{ℕ, zero, suc, ◌+◌, ◌*◌, ◌≤◌}
use native.Mathlib.Omega.{arith}
use mathlib.Core.Path.{◌≡◌, refl}
use mathlib.Core.Bool.{Bool, true, false, cond}
use mathlib.Core.List.{List, [], ◌∷◌, ◌++◌}
use lib.Dec.{leb}
use Rattle.formats.specs.declared.record.Kind.{Kind}
use Rattle.std.specs.Prelude.{Option, Some, None}
use Rattle.limits.specs.declared.Refusal.TheVariants.{NoRoom}
use Rattle.sums.specs.Tree.Sums.{Sum}
use Rattle.sums.specs.Tree.Map.{Outcome, sum, refused}
use Rattle.arithmetic.specs.Singles.{GoodSum}
use Rattle.formats.specs.declared.record.Primitive.{Primitive}
use Rattle.formats.specs.declared.record.Record.{Record}
use Rattle.formats.specs.declared.record.Kind.TheVariants as kind
use Rattle.formats.specs.Names.{primitive_of}
use Rattle.formats.specs.Table.{row}
use Rattle.primitives.specs.Forms.{of_one, of_two, pairs_of}
use Rattle.primitives.proofs.Pairs.{pairs-of-most}
use Rattle.stack.specs.Stack.{total}
use Rattle.stack.specs.State.{State, with_stack, Walked, went, stopped, and_then, taking, lend, push}
use Rattle.stack.specs.Steps.{constant_of, paired, leaves_of_one, leaves_of_two, leaves, primitive, leaf_step}
use Rattle.modifiers.proofs.Keeps.{Each, each_append, taking-any}
use Rattle.modifiers.proofs.Good.{constant-good, one-good, two_good}

-- each of some sums is good
abbrev pub Fine : List Sum → Type 0
Fine ss = Each (λ c s. GoodSum s) false ss

-- what came of running n records from p pairs on: good sums, and at most as many pairs more as n records multiply
abbrev pub Within : ℕ → ℕ → Walked → Type 0
Within p n (went st) = Fine st.stack × (st.pairs ≤ p + 258048 * n)
Within p n (stopped q at b) = Unit {0}

pub within_more : (p : ℕ) {n m : ℕ} (w : Walked) → n ≤ m → Within p n w → Within p m w
within_more p (went st) le a = (a.0, let few = a.1 in omega arith)
within_more p (stopped q at b) le a = tt

-- ---- sums put on

pub lend-within : (p n at h : ℕ) (ss : List Sum) (st : State) → Fine ss → Fine st.stack → st.pairs ≤ p + 258048 * n → Within p n (lend at h ss st)
unfolding lend
lend-within p n at h ss st e f le = go (leb (h + total ss + total st.stack) 1024)
  where
    go : (b : Bool) → Within p n (cond b (went (with_stack (ss ++ st.stack) st)) (stopped NoRoom at false))
    go true = (each_append (λ c s. GoodSum s) false ss st.stack e f, le)
    go false = tt

push-within : (p n at h : ℕ) (o : Outcome) (st : State) → ((s : Sum) → o ≡ sum s → GoodSum s) → Fine st.stack → st.pairs ≤ p + 258048 * n → Within p n (push at h o st)
push-within p n at h (sum s) st g f le = lend-within p n at h (s ∷ []) st (g s refl, tt) f le
push-within p n at h (refused q) st g f le = tt

-- another count and another flag
flag-within : (p n : ℕ) (w : Walked) (m : State → ℕ) (c : State → Bool) → Within p n w
    → Within p n (and_then w (λ st. went (record { stack = st.stack; handled = m st; complex = c st; pairs = st.pairs })))
flag-within p n (went st) m c a = a
flag-within p n (stopped q at b) m c a = tt

-- ---- primitives

module _ (at h : ℕ) (p : Primitive) (st : State) (f : Fine st.stack) where
  one-within : (n : ℕ) (a : Sum) → GoodSum a → Within st.pairs 1 (leaves_of_one at h p n a st)
  one-within zero a g = (f, omega arith)
  one-within (suc zero) a g = push-within st.pairs 1 at h (of_one p a) st (λ s e. one-good p g e) f (omega arith)
  one-within (suc (suc n)) a g = lend-within st.pairs 1 at h (a ∷ a ∷ []) st (g, (g, tt)) f (omega arith)

  two-within : (n : ℕ) (a b : Sum) → GoodSum a → GoodSum b → Within st.pairs 1 (leaves_of_two at h p n a b st)
  two-within zero a b g k = (f, omega arith)
  two-within (suc zero) a b g k =
      push-within st.pairs 1 at h (of_two p b a) (paired (pairs_of p b a) st) (λ s e. two_good p k g e) f (omega (arith, pairs-of-most p b a k g))
  two-within (suc (suc zero)) a b g k = lend-within st.pairs 1 at h (b ∷ a ∷ []) st (k, (g, tt)) f (omega arith)
  two-within (suc (suc (suc n))) a b g k = lend-within st.pairs 1 at h (b ∷ a ∷ b ∷ []) st (k, (g, (k, tt))) f (omega arith)

  leaves-within : (ss : List Sum) → Fine ss → Within st.pairs 1 (leaves at h p ss st)
  leaves-within [] e = tt
  leaves-within (a ∷ []) e = one-within (row p).left a e.0
  leaves-within (a ∷ b ∷ ss) e = two-within (row p).left a b e.0 e.1.0

primitive-within : (at h : ℕ) (p : Primitive) (st : State) → Fine st.stack → Within st.pairs 1 (primitive at p h st)
unfolding primitive
primitive-within at h p st f =
    flag-within st.pairs 1 (taking at (row p).taken st (leaves at h p)) _ _
    (taking-any (λ c s. GoodSum s) (Within st.pairs 1) (λ q i b. tt) false at (row p).taken st (leaves at h p) f (λ ss ts e k. leaves-within at h p (with_stack ts st) k ss e))

-- ---- a record with nothing inside

pub leaf-within : (at : ℕ) (r : Record) (k : Option Kind) (h : ℕ) (st : State) → Fine st.stack → Within st.pairs 1 (leaf_step at r k h st)
unfolding leaf_step
leaf-within at r (Some kind.RealPush) h st f = push-within st.pairs 1 at h (constant_of r.re 0) st (λ s e. constant-good r.re 0 e) f (omega arith)
leaf-within at r (Some kind.ComplexPush) h st f =
    flag-within st.pairs 1 (push at h (constant_of r.re r.im) st) _ _
    (push-within st.pairs 1 at h (constant_of r.re r.im) st (λ s e. constant-good r.re r.im e) f (omega arith))
leaf-within at r (Some kind.ArrayPush) h st f = tt
leaf-within at r (Some kind.OtherPush) h st f = tt
leaf-within at r (Some kind.Primitive) h st f = primitive-within at h (primitive_of r.code) st f
leaf-within at r (Some kind.Modifier) h st f = tt
leaf-within at r (Some kind.Body) h st f = tt
leaf-within at r (Some kind.Run) h st f = tt
leaf-within at r (Some kind.CustomInverse) h st f = tt
leaf-within at r (Some kind.Obverse) h st f = tt
leaf-within at r (Some kind.NoNormal) h st f = tt
leaf-within at r (Some kind.UnderMarker) h st f = (f, omega arith)
leaf-within at r (Some kind.AnythingElse) h st f = tt
leaf-within at r None h st f = tt
