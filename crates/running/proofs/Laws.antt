-- Laws of the runner's definitions, as the code takes its steps. Assumes nothing.
use Prim.Native.Nat.{ℕ, zero, suc, ◌+◌, ◌-◌, ◌≤◌, ◌<◌}
use native.Mathlib.Omega.{arith}
use mathlib.Core.Path.{◌≡◌, refl, ap, ◌∙◌, sym}
use mathlib.Core.Bool.{Bool, true, false, true≢false}
use mathlib.Core.List.{List, [], ◌∷◌}
use borrow.Author.Tests.{eqb-true}
use lib.Dec.{leb, eqb, T}
use lib.ListN.{length, get_or}
use lib.Ieee.{Float, nan, inf, fin, binary64, fits, lt, of_bits}
use lib.Ieee.Bits.{is_true}
use lib.Ieee.Scale.{finite}
use Rattle.std.specs.Prelude.{Option, Some, None, Result, Ok, Err}
use Rattle.formats.specs.declared.record.Kind.{Kind}
use Rattle.numbers.specs.Ops.{◌⊗◌}
use Rattle.numbers.specs.Signs.{zero64, one64, Zero}
use Rattle.numbers.proofs.Zeros.{zero_test}
use Rattle.numbers.proofs.Small.{small-zero}
use Rattle.numbers.proofs.Finite.{mul-not-finite-left}
use Rattle.numbers.specs.Numbers.{small_whole}
use Rattle.numbers.specs.Radical.Root.{root}
use Rattle.numbers.proofs.radical.Laws.{root-finite}
use Rattle.limits.specs.declared.Refusal.{Refusal}
use Rattle.limits.specs.declared.Refusal.TheVariants.{TooManyVariables, NoOutput, TooManyOutputs, NeedsMath, NotFinite}
use Rattle.formats.specs.declared.record.Primitive.TheVariants as prim
use Rattle.formats.specs.declared.record.Kind.TheVariants as kind
use Rattle.formats.specs.declared.record.Record.{Record}
use Rattle.formats.specs.Names.{kind_of, primitive_of}
use Rattle.formats.proofs.record.Names.{kind-found}
use Rattle.running.specs.Primitives.{went, stop, times, power_of, power, root_unless, square_root, work_of, way_of, of_one, of_two, if_finite, leave, apply, act}
use Rattle.running.specs.declared.Left.{Left}
use Rattle.running.specs.declared.Left.TheVariants.{Nothing, One, Two, Three}
use Rattle.running.specs.declared.Work.{Work}
use Rattle.running.specs.declared.Work.TheVariants.{OfOne, OfTwo}
use Rattle.running.specs.declared.Deed.{Deed}
use Rattle.running.specs.declared.Deed.TheVariants.{Pushes, Works}
use Rattle.running.specs.declared.Way.{Way}
use Rattle.running.specs.declared.Way.TheVariants.{Acts, Runs, Modifies}
use Rattle.running.specs.declared.Single.{Single}
use Rattle.running.specs.declared.Single.TheVariants as single
use Rattle.running.specs.declared.Pair.{Pair}
use Rattle.running.specs.declared.Pair.TheVariants as pair
use Rattle.running.specs.declared.State.{State}
use Rattle.running.specs.Running.{Running, done, if_room, settle, ended, Value, Refused}
use Rattle.running.specs.Contract.Views.{plain, stack_of, view_did, Within, view_state}
use Rattle.running.proofs.Stack.{length-stack, stack-pop, stack-two}

-- ---- powers

pub times_more : (k : ℕ) (b p : Float) → 0 < k → times k b p ≡ times (k - 1) b (p ⊗ b)
unfolding times
times_more zero b p h = absurd (omega arith)
times_more (suc k) b p h = let e : suc k - 1 ≡ k = omega arith in rw e

pub times_none : (k : ℕ) (b p : Float) → k ≡ 0 → times k b p ≡ p
unfolding times
times_none k b p q = rw q

-- a product on the way that is not finite makes the power not finite, so the test of what is formed is a test of each
pub times-not-finite : (n : ℕ) (b p : Float) → finite p ≡ false → finite (times n b p) ≡ false
unfolding times
times-not-finite zero b p q = q
times-not-finite (suc n) b p q = times-not-finite n b (p ⊗ b) (mul-not-finite-left binary64 p b q)

-- ---- primitives

pub leave-bad : (v : Float) (s : List Float) → finite v ≡ false → leave (Ok (One v)) s ≡ stop NotFinite
unfolding leave
leave-bad v s q = rw q

pub leave-one : (v : Float) (s : List Float) → finite v ≡ true → leave (Ok (One v)) s ≡ went (v ∷ s)
unfolding leave
leave-one v s q = rw q

pub one-few : (o : Single) (xs : List Float) (n : ℕ) → n < 1 → apply (Ok (OfOne o)) (stack_of xs n) ≡ stop TooManyVariables
unfolding apply stack_of
one-few o xs zero h = refl
one-few o xs (suc n) h = absurd (omega arith)

pub two-few : (o : Pair) (xs : List Float) (n : ℕ) → n < 2 → apply (Ok (OfTwo o)) (stack_of xs n) ≡ stop TooManyVariables
unfolding apply stack_of
two-few o xs zero h = refl
two-few o xs (suc zero) h = refl
two-few o xs (suc (suc n)) h = absurd (omega arith)

pub leave-stop : (s : List Float) → leave (Err NotFinite) s ≡ stop NotFinite
unfolding leave
leave-stop s = refl

pub leave-err : {q : Refusal} (s : List Float) → leave (Err q) s ≡ stop q
unfolding leave
leave-err s = refl

-- ---- records by their kind

module _ (k : ℕ) where
  pub push-way : eqb k 1 ≡ true → way_of (kind_of k) ≡ Ok (Acts Pushes)
  unfolding kind_of
  push-way q = rw (eqb-true k 1 q)

  pub work-way : plain k ≡ true → eqb k 1 ≡ false → way_of (kind_of k) ≡ Ok (Acts Works)
  unfolding kind_of plain
  work-way p q = let w : eqb k 5 ≡ true = rw q at p in rw (eqb-true k 5 w)

-- what the way of a record says of its kind
abbrev WayTold : ℕ → Result Way Refusal → Type 0
WayTold k (Ok (Acts d)) = plain k ≡ true
WayTold k (Ok Runs) = Unit {0}
WayTold k (Ok Modifies) = eqb k 6 ≡ true
WayTold k (Err q) = Unit {0}

way-told : (k : ℕ) → WayTold k (way_of (kind_of k))
unfolding plain
way-told k = by (kind_of k) refl
  where
    by : (o : Option Kind) → kind_of k ≡ o → WayTold k (way_of o)
    by (Some kind.RealPush) e = rw (← kind-found k kind.RealPush e) refl
    by (Some kind.ComplexPush) e = tt
    by (Some kind.ArrayPush) e = tt
    by (Some kind.OtherPush) e = tt
    by (Some kind.Primitive) e = rw (← kind-found k kind.Primitive e) refl
    by (Some kind.Modifier) e = rw (← kind-found k kind.Modifier e)
    by (Some kind.Body) e = tt
    by (Some kind.Run) e = tt
    by (Some kind.CustomInverse) e = tt
    by (Some kind.Obverse) e = tt
    by (Some kind.NoNormal) e = tt
    by (Some kind.UnderMarker) e = tt
    by (Some kind.AnythingElse) e = tt
    by None e = tt

-- a record that isn't plain doesn't act by itself
pub acts-plain : (k : ℕ) → plain k ≡ false → (d : Deed) → way_of (kind_of k) ≡ Ok (Acts d) → ⊥
acts-plain k f d w = true≢false (sym (rw w at (way-told k)) ∙ f)

pub modifier-kind : (k : ℕ) → way_of (kind_of k) ≡ Ok Modifies → eqb k 6 ≡ true
modifier-kind k w = rw w at (way-told k)

-- ---- a step adds one number at most

abbrev size_of : Result Left Refusal → ℕ
size_of (Ok Nothing) = 0
size_of (Ok (One a)) = 1
size_of (Ok (Two a b)) = 2
size_of (Ok (Three a b c)) = 3
size_of (Err q) = 0

leave-adds : (l : Result Left Refusal) (s t : List Float) → leave l s ≡ went t → length t ≤ length s + size_of l
unfolding leave
leave-adds (Ok Nothing) s t q = let e : s ≡ t = cc in omega (arith, ap length e)
leave-adds (Ok (One v)) s t q = by (finite v) q
  where
    by : (b : Bool) → if_finite b v s ≡ went t → length t ≤ length s + 1
    by true q = let e : v ∷ s ≡ t = cc in omega (arith, ap length e)
    by false q = let z : ◌≡◌ {A = ℕ} 0 1 = cc in omega arith
leave-adds (Ok (Two a b)) s t q = let e : a ∷ b ∷ s ≡ t = cc in omega (arith, ap length e)
leave-adds (Ok (Three a b c)) s t q = let e : a ∷ b ∷ c ∷ s ≡ t = cc in omega (arith, ap length e)
leave-adds (Err r) s t q = let z : ◌≡◌ {A = ℕ} 0 1 = cc in omega arith

one_size : (o : Single) (a : Float) → size_of (of_one o a) ≤ 2
unfolding square_root
one_size single.Identity a = omega arith
one_size single.Pop a = omega arith
one_size single.Dup a = omega arith
one_size single.Neg a = omega arith
one_size single.Not a = omega arith
one_size single.Sqrt a = by (lt a zero64)
  where
    by : (b : Bool) → size_of (root_unless b a) ≤ 2
    by true = omega arith
    by false = omega arith
one_size single.Reciprocal a = omega arith

two_size : (o : Pair) (a b : Float) → size_of (of_two o a b) ≤ 3
unfolding power
two_size pair.Flip a b = omega arith
two_size pair.Add a b = omega arith
two_size pair.Sub a b = omega arith
two_size pair.Mul a b = omega arith
two_size pair.Div a b = omega arith
two_size pair.Pow a b = by (small_whole a)
  where
    by : (w : Option ℕ) → size_of (power_of b w) ≤ 3
    by (Some zero) = omega arith
    by (Some (suc n)) = omega arith
    by None = omega arith
two_size pair.Over a b = omega arith

apply-adds : (w : Result Work Refusal) (s t : List Float) → apply w s ≡ went t → length t ≤ length s + 1
unfolding apply
apply-adds (Ok (OfOne o)) [] t q = let z : ◌≡◌ {A = ℕ} 0 1 = cc in omega arith
apply-adds (Ok (OfOne o)) (a ∷ s) t q = omega (arith, leave-adds (of_one o a) s t q, one_size o a)
apply-adds (Ok (OfTwo o)) [] t q = let z : ◌≡◌ {A = ℕ} 0 1 = cc in omega arith
apply-adds (Ok (OfTwo o)) (a ∷ []) t q = let z : ◌≡◌ {A = ℕ} 0 1 = cc in omega arith
apply-adds (Ok (OfTwo o)) (a ∷ b ∷ s) t q = omega (arith, leave-adds (of_two o a b) s t q, two_size o a b)
apply-adds (Err r) s t q = let z : ◌≡◌ {A = ℕ} 0 1 = cc in omega arith

act-adds : (d : Deed) (r : Record) (s t : List Float) → act d r s ≡ went t → length t ≤ length s + 1
unfolding act
act-adds Pushes r s t q = leave-adds (Ok (One (of_bits binary64 r.re))) s t q
act-adds Works r s t q = apply-adds (work_of (primitive_of r.code)) s t q

pub act-within : (d : Deed) (r : Record) (xs ys : List Float) (n h k : ℕ) (o : Result ℕ Refusal) → view_did ys o ≡ act d r (stack_of xs n) → n + h < k → Within h k o
act-within d r xs ys n h k (Ok m) e l = omega (arith, act-adds d r (stack_of xs n) (stack_of ys m) (sym e), length-stack xs n, length-stack ys m)
act-within d r xs ys n h k (Err q) e l = tt

-- ---- a step

pub settle-went : (xs : List Float) (h at : ℕ) (st : Running) (m : ℕ) → settle h at st (went (stack_of xs m)) ≡ if_room (leb (m + h) 256) (m + h) at (stack_of xs m) st
settle-went xs h at st m = rw (length-stack xs m)

-- ---- the end

module _ (xs : List Float) (st : State) where
  pub ended-none : st.n ≡ 0 → ended (done (view_state xs st)) ≡ Refused NoOutput 0
  unfolding stack_of
  ended-none q = rw q

  pub ended-one : st.n ≡ 1 → ended (done (view_state xs st)) ≡ Value (get_or xs 0 nan) st.steps st.peak
  unfolding stack_of
  ended-one q = rw q

  pub ended-many : 1 < st.n → ended (done (view_state xs st)) ≡ Refused TooManyOutputs 0
  ended-many h = rw (stack-two xs st.n h)

-- ---- a power, by its exponent

power-by : (b : Float) (o : Option ℕ) (n : ℕ) → o ≡ Some n → 0 < n → power_of b o ≡ Ok (One (times (n - 1) b b))
power-by b o zero q h = absurd (omega arith)
power-by b o (suc n) q h = let e : suc n - 1 ≡ n = omega arith in rw (q, e)

module _ (b a : Float) where
  pub power-other : small_whole a ≡ None → power b a ≡ Err NeedsMath
  unfolding power
  power-other q = rw q

  pub power_zero : (n : ℕ) → small_whole a ≡ Some n → n ≡ 0 → power b a ≡ Ok (One one64)
  unfolding power
  power_zero n q z = rw (q, z)

  -- both zeros, and every base
  pub power-nought : Zero a → power b a ≡ Ok (One one64)
  power-nought z = power_zero 0 (small-zero a ((zero_test a).1 z)) refl

  pub power-more : (n : ℕ) → small_whole a ≡ Some n → 0 < n → power b a ≡ Ok (One (times (n - 1) b b))
  unfolding power
  power-more n q h = power-by b (small_whole a) n q h

-- ---- a square root, by its number

module _ (a : Float) where
  pub root_below : lt a zero64 ≡ true → square_root a ≡ Err NeedsMath
  unfolding square_root
  root_below q = rw q

  pub root-else : lt a zero64 ≡ false → square_root a ≡ Ok (One (root a))
  unfolding square_root
  root-else q = rw q

not-finite-root : (a : Float) → finite a ≡ false → root a ≡ a
unfolding root
not-finite-root nan q = refl
not-finite-root (inf s) q = refl
not-finite-root (fin s m e) q = absurd (true≢false q)

pub root-not-finite : (a : Float) → lt a zero64 ≡ false → finite a ≡ false → square_root a ≡ Ok (One a)
root-not-finite a l q = root-else a l ∙ ap (λ (v : Float). Ok (One v)) (not-finite-root a q)

-- ---- a primitive, by what it takes

pub apply-lacks : {q : Refusal} (s : List Float) → apply (Err q) s ≡ stop q
unfolding apply
apply-lacks s = refl

pub apply-one : (o : Single) (xs : List Float) (n : ℕ) → 0 < n → {l : Result Left Refusal} → l ≡ of_one o (get_or xs (n - 1) nan) → apply (Ok (OfOne o)) (stack_of xs n) ≡ leave l (stack_of xs (n - 1))
unfolding apply
apply-one o xs n h q = rw (q, stack-pop xs n h)

pub apply-two : (o : Pair) (xs : List Float) (n : ℕ) → 1 < n → {l : Result Left Refusal} → l ≡ of_two o (get_or xs (n - 1) nan) (get_or xs (n - 2) nan)
    → apply (Ok (OfTwo o)) (stack_of xs n) ≡ leave l (stack_of xs (n - 2))
unfolding apply
apply-two o xs n h q = rw (q, stack-two xs n h)

-- Sqrt on a finite number: below zero it is 14, and else the root is left, which is finite. It is never 15
pub sqrt-below : (a : Float) (s : List Float) → lt a zero64 ≡ true → apply (work_of prim.Sqrt) (a ∷ s) ≡ stop NeedsMath
unfolding apply leave
sqrt-below a s l = rw (root_below a l)

pub sqrt-leaves : (a : Float) (s : List Float) → T (fits binary64 a) → T (finite a) → lt a zero64 ≡ false → apply (work_of prim.Sqrt) (a ∷ s) ≡ went (root a ∷ s)
unfolding apply
sqrt-leaves a s t f l = rw (root-else a l) (leave-one (root a) s (is_true (finite (root a)) (root-finite a t f l).0))
