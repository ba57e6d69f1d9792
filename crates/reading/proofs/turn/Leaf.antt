-- A record without an inside, with what is counted of it. Assumes nothing.
use Prim.Native.Nat.{ℕ, suc, ◌+◌, min}
use native.Mathlib.Omega.{arith}
use mathlib.Core.Path.{◌≡◌, refl, subst}
use mathlib.Core.Bool.{Bool, true, false, ◌||◌, cond}
use Rattle.formats.specs.declared.record.Kind.{Kind}
use Rattle.std.specs.Prelude.{Option, Some, None}
use Rattle.limits.specs.declared.Refusal.{Refusal}
use Rattle.formats.specs.declared.record.Record.{Record}
use Rattle.formats.specs.declared.record.Kind.TheVariants as kind
use Rattle.stack.specs.Steps.{leaf_step}
use Rattle.modifiers.specs.Reading.{inside_of}
use Rattle.modifiers.specs.declared.Inside.TheVariants.{Nothing}
use Rattle.stack.specs.Contract.Arena.{Arena}
use Rattle.stack.specs.State.{most_pairs}
use Rattle.stack.specs.Contract.Agree.{Ready, Does, Prepared, Acts, env_of}
use Rattle.stack.specs.declared.state.AlgebraEnv.{AlgebraEnv}
use Rattle.stack.specs.declared.state.Ran.TheVariants as ran
use Rattle.stack.specs.declared.state.Stepped.{Stepped}
use Rattle.stack.specs.declared.state.Stepped.TheVariants.{Went, Stopped}
use Rattle.stack.specs.Contract.Acting.{leaf_act, handled_by, complex_by}
use Rattle.stack.proofs.leaf.Counting.{leaf-finished}
use Rattle.reading.specs.Contract.After.{after}
use Rattle.reading.specs.Contract.Quick.{is_quick}

-- a step asks neither for the complex flag nor for the pairs so far
pub prepared : {a : Arena} {v : ℕ} {env : AlgebraEnv} → Ready a v env → Prepared a v env.used env.handled
prepared y =
    let st = y.some.0 in
    let s = y.some.1 in
    record {
      space = y.space;
      within = y.within;
      some = (
        record { stack = st.stack; handled = st.handled; complex = false; pairs = 0 },
        record { stack = s.stack; below = s.below; handled = s.handled; complex = refl; pairs = refl },
      );
    }

-- the code's step, with what is counted of it
pub leaf-after : {a b : Arena} {v : ℕ} (env : AlgebraEnv) (e : Stepped) (at : ℕ) (r : Record) (k : Option Kind) (h : ℕ)
    → Acts a b v env.used env.handled at e (λ st. leaf_act at r k h st) → Does a b v env (after r k at e env) (λ st. leaf_step at r k h st)
leaf-after env (Went u m) at r k h d = leaf-finished at r k h (d env.complex env.pairs)
leaf-after env (Stopped q b) at r k h d = leaf-finished at r k h (d env.complex env.pairs)

-- where it is known which of both it is
module _ {a b : Arena} {v : ℕ} (env : AlgebraEnv) (e : Stepped) (at : ℕ) (r : Record) (k : Option Kind) (h : ℕ) (d : Acts a b v env.used env.handled at e (λ st. leaf_act at r k h st)) where
  told : (s : Stepped) → e ≡ s → Does a b v env (after r k at s env) (λ st. leaf_step at r k h st)
  told s is = subst (λ (x : Stepped). Does a b v env (after r k at x env) (λ st. leaf_step at r k h st)) is (leaf-after env e at r k h d)

  pub leaf-stopped : {q : Refusal} {z : Bool} → e ≡ Stopped q z → Does a b v env (ran.Stopped q at z) (λ st. leaf_step at r k h st)
  leaf-stopped {q} {z} is = told (Stopped q z) is

  pub leaf-went : {u m n p : ℕ} {flag : Bool} → e ≡ Went u m → n ≡ cond (handled_by r k) (min 2 (suc env.handled)) env.handled → flag ≡ complex_by r k → p ≡ min most_pairs (env.pairs + m)
      → Does a b v env (ran.Went (env_of u n (env.complex || flag) p)) (λ st. leaf_step at r k h st)
  leaf-went {u} {m} is count flags sum = rw (count, flags, sum) (told (Went u m) is)

-- where two are handled one more makes two
pub counted-enough : (b : Bool) {n : ℕ} → n ≡ 2 → n ≡ cond b (min 2 (suc n)) n
counted-enough true e = omega arith
counted-enough false e = refl

-- ---- a record that takes the quick way

pub quick-inside : (k : Option Kind) → is_quick k ≡ true → inside_of k ≡ Nothing
quick-inside (Some kind.RealPush) e = refl
quick-inside (Some kind.ComplexPush) e = refl
quick-inside (Some kind.ArrayPush) e = refl
quick-inside (Some kind.OtherPush) e = refl
quick-inside (Some kind.Primitive) e = refl
quick-inside (Some kind.Modifier) e = let z : ◌≡◌ {A = ℕ} 0 1 = cc in absurd (omega arith)
quick-inside (Some kind.Body) e = let z : ◌≡◌ {A = ℕ} 0 1 = cc in absurd (omega arith)
quick-inside (Some kind.Run) e = let z : ◌≡◌ {A = ℕ} 0 1 = cc in absurd (omega arith)
quick-inside (Some kind.CustomInverse) e = let z : ◌≡◌ {A = ℕ} 0 1 = cc in absurd (omega arith)
quick-inside (Some kind.Obverse) e = refl
quick-inside (Some kind.NoNormal) e = refl
quick-inside (Some kind.UnderMarker) e = refl
quick-inside (Some kind.AnythingElse) e = refl
quick-inside None e = refl
