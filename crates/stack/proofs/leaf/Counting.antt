-- A record that has no inside: the step, and then what is counted of it. Assumes nothing.
use Prim.Native.Nat.{ℕ}
use mathlib.Core.Path.{◌≡◌, refl, sym}
use mathlib.Core.Bool.{Bool, true, false, ◌||◌}
use mathlib.Core.List.{List}
use Rattle.formats.specs.declared.record.Kind.{Kind}
use Rattle.std.specs.Prelude.{Option, Some, None}
use Rattle.sums.specs.Tree.Sums.{Sum}
use Rattle.formats.specs.declared.record.Record.{Record}
use Rattle.formats.specs.declared.record.Kind.TheVariants as kind
use Rattle.stack.specs.State.{State, Walked, went, stopped, and_then, push}
use Rattle.stack.specs.Steps.{constant_of, flagged, counted, primitive, leaf_step}
use Rattle.stack.specs.Contract.Arena.{Arena}
use Rattle.stack.specs.Contract.Agree.{Does}
use Rattle.stack.specs.Contract.Parts.{finished}
use Rattle.stack.specs.declared.state.AlgebraEnv.{AlgebraEnv}
use Rattle.stack.specs.declared.state.Ran.{Ran}
use Rattle.stack.proofs.state.Laws.{does-as, does-finished}
use Rattle.stack.specs.Contract.Acting.{leaf_act, handled_by, complex_by}

-- where nothing is counted and no flag set, the state is as it was
uncounted : (w : Walked) → w ≡ and_then w (λ st. went (flagged false (counted false st)))
uncounted (went st) = same st.stack st.handled st.complex st.pairs
  where
    same : (ss : List Sum) (n : ℕ) (c : Bool) (k : ℕ) → went (record { stack = ss; handled = n; complex = c; pairs = k }) ≡ went (record { stack = ss; handled = n; complex = c || false; pairs = k })
    same ss n true k = refl
    same ss n false k = refl
uncounted (stopped q at b) = refl

pub leaf-counted : (at : ℕ) (r : Record) (k : Option Kind) (h : ℕ) (st : State)
    → leaf_step at r k h st ≡ and_then (leaf_act at r k h st) (λ st'. went (flagged (complex_by r k) (counted (handled_by r k) st')))
unfolding leaf_step leaf_act primitive
leaf-counted at r (Some kind.RealPush) h st = uncounted (push at h (constant_of r.re 0) st)
leaf-counted at r (Some kind.ComplexPush) h st = refl
leaf-counted at r (Some kind.ArrayPush) h st = refl
leaf-counted at r (Some kind.OtherPush) h st = refl
leaf-counted at r (Some kind.Primitive) h st = refl
leaf-counted at r (Some kind.Modifier) h st = refl
leaf-counted at r (Some kind.Body) h st = refl
leaf-counted at r (Some kind.Run) h st = refl
leaf-counted at r (Some kind.CustomInverse) h st = refl
leaf-counted at r (Some kind.Obverse) h st = refl
leaf-counted at r (Some kind.NoNormal) h st = refl
leaf-counted at r (Some kind.UnderMarker) h st = uncounted (went st)
leaf-counted at r (Some kind.AnythingElse) h st = refl
leaf-counted at r None h st = refl

-- the code's step, with what is counted of it, is the definition's
pub leaf-finished : {a b : Arena} {v : ℕ} {env : AlgebraEnv} {e : Ran} (at : ℕ) (r : Record) (k : Option Kind) (h : ℕ)
    → Does a b v env e (λ st. leaf_act at r k h st) → Does a b v env (finished (handled_by r k) (complex_by r k) e) (λ st. leaf_step at r k h st)
leaf-finished at r k h d = does-as (λ st s. sym (leaf-counted at r k h st)) (does-finished (handled_by r k) (complex_by r k) d)
