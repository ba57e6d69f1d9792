-- Primitives and records by their kind: what the code's choices come to. Assumes nothing.
use Prim.Native.Nat.{ℕ}
use native.Mathlib.Omega.{arith}
use mathlib.Core.Path.{◌≡◌, refl, sym, ap, subst, ◌∙◌}
use mathlib.Core.Bool.{Bool, false}
use mathlib.Core.List.{List, [], ◌∷◌}
use lib.Dec.{eqb}
use types.Run.{OneOf, miss}
use denote.Enum.Declared.{tag_of}
use Rattle.std.specs.Prelude.{Option, Some, None}
use Rattle.limits.specs.declared.Refusal.{Refusal}
use Rattle.limits.specs.declared.Refusal.TheVariants.{NotSupported}
use Rattle.formats.specs.declared.record.Primitive.{Primitive}
use Rattle.formats.specs.declared.record.Record.{Record}
use Rattle.formats.specs.declared.record.Kind.{Kind}
use Rattle.formats.specs.declared.record.Kind.TheVariants as kind
use Rattle.formats.specs.Names.{primitive_no, primitive_of}
use Rattle.formats.specs.Table.{row}
use Rattle.formats.specs.contracts.record.Kind.{the_type}
use Rattle.stack.specs.Contract.Arena.{Arena}
use Rattle.stack.specs.declared.state.AlgebraEnv.{AlgebraEnv}
use Rattle.stack.specs.declared.state.Ran.{Ran}
use Rattle.stack.specs.State.{went, stop, taking, push}
use Rattle.stack.specs.Steps.{constant_of, leaves}
use Rattle.stack.proofs.Laws.{taking-some}
use Rattle.stack.specs.Contract.Agree.{Does}
use Rattle.stack.proofs.state.Laws.{does-as}
use Rattle.stack.specs.Contract.Acting.{why_not, leaf_act, of_kind}
use Rattle.stack.proofs.one_operand.Table.{rows}

module _ {a b : Arena} {v : ℕ} {env : AlgebraEnv} {r : Ran} (at h : ℕ) where
  -- ---- primitives

  module _ (p : Primitive) where
    -- one that is not read
    pub taken_none : (row p).taken ≡ 0 → Does a b v env r (stop at NotSupported) → Does a b v env r (λ st. taking at (row p).taken st (leaves at h p))
    taken_none e d = does-as (λ st s. sym (ap (λ (n : ℕ). taking at n st (leaves at h p)) e ∙ taking-some at 0 st (leaves at h p) (omega arith))) d

    -- one that takes n sums
    pub taken-some : (n : ℕ) → (row p).taken ≡ n → Does a b v env r (λ st. taking at n st (leaves at h p)) → Does a b v env r (λ st. taking at (row p).taken st (leaves at h p))
    taken-some n e d = subst (λ (m : ℕ). Does a b v env r (λ st. taking at m st (leaves at h p))) (sym e) d

  -- ---- records

  module _ (e : Record) where
    -- the kind as the code finds it
    pub leaf-kind : {f g : Option Kind} → f ≡ g → Does a b v env r (λ st. leaf_act at e f h st) → Does a b v env r (λ st. leaf_act at e g h st)
    leaf-kind q d = subst (λ (f : Option Kind). Does a b v env r (λ st. leaf_act at e f h st)) q d

    pub leaf-unknown : Does a b v env r (stop at NotSupported) → Does a b v env r (λ st. leaf_act at e None h st)
    unfolding leaf_act
    leaf-unknown d = d

    pub leaf-real : Does a b v env r (push at h (constant_of e.re 0)) → Does a b v env r (λ st. leaf_act at e (Some kind.RealPush) h st)
    unfolding leaf_act
    leaf-real d = d

    pub leaf-complex : Does a b v env r (push at h (constant_of e.re e.im)) → Does a b v env r (λ st. leaf_act at e (Some kind.ComplexPush) h st)
    unfolding leaf_act
    leaf-complex d = d

    pub leaf-primitive : Does a b v env r (λ st. taking at (row (primitive_of e.code)).taken st (leaves at h (primitive_of e.code)))
        → Does a b v env r (λ st. leaf_act at e (Some kind.Primitive) h st)
    unfolding leaf_act
    leaf-primitive d = d

    pub leaf-marker : Does a b v env r went → Does a b v env r (λ st. leaf_act at e (Some kind.UnderMarker) h st)
    unfolding leaf_act
    leaf-marker d = d

    -- a kind that is refused
    module _ (k : Kind) (real : k ≡ kind.RealPush → ⊥) (complex : k ≡ kind.ComplexPush → ⊥) (primitive : k ≡ kind.Primitive → ⊥) (marker : k ≡ kind.UnderMarker → ⊥) where
      pub leaf-refused : {q : Refusal} → q ≡ why_not k → Does a b v env r (stop at q) → Does a b v env r (λ st. leaf_act at e (Some k) h st)
      unfolding leaf_act
      leaf-refused q d = leaf-stop k real complex primitive marker (subst (λ (x : Refusal). Does a b v env r (stop at x)) q d)
        where
          leaf-stop : (k : Kind) → (k ≡ kind.RealPush → ⊥) → (k ≡ kind.ComplexPush → ⊥) → (k ≡ kind.Primitive → ⊥) → (k ≡ kind.UnderMarker → ⊥)
              → Does a b v env r (stop at (why_not k)) → Does a b v env r (λ st. leaf_act at e (Some k) h st)
          leaf-stop kind.RealPush w x y z d = absurd (w refl)
          leaf-stop kind.ComplexPush w x y z d = absurd (x refl)
          leaf-stop kind.ArrayPush w x y z d = d
          leaf-stop kind.OtherPush w x y z d = d
          leaf-stop kind.Primitive w x y z d = absurd (y refl)
          leaf-stop kind.Modifier w x y z d = d
          leaf-stop kind.Body w x y z d = d
          leaf-stop kind.Run w x y z d = d
          leaf-stop kind.CustomInverse w x y z d = d
          leaf-stop kind.Obverse w x y z d = d
          leaf-stop kind.NoNormal w x y z d = d
          leaf-stop kind.UnderMarker w x y z d = absurd (z refl)
          leaf-stop kind.AnythingElse w x y z d = d

-- two, where it is neither none nor one
pub taken-two : (p : Primitive) {n : ℕ} → n ≡ (row p).taken → (n ≡ 0 → ⊥) → (n ≡ 1 → ⊥) → (row p).taken ≡ 2
taken-two p e f g = let few = (rows p).0 in omega arith

-- the numbers are compared as the code compares them
pub same_number : (x y : ℕ) (p q c : Primitive) → x ≡ primitive_no q → q ≡ p → y ≡ primitive_no c → eqb x y ≡ eqb (primitive_no p) (primitive_no c)
same_number x y p q c e f g = rw (e, f, g)

-- ---- why a kind is refused

-- the numbers of the kinds that have no refusal of their own
abbrev pub plain-kinds : List ℕ
plain-kinds = 0 ∷ 1 ∷ 4 ∷ 5 ∷ 6 ∷ 7 ∷ 8 ∷ 9 ∷ 11 ∷ 12 ∷ []

pub other-kind : (k : Kind) → OneOf plain-kinds (tag_of the_type k) → NotSupported ≡ why_not k
other-kind kind.RealPush o = refl
other-kind kind.ComplexPush o = refl
other-kind kind.ArrayPush o = absurd (miss plain-kinds _ tt o)
other-kind kind.OtherPush o = absurd (miss plain-kinds _ tt o)
other-kind kind.Primitive o = refl
other-kind kind.Modifier o = refl
other-kind kind.Body o = refl
other-kind kind.Run o = refl
other-kind kind.CustomInverse o = refl
other-kind kind.Obverse o = refl
other-kind kind.NoNormal o = absurd (miss plain-kinds _ tt o)
other-kind kind.UnderMarker o = refl
other-kind kind.AnythingElse o = refl

-- ---- what is counted

-- the numbers of the kinds of which nothing is counted
abbrev pub uncounted-kinds : List ℕ
uncounted-kinds = 0 ∷ 2 ∷ 3 ∷ 5 ∷ 6 ∷ 7 ∷ 8 ∷ 9 ∷ 10 ∷ 11 ∷ 12 ∷ []

pub of-no-kind : (k : Kind) (primitive complex : Bool) → OneOf uncounted-kinds (tag_of the_type k) → false ≡ of_kind (Some k) primitive complex
of-no-kind kind.RealPush p c o = refl
of-no-kind kind.ComplexPush p c o = absurd (miss uncounted-kinds _ tt o)
of-no-kind kind.ArrayPush p c o = refl
of-no-kind kind.OtherPush p c o = refl
of-no-kind kind.Primitive p c o = absurd (miss uncounted-kinds _ tt o)
of-no-kind kind.Modifier p c o = refl
of-no-kind kind.Body p c o = refl
of-no-kind kind.Run p c o = refl
of-no-kind kind.CustomInverse p c o = refl
of-no-kind kind.Obverse p c o = refl
of-no-kind kind.NoNormal p c o = refl
of-no-kind kind.UnderMarker p c o = refl
of-no-kind kind.AnythingElse p c o = refl

-- the numbers of the kinds other than a primitive
abbrev pub unhandled-kinds : List ℕ
unhandled-kinds = 0 ∷ 1 ∷ 2 ∷ 3 ∷ 5 ∷ 6 ∷ 7 ∷ 8 ∷ 9 ∷ 10 ∷ 11 ∷ 12 ∷ []

pub uncounted-but : (k : Kind) (primitive : Bool) → OneOf unhandled-kinds (tag_of the_type k) → false ≡ of_kind (Some k) primitive false
uncounted-but kind.RealPush p o = refl
uncounted-but kind.ComplexPush p o = refl
uncounted-but kind.ArrayPush p o = refl
uncounted-but kind.OtherPush p o = refl
uncounted-but kind.Primitive p o = absurd (miss unhandled-kinds _ tt o)
uncounted-but kind.Modifier p o = refl
uncounted-but kind.Body p o = refl
uncounted-but kind.Run p o = refl
uncounted-but kind.CustomInverse p o = refl
uncounted-but kind.Obverse p o = refl
uncounted-but kind.NoNormal p o = refl
uncounted-but kind.UnderMarker p o = refl
uncounted-but kind.AnythingElse p o = refl
