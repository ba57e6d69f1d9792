-- The name that a number stands for is the one that has the number. Assumes nothing.
use mathlib.Core.Path.{◌≡◌, refl, sym}
use mathlib.Core.Bool.{Bool, true, false}
use mathlib.Core.List.{List, [], ◌∷◌}
use mathlib.Core.Logic.{◌⊎◌, inl, inr}
use Prim.Native.Nat.{ℕ}
use native.Mathlib.Omega.{arith}
use lib.Dec.{eqb}
use borrow.Author.Tests.{eqb-true}
use Rattle.std.specs.Prelude.{Option, Some, None}
use Rattle.formats.specs.Names.{choose, named, kind_no, kind_of, kinds, primitive_no, primitive_of, primitives, modifier_no, modifier_of, modifiers}
use Rattle.formats.specs.declared.record.Kind.{Kind}
use Rattle.formats.specs.declared.record.Kind.TheVariants as kind
use Rattle.formats.specs.declared.record.Primitive.{Primitive}
use Rattle.formats.specs.declared.record.Primitive.TheVariants as prim
use Rattle.formats.specs.declared.record.Modifier.{Modifier}
use Rattle.formats.specs.declared.record.Modifier.TheVariants as modi

-- ---- of a list of names: what is found has the number, or nothing is found

module _ {A B : Type 0} (num : A → ℕ) (f : A → B) (z : B) (n : ℕ) where
  here : (t : Bool) (a : A) (b : B) → eqb n (num a) ≡ t → (b ≡ z) ⊎ ((x : A) × (b ≡ f x) × (num x ≡ n)) → (choose t (f a) b ≡ z) ⊎ ((x : A) × (choose t (f a) b ≡ f x) × (num x ≡ n))
  here true a b e h = inr (a, refl, sym (eqb-true n (num a) e))
  here false a b e h = h

  named-found : (l : List A) → (named num f z l n ≡ z) ⊎ ((x : A) × (named num f z l n ≡ f x) × (num x ≡ n))
  named-found [] = inl refl
  named-found (a ∷ l) = here (eqb n (num a)) a (named num f z l n) refl (named-found l)

-- ---- kinds

pub kind-back : (k : Kind) → kind_of (kind_no k) ≡ Some k
unfolding kind_of
kind-back kind.RealPush = refl
kind-back kind.ComplexPush = refl
kind-back kind.ArrayPush = refl
kind-back kind.OtherPush = refl
kind-back kind.Primitive = refl
kind-back kind.Modifier = refl
kind-back kind.Body = refl
kind-back kind.Run = refl
kind-back kind.CustomInverse = refl
kind-back kind.Obverse = refl
kind-back kind.NoNormal = refl
kind-back kind.UnderMarker = refl
kind-back kind.AnythingElse = refl

pub kind-found : (b : ℕ) (k : Kind) → kind_of b ≡ Some k → kind_no k ≡ b
unfolding kind_of
kind-found b k h = by (kind_of b) h (named-found kind_no Some None b kinds)
  where
    by : (o : Option Kind) → o ≡ Some k → (o ≡ None) ⊎ ((x : Kind) × (o ≡ Some x) × (kind_no x ≡ b)) → kind_no k ≡ b
    by o e (inl u) = let w : ◌≡◌ {A = ℕ} 0 1 = cc in absurd (omega arith)
    by o e (inr w) = let q : w.0 ≡ k = cc in rw (← q) w.2

-- ---- primitives

pub primitive-back : (p : Primitive) → primitive_of (primitive_no p) ≡ p
unfolding primitive_of
primitive-back prim.Identity = refl
primitive-back prim.Pop = refl
primitive-back prim.Dup = refl
primitive-back prim.Flip = refl
primitive-back prim.Neg = refl
primitive-back prim.Not = refl
primitive-back prim.Sqrt = refl
primitive-back prim.Add = refl
primitive-back prim.Sub = refl
primitive-back prim.Mul = refl
primitive-back prim.Div = refl
primitive-back prim.Pow = refl
primitive-back prim.Exp = refl
primitive-back prim.Sin = refl
primitive-back prim.Cos = refl
primitive-back prim.Reciprocal = refl
primitive-back prim.Complex = refl
primitive-back prim.Max = refl
primitive-back prim.SinH = refl
primitive-back prim.CosH = refl
primitive-back prim.Exp2 = refl
primitive-back prim.Exp10 = refl
primitive-back prim.Log = refl
primitive-back prim.Ln = refl
primitive-back prim.Log2 = refl
primitive-back prim.Log10 = refl
primitive-back prim.Over = refl
primitive-back prim.Root = refl
primitive-back prim.Unlisted = refl

pub primitive-found : (b : ℕ) → (primitive_of b ≡ prim.Unlisted) ⊎ (primitive_no (primitive_of b) ≡ b)
unfolding primitive_of
primitive-found b = by (primitive_of b) (named-found primitive_no (λ p. p) prim.Unlisted b primitives)
  where
    by : (o : Primitive) → (o ≡ prim.Unlisted) ⊎ ((x : Primitive) × (o ≡ x) × (primitive_no x ≡ b)) → (o ≡ prim.Unlisted) ⊎ (primitive_no o ≡ b)
    by o (inl u) = inl u
    by o (inr w) = inr (rw w.1 w.2)

-- ---- modifiers

pub modifier-back : (m : Modifier) → modifier_of (modifier_no m) ≡ m
unfolding modifier_of
modifier-back modi.Dip = refl
modifier-back modi.Gap = refl
modifier-back modi.On = refl
modifier-back modi.By = refl
modifier-back modi.Both = refl
modifier-back modi.Bracket = refl
modifier-back modi.Fork = refl
modifier-back modi.Unlisted = refl

pub modifier-found : (b : ℕ) → (modifier_of b ≡ modi.Unlisted) ⊎ (modifier_no (modifier_of b) ≡ b)
unfolding modifier_of
modifier-found b = by (modifier_of b) (named-found modifier_no (λ m. m) modi.Unlisted b modifiers)
  where
    by : (o : Modifier) → (o ≡ modi.Unlisted) ⊎ ((x : Modifier) × (o ≡ x) × (modifier_no x ≡ b)) → (o ≡ modi.Unlisted) ⊎ (modifier_no o ≡ b)
    by o (inl u) = inl u
    by o (inr w) = inr (rw w.1 w.2)
