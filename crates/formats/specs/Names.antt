-- The kinds, primitives and modifiers, each with its number in document 01, and the name that a number stands for.
use Rattle.std.specs.Prelude.{ℕ, Bool, true, false, Option, Some, None, List, [], ◌∷◌, eqb}
use Rattle.formats.specs.declared.record.Kind.{Kind}
use Rattle.formats.specs.declared.record.Kind.TheVariants as kind
use Rattle.formats.specs.declared.record.Primitive.{Primitive}
use Rattle.formats.specs.declared.record.Primitive.TheVariants as prim
use Rattle.formats.specs.declared.record.Modifier.{Modifier}
use Rattle.formats.specs.declared.record.Modifier.TheVariants as modi

abbrev pub choose : {A : Type 0} → Bool → A → A → A
choose true a b = a
choose false a b = b

-- the first of a list whose number is n, put through f; z where there is none
abbrev pub named : {A B : Type 0} → (A → ℕ) → (A → B) → B → List A → ℕ → B
named num f z [] n = z
named num f z (a ∷ l) n = choose (eqb n (num a)) (f a) (named num f z l n)

-- ---- kinds

abbrev pub kind_no : Kind → ℕ
kind_no kind.RealPush = 1
kind_no kind.ComplexPush = 2
kind_no kind.ArrayPush = 3
kind_no kind.OtherPush = 4
kind_no kind.Primitive = 5
kind_no kind.Modifier = 6
kind_no kind.Body = 7
kind_no kind.Run = 8
kind_no kind.CustomInverse = 9
kind_no kind.Obverse = 10
kind_no kind.NoNormal = 11
kind_no kind.UnderMarker = 12
kind_no kind.AnythingElse = 13

abbrev pub kinds : List Kind
kinds =
    kind.RealPush
    ∷ kind.ComplexPush
    ∷ kind.ArrayPush
    ∷ kind.OtherPush
    ∷ kind.Primitive
    ∷ kind.Modifier
    ∷ kind.Body
    ∷ kind.Run
    ∷ kind.CustomInverse
    ∷ kind.Obverse
    ∷ kind.NoNormal
    ∷ kind.UnderMarker
    ∷ kind.AnythingElse
    ∷ []

unfoldable pub kind_of : ℕ → Option Kind
kind_of = named kind_no Some None kinds

-- ---- primitives; an unlisted one is written as 0, which no listed one has

abbrev pub primitive_no : Primitive → ℕ
primitive_no prim.Identity = 1
primitive_no prim.Pop = 2
primitive_no prim.Dup = 3
primitive_no prim.Flip = 4
primitive_no prim.Neg = 5
primitive_no prim.Not = 6
primitive_no prim.Sqrt = 7
primitive_no prim.Add = 8
primitive_no prim.Sub = 9
primitive_no prim.Mul = 10
primitive_no prim.Div = 11
primitive_no prim.Pow = 12
primitive_no prim.Exp = 13
primitive_no prim.Sin = 14
primitive_no prim.Cos = 15
primitive_no prim.Reciprocal = 16
primitive_no prim.Complex = 17
primitive_no prim.Max = 18
primitive_no prim.SinH = 19
primitive_no prim.CosH = 20
primitive_no prim.Exp2 = 32
primitive_no prim.Exp10 = 33
primitive_no prim.Log = 34
primitive_no prim.Ln = 35
primitive_no prim.Log2 = 36
primitive_no prim.Log10 = 37
primitive_no prim.Over = 38
primitive_no prim.Root = 39
primitive_no prim.Unlisted = 0

abbrev pub primitives : List Primitive
primitives =
    prim.Identity
    ∷ prim.Pop
    ∷ prim.Dup
    ∷ prim.Flip
    ∷ prim.Neg
    ∷ prim.Not
    ∷ prim.Sqrt
    ∷ prim.Add
    ∷ prim.Sub
    ∷ prim.Mul
    ∷ prim.Div
    ∷ prim.Pow
    ∷ prim.Exp
    ∷ prim.Sin
    ∷ prim.Cos
    ∷ prim.Reciprocal
    ∷ prim.Complex
    ∷ prim.Max
    ∷ prim.SinH
    ∷ prim.CosH
    ∷ prim.Exp2
    ∷ prim.Exp10
    ∷ prim.Log
    ∷ prim.Ln
    ∷ prim.Log2
    ∷ prim.Log10
    ∷ prim.Over
    ∷ prim.Root
    ∷ []

unfoldable pub primitive_of : ℕ → Primitive
primitive_of = named primitive_no (λ p. p) prim.Unlisted primitives

-- ---- modifiers, likewise

abbrev pub modifier_no : Modifier → ℕ
modifier_no modi.Dip = 1
modifier_no modi.Gap = 2
modifier_no modi.On = 3
modifier_no modi.By = 4
modifier_no modi.Both = 5
modifier_no modi.Bracket = 6
modifier_no modi.Fork = 7
modifier_no modi.Unlisted = 0

abbrev pub modifiers : List Modifier
modifiers = modi.Dip ∷ modi.Gap ∷ modi.On ∷ modi.By ∷ modi.Both ∷ modi.Bracket ∷ modi.Fork ∷ []

unfoldable pub modifier_of : ℕ → Modifier
modifier_of = named modifier_no (λ m. m) modi.Unlisted modifiers
