-- What a list means, and what a sum says, in the same words: terms. The list is run by a stack machine that works nothing out: every name, arithmetic too, stays a symbol.
use Rattle.formats.specs.declared.record.Kind.{Kind}
use Rattle.std.specs.Prelude.{ℕ, ◌≡◌, Bool, true, false, ◌&&◌, List, [], ◌∷◌, eqb, Float, Option, Some, None}
use Rattle.std.specs.Float.{binary64}
use Rattle.std.specs.Float.Ieee.{to_bits}
use Rattle.numbers.specs.Signs.{zero64, one64}
use Rattle.numbers.specs.declared.complex.Complex.{Complex}
use Rattle.numbers.specs.Complex.Arith as complex
use Rattle.sums.specs.Tree.Kinds as kinds
use Rattle.sums.specs.Tree.Sums.{Sum, none, and}
use Rattle.formats.specs.declared.record.Record.{Record}
use Rattle.formats.specs.declared.record.Kind.TheVariants as kind
use Rattle.formats.specs.declared.record.Primitive.{Primitive}
use Rattle.formats.specs.declared.record.Primitive.TheVariants as prim
use Rattle.formats.specs.declared.record.Modifier.TheVariants.{On}
use Rattle.formats.specs.Names.{choose, kind_of, primitive_of, modifier_no}
use Rattle.formats.specs.Tree.{Nodes, end, rec, count}
use Rattle.writing.specs.Draft.Writing.{wrote}
use Rattle.writing.specs.ToNodes.{Form, constant, root, bare, square, power, form, primitive_for}
use Rattle.writing.specs.Faithful.{faithful}

-- x; a number by the 64 bits that are pushed for it, or a pair by both; a primitive's name on one value, or on two, of which the first lay below the second
pub data Term : Type 0 where
  x : Term
  real : ℕ → Term
  pair : ℕ → ℕ → Term
  unary : Primitive → Term → Term
  binary : Primitive → Term → Term → Term

-- ---- the stack machine

-- the values on the stack, the top first; or nothing, where the machine doesn't know a record or a pop finds nothing
pub data Values : Type 0 where
  some : List Term → Values
  nothing : Values

abbrev pub next : Values → (List Term → Values) → Values
next (some s) f = f s
next nothing f = nothing

-- the top value a is taken, and f says what then stands on the rest s; the same of a and of b below it
abbrev pub taking : (Term → List Term → List Term) → List Term → Values
taking f [] = nothing
taking f (a ∷ s) = some (f a s)

abbrev pub taking_two : (Term → Term → List Term → List Term) → List Term → Values
taking_two f [] = nothing
taking_two f (a ∷ []) = nothing
taking_two f (a ∷ b ∷ s) = some (f a b s)

-- a name that stays a symbol, on one value and on two
abbrev pub symbol : Primitive → List Term → Values
symbol p = taking (λ a s. unary p a ∷ s)

abbrev pub symbol_of_two : Primitive → List Term → Values
symbol_of_two p = taking_two (λ a b s. binary p b a ∷ s)

-- the first five only move values
abbrev pub perform : Primitive → List Term → Values
perform prim.Identity = taking (λ a s. a ∷ s)
perform prim.Pop = taking (λ a s. s)
perform prim.Dup = taking (λ a s. a ∷ a ∷ s)
perform prim.Flip = taking_two (λ a b s. b ∷ a ∷ s)
perform prim.Over = taking_two (λ a b s. b ∷ a ∷ b ∷ s)
perform prim.Neg = symbol prim.Neg
perform prim.Not = symbol prim.Not
perform prim.Sqrt = symbol prim.Sqrt
perform prim.Reciprocal = symbol prim.Reciprocal
perform prim.Exp = symbol prim.Exp
perform prim.Exp2 = symbol prim.Exp2
perform prim.Exp10 = symbol prim.Exp10
perform prim.Ln = symbol prim.Ln
perform prim.Log2 = symbol prim.Log2
perform prim.Log10 = symbol prim.Log10
perform prim.Sin = symbol prim.Sin
perform prim.Cos = symbol prim.Cos
perform prim.SinH = symbol prim.SinH
perform prim.CosH = symbol prim.CosH
perform prim.Add = symbol_of_two prim.Add
perform prim.Sub = symbol_of_two prim.Sub
perform prim.Mul = symbol_of_two prim.Mul
perform prim.Div = symbol_of_two prim.Div
perform prim.Pow = symbol_of_two prim.Pow
perform prim.Root = symbol_of_two prim.Root
perform prim.Log = symbol_of_two prim.Log
perform prim.Max = symbol_of_two prim.Max
perform prim.Complex = symbol_of_two prim.Complex
perform prim.Unlisted = λ s. nothing

-- On with one body holds the top value and leaves a copy of it on the stack; what was held goes on top of what the body leaves. Other modifiers aren't known.
abbrev pub holding : Bool → (List Term → Values) → List Term → Values
holding true inner [] = nothing
holding true inner (a ∷ s) = next (inner (a ∷ s)) (λ t. some (a ∷ t))
holding false inner s = nothing

-- one record, and how what is inside it runs; a body or a run is that and no more
abbrev pub run_by : Option Kind → Record → Nodes → (List Term → Values) → List Term → Values
run_by (Some kind.RealPush) r ns inner s = some (real r.re ∷ s)
run_by (Some kind.ComplexPush) r ns inner s = some (pair r.re r.im ∷ s)
run_by (Some kind.ArrayPush) r ns inner s = nothing
run_by (Some kind.OtherPush) r ns inner s = nothing
run_by (Some kind.Primitive) r ns inner s = perform (primitive_of r.code) s
run_by (Some kind.Modifier) r ns inner s = holding (eqb r.code (modifier_no On) && eqb (count ns) 1) inner s
run_by (Some kind.Body) r ns inner s = inner s
run_by (Some kind.Run) r ns inner s = inner s
run_by (Some kind.CustomInverse) r ns inner s = nothing
run_by (Some kind.Obverse) r ns inner s = nothing
run_by (Some kind.NoNormal) r ns inner s = nothing
run_by (Some kind.UnderMarker) r ns inner s = nothing
run_by (Some kind.AnythingElse) r ns inner s = nothing
run_by None r ns inner s = nothing

-- a record with what is inside it, then what comes after it
unfoldable pub runs : Nodes → List Term → Values
runs end s = some s
runs (rec r ns ms) s = next (run_by (kind_of r.kind) r ns (λ t. runs ns t) s) (λ t. runs ms t)

-- ---- what a sum says

-- a real number; a coefficient, which is a pair, or, where there were no complex steps, its real part
abbrev pub numeral : Float → Term
numeral v = real (to_bits binary64 v)

abbrev pub coefficient : Bool → Complex → Term
coefficient true c = pair (to_bits binary64 c.re) (to_bits binary64 c.im)
coefficient false c = numeral c.re

-- a times the coefficient c, unless that is 1
abbrev pub times : Bool → Complex → Term → Term
times flag c a = choose (complex.same c complex.one) a (binary prim.Mul a (coefficient flag c))

-- x times 0: nothing at all
abbrev pub no_terms : Term
no_terms = binary prim.Mul x (numeral zero64)

-- a power of x, with its coefficient; for power 0 it is x times 0 plus the coefficient
abbrev pub of_power : Bool → Form → Float → Complex → Term
of_power flag constant p c = binary prim.Add no_terms (coefficient flag c)
of_power flag root p c = times flag c (unary prim.Sqrt x)
of_power flag bare p c = times flag c x
of_power flag square p c = times flag c (binary prim.Mul x x)
of_power flag power p c = times flag c (binary prim.Pow x (numeral p))

-- a function of a: 1 over a, as a quotient where the coefficient isn't 1; the logarithm to the base b; any other by its name
abbrev pub of_function : ℕ → Float → Bool → Term → Term
of_function k b unit a =
    choose (eqb k kinds.Div) (choose unit (unary prim.Reciprocal a) (binary prim.Div (numeral one64) a))
    (choose (eqb k kinds.Log) (binary prim.Log a (numeral b)) (unary (primitive_for k) a))

-- a term with its coefficient, where a is the meaning of its inside
abbrev pub of_entry : Bool → ℕ → Float → Term → Complex → Term
of_entry flag k p a c = choose (eqb k kinds.X) (of_power flag (form p) p c) (times flag c (of_function k p (complex.same c complex.one) a))

-- added in order from the left
unfoldable pub add_to : Term → List Term → Term
add_to a [] = a
add_to a (b ∷ ts) = add_to (binary prim.Add a b) ts

abbrev pub total : List Term → Term
total [] = no_terms
total (a ∷ ts) = add_to a ts

abbrev pub pass_over : Bool → Term → List Term → List Term
pass_over true a ts = ts
pass_over false a ts = a ∷ ts

-- the terms whose coefficient isn't zero
unfoldable pub terms : Bool → Sum → List Term
terms flag none = []
terms flag (and k p i c r) = pass_over (complex.same c complex.zero) (of_entry flag k p (total (terms flag i)) c) (terms flag r)

abbrev pub meaning : Bool → Sum → Term
meaning flag s = total (terms flag s)

-- ---- what is proved

-- What the second writer writes, run on x alone, leaves what the sum says and nothing else: of every sum that it doesn't refuse, with either flag.
-- Equality is identity of terms, so it holds whatever the names stand for.
abbrev pub Meant : Type 0
Meant = (flag : Bool) (s : Sum) (ns : Nodes) → faithful flag s ≡ wrote ns → runs ns (x ∷ []) ≡ some (meaning flag s ∷ [])
