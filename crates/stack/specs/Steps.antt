-- One record that has no inside, as a step: a push, a primitive, a marker or anything else.
use Rattle.formats.specs.declared.record.Kind.{Kind}
use Rattle.std.specs.Prelude.{ℕ, zero, suc, ◌+◌, min, Bool, true, ◌||◌, cond, List, [], ◌∷◌, eqb, Option, Some, None}
use Rattle.std.specs.Float.{binary64}
use Rattle.std.specs.Float.Ieee.{of_bits}
use Rattle.limits.specs.Limits.{handled_needed}
use Rattle.numbers.specs.Signs.{zero64}
use Rattle.numbers.specs.Complex.Arith as complex
use Rattle.limits.specs.declared.Refusal.TheVariants.{NotSupported, NonScalar, NonReal, NoInverse}
use Rattle.sums.specs.Tree.Kinds as kinds
use Rattle.sums.specs.Tree.Sums.{Sum, none}
use Rattle.sums.specs.Tree.Map.{Outcome}
use Rattle.arithmetic.specs.Singles.{alone}
use Rattle.formats.specs.declared.record.Primitive.{Primitive}
use Rattle.formats.specs.declared.record.Primitive.TheVariants.{Complex}
use Rattle.formats.specs.declared.record.Record.{Record}
use Rattle.formats.specs.declared.record.Kind.TheVariants as kind
use Rattle.formats.specs.Names.{primitive_no, primitive_of}
use Rattle.formats.specs.Table.{row}
use Rattle.primitives.specs.Forms.{of_one, of_two, pairs_of}
use Rattle.stack.specs.State.{State, Walked, went, and_then, stop, taking, lend, push}

-- a push of a number is a constant formed
abbrev pub constant_of : ℕ → ℕ → Outcome
constant_of re im = alone kinds.X zero64 none (complex.complex (of_bits binary64 re) (of_bits binary64 im))

abbrev pub flagged : Bool → State → State
flagged b st = record { stack = st.stack; handled = st.handled; complex = st.complex || b; pairs = st.pairs }

-- one more is handled
abbrev pub counted : Bool → State → State
counted b st = record { stack = st.stack; handled = cond b (min handled_needed (suc st.handled)) st.handled; complex = st.complex; pairs = st.pairs }

-- n more pairs were multiplied
abbrev pub paired : ℕ → State → State
paired n st = record { stack = st.stack; handled = st.handled; complex = st.complex; pairs = n + st.pairs }

-- what a primitive leaves of the one sum that it takes: nothing (Pop), what it forms, or the sum twice (Dup)
abbrev pub leaves_of_one : ℕ → ℕ → Primitive → ℕ → Sum → State → Walked
leaves_of_one at h p zero a st = went st
leaves_of_one at h p (suc zero) a st = push at h (of_one p a) st
leaves_of_one at h p (suc (suc n)) a st = lend at h (a ∷ a ∷ []) st

-- of a, which was on top, and b below it: what it forms, the two turned (Flip), or b put on top of them (Over)
abbrev pub leaves_of_two : ℕ → ℕ → Primitive → ℕ → Sum → Sum → State → Walked
leaves_of_two at h p zero a b st = went st
leaves_of_two at h p (suc zero) a b st = push at h (of_two p b a) (paired (pairs_of p b a) st)
leaves_of_two at h p (suc (suc zero)) a b st = lend at h (b ∷ a ∷ []) st
leaves_of_two at h p (suc (suc (suc n))) a b st = lend at h (b ∷ a ∷ b ∷ []) st

-- of what was taken off, the top first
abbrev pub leaves : ℕ → ℕ → Primitive → List Sum → State → Walked
leaves at h p [] st = stop at NotSupported st
leaves at h p (a ∷ []) st = leaves_of_one at h p (row p).left a st
leaves at h p (a ∷ b ∷ ss) st = leaves_of_two at h p (row p).left a b st

abbrev pub is_complex_primitive : Primitive → Bool
is_complex_primitive p = eqb (primitive_no p) (primitive_no Complex)

-- the table says how many are taken off: none stands for a primitive that is not read. One that was run counts as handled where the table says so; Complex sets the flag
unfoldable pub primitive : ℕ → Primitive → ℕ → State → Walked
primitive at p h st =
    and_then (taking at (row p).taken st (leaves at h p)) (λ st'. went (flagged (is_complex_primitive p) (counted (row p).handled st')))

-- a record that is run with no regard to what is inside it; the kinds whose inside is run do not come here
unfoldable pub leaf_step : ℕ → Record → Option Kind → ℕ → State → Walked
leaf_step at r (Some kind.RealPush) h st = push at h (constant_of r.re 0) st
leaf_step at r (Some kind.ComplexPush) h st = and_then (push at h (constant_of r.re r.im) st) (λ st'. went (flagged true st'))
leaf_step at r (Some kind.ArrayPush) h st = stop at NonScalar st
leaf_step at r (Some kind.OtherPush) h st = stop at NonReal st
leaf_step at r (Some kind.Primitive) h st = primitive at (primitive_of r.code) h st
leaf_step at r (Some kind.Modifier) h st = stop at NotSupported st
leaf_step at r (Some kind.Body) h st = stop at NotSupported st
leaf_step at r (Some kind.Run) h st = stop at NotSupported st
leaf_step at r (Some kind.CustomInverse) h st = stop at NotSupported st
leaf_step at r (Some kind.Obverse) h st = stop at NotSupported st
leaf_step at r (Some kind.NoNormal) h st = stop at NoInverse st
leaf_step at r (Some kind.UnderMarker) h st = went st
leaf_step at r (Some kind.AnythingElse) h st = stop at NotSupported st
leaf_step at r None h st = stop at NotSupported st
