-- A record that has no inside as a step without what is counted of it, and what is counted.
use Rattle.std.specs.Prelude.{ℕ, ◌-◌, Bool, true, false, Option, Some, None}
use Rattle.limits.specs.declared.Refusal.{Refusal}
use Rattle.limits.specs.declared.Refusal.TheVariants.{NotSupported, NonScalar, NonReal, NoInverse}
use Rattle.formats.specs.declared.record.Primitive.{Primitive}
use Rattle.formats.specs.declared.record.Record.{Record}
use Rattle.formats.specs.declared.record.Kind.{Kind}
use Rattle.formats.specs.declared.record.Kind.TheVariants as kind
use Rattle.formats.specs.Names.{primitive_of}
use Rattle.formats.specs.Table.{row}
use Rattle.stack.specs.State.{State, Walked, went, stop, taking, push}
use Rattle.stack.specs.Steps.{constant_of, leaves, is_complex_primitive}
use Rattle.stack.specs.Contract.Arena.{Arena, places}
use Rattle.stack.specs.Contract.Agree.{Acts}
use Rattle.stack.specs.declared.state.Stepped.{Stepped}

-- a primitive that takes n sums leaves of them what the definition says, wherever its record stands
abbrev pub Applies : Arena → Arena → ℕ → ℕ → ℕ → Stepped → ℕ → Primitive → Type 0
Applies a a' v used handled r n p = (at : ℕ) → Acts a a' v used handled at r (λ st. taking at n st (leaves at (places - v) p))

-- why a record of a kind that has no step is not run
abbrev pub why_not : Kind → Refusal
why_not kind.RealPush = NotSupported
why_not kind.ComplexPush = NotSupported
why_not kind.ArrayPush = NonScalar
why_not kind.OtherPush = NonReal
why_not kind.Primitive = NotSupported
why_not kind.Modifier = NotSupported
why_not kind.Body = NotSupported
why_not kind.Run = NotSupported
why_not kind.CustomInverse = NotSupported
why_not kind.Obverse = NotSupported
why_not kind.NoNormal = NoInverse
why_not kind.UnderMarker = NotSupported
why_not kind.AnythingElse = NotSupported

-- the step that a record is
unfoldable pub leaf_act : ℕ → Record → Option Kind → ℕ → State → Walked
leaf_act at r (Some kind.RealPush) h st = push at h (constant_of r.re 0) st
leaf_act at r (Some kind.ComplexPush) h st = push at h (constant_of r.re r.im) st
leaf_act at r (Some kind.ArrayPush) h st = stop at NonScalar st
leaf_act at r (Some kind.OtherPush) h st = stop at NonReal st
leaf_act at r (Some kind.Primitive) h st = taking at (row (primitive_of r.code)).taken st (leaves at h (primitive_of r.code))
leaf_act at r (Some kind.Modifier) h st = stop at NotSupported st
leaf_act at r (Some kind.Body) h st = stop at NotSupported st
leaf_act at r (Some kind.Run) h st = stop at NotSupported st
leaf_act at r (Some kind.CustomInverse) h st = stop at NotSupported st
leaf_act at r (Some kind.Obverse) h st = stop at NotSupported st
leaf_act at r (Some kind.NoNormal) h st = stop at NoInverse st
leaf_act at r (Some kind.UnderMarker) h st = went st
leaf_act at r (Some kind.AnythingElse) h st = stop at NotSupported st
leaf_act at r None h st = stop at NotSupported st

-- what is so of a primitive, of a push of a complex number, and of no other record
abbrev pub of_kind : Option Kind → Bool → Bool → Bool
of_kind (Some kind.RealPush) primitive complex = false
of_kind (Some kind.ComplexPush) primitive complex = complex
of_kind (Some kind.ArrayPush) primitive complex = false
of_kind (Some kind.OtherPush) primitive complex = false
of_kind (Some kind.Primitive) primitive complex = primitive
of_kind (Some kind.Modifier) primitive complex = false
of_kind (Some kind.Body) primitive complex = false
of_kind (Some kind.Run) primitive complex = false
of_kind (Some kind.CustomInverse) primitive complex = false
of_kind (Some kind.Obverse) primitive complex = false
of_kind (Some kind.NoNormal) primitive complex = false
of_kind (Some kind.UnderMarker) primitive complex = false
of_kind (Some kind.AnythingElse) primitive complex = false
of_kind None primitive complex = false

-- once it was run, it counts as handled
abbrev pub handled_by : Record → Option Kind → Bool
handled_by r k = of_kind k (row (primitive_of r.code)).handled false

-- it tells of a complex number
abbrev pub complex_by : Record → Option Kind → Bool
complex_by r k = of_kind k (is_complex_primitive (primitive_of r.code)) true
