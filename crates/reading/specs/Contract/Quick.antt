-- Which records take the quick way: a push of a number, or a primitive. And which have nodes inside that are run in turn.
use Rattle.formats.specs.declared.record.Kind.{Kind}
use Rattle.std.specs.Prelude.{Bool, true, false, Option, Some, None}
use Rattle.formats.specs.declared.record.Kind.TheVariants as kind
use Rattle.modifiers.specs.declared.Inside.{Inside}
use Rattle.modifiers.specs.declared.Inside.TheVariants.{Nothing, Nodes, Bodies}

abbrev pub is_quick : Option Kind → Bool
is_quick (Some kind.RealPush) = true
is_quick (Some kind.ComplexPush) = true
is_quick (Some kind.ArrayPush) = false
is_quick (Some kind.OtherPush) = false
is_quick (Some kind.Primitive) = true
is_quick (Some kind.Modifier) = false
is_quick (Some kind.Body) = false
is_quick (Some kind.Run) = false
is_quick (Some kind.CustomInverse) = false
is_quick (Some kind.Obverse) = false
is_quick (Some kind.NoNormal) = false
is_quick (Some kind.UnderMarker) = false
is_quick (Some kind.AnythingElse) = false
is_quick None = false

abbrev pub has_nodes : Inside → Bool
has_nodes Nothing = false
has_nodes Nodes = true
has_nodes Bodies = false
