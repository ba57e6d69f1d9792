-- Which primitives count no pairs.
use Rattle.formats.specs.declared.record.Primitive.{Primitive}
use Rattle.formats.specs.declared.record.Primitive.TheVariants.{Mul, Pow}
use Rattle.std.specs.Prelude.{◌≡◌}

-- neither Mul nor Pow
abbrev pub Uncounted : Primitive → Type 0
Uncounted p = (p ≡ Mul → ⊥) × (p ≡ Pow → ⊥)
