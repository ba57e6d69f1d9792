-- What reading knows of each primitive: how many operands it takes, how many results it leaves, and whether it counts as handled.
-- One number holds the three.
use Rattle.std.specs.Prelude.{Bool, true, false, cond, ℕ, ◌+◌, ◌*◌}
use Rattle.formats.specs.declared.record.Primitive.{Primitive}
use Rattle.formats.specs.declared.record.Primitive.TheVariants.{Identity, Pop, Dup, Flip, Neg, Not, Sqrt, Add, Sub, Mul, Div, Pow, Exp, Sin, Cos, Reciprocal, Complex, Max, SinH, CosH, Exp2, Exp10, Log, Ln, Log2, Log10, Over, Root, Unlisted}

pub record Row : Type 0 where
  pub taken : ℕ
  pub left : ℕ
  pub handled : Bool

abbrev pub handled_as : ℕ → ℕ → Row
handled_as t l = record { taken = t; left = l; handled = true }

abbrev pub plain_as : ℕ → ℕ → Row
plain_as t l = record { taken = t; left = l; handled = false }

abbrev pub row : Primitive → Row
row Identity = plain_as 1 1
row Pop = plain_as 1 0
row Dup = plain_as 1 2
row Flip = plain_as 2 2
row Neg = handled_as 1 1
row Not = handled_as 1 1
row Sqrt = handled_as 1 1
row Add = handled_as 2 1
row Sub = handled_as 2 1
row Mul = handled_as 2 1
row Div = handled_as 2 1
row Pow = handled_as 2 1
row Exp = handled_as 1 1
row Sin = handled_as 1 1
row Cos = handled_as 1 1
row Reciprocal = handled_as 1 1
row Complex = plain_as 2 1
row Max = plain_as 0 0
row SinH = plain_as 0 0
row CosH = plain_as 0 0
row Exp2 = handled_as 1 1
row Exp10 = handled_as 1 1
row Log = handled_as 2 1
row Ln = handled_as 1 1
row Log2 = handled_as 1 1
row Log10 = handled_as 1 1
row Over = plain_as 2 3
row Root = plain_as 0 0
row Unlisted = plain_as 0 0

abbrev pub packed : Row → ℕ
packed r = r.taken + 4 * r.left + cond r.handled 16 0
