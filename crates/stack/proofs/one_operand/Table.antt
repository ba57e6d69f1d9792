-- What is known of each primitive: the sums that it forms are good, and what its row of the table may say. Assumes nothing.
use Prim.Native.Nat.{◌≤◌}
use native.Mathlib.Omega.{arith}
use mathlib.Core.Path.{◌≡◌, refl, subst}
use Rattle.numbers.specs.Complex.Arith as complex
use Rattle.sums.specs.Tree.Kinds as kinds
use Rattle.sums.specs.Tree.Sums.{Sum}
use Rattle.sums.specs.Tree.Map.{sum}
use Rattle.arithmetic.specs.Singles.{GoodSum}
use Rattle.arithmetic.proofs.Steps.{sum_is}
use Rattle.arithmetic.proofs.Goodness as goodness
use Rattle.formats.specs.declared.record.Primitive.{Primitive}
use Rattle.formats.specs.declared.record.Primitive.TheVariants as primitive
use Rattle.formats.specs.Table.{row}
use Rattle.primitives.specs.Forms.{of_one, of_two}

-- what a primitive forms of a good sum is one
pub of-one-good : (p : Primitive) {s r : Sum} → GoodSum s → of_one p s ≡ sum r → GoodSum r
of-one-good primitive.Identity g h = subst GoodSum (sum_is h) g
of-one-good primitive.Pop g h = subst GoodSum (sum_is h) g
of-one-good primitive.Dup g h = subst GoodSum (sum_is h) g
of-one-good primitive.Flip g h = subst GoodSum (sum_is h) g
of-one-good primitive.Neg g h = subst GoodSum (sum_is h) (goodness.good-neg g)
of-one-good primitive.Not g h = goodness.good-not g h
of-one-good primitive.Sqrt g h = goodness.good-sqrt g h
of-one-good primitive.Add g h = subst GoodSum (sum_is h) g
of-one-good primitive.Sub g h = subst GoodSum (sum_is h) g
of-one-good primitive.Mul g h = subst GoodSum (sum_is h) g
of-one-good primitive.Div g h = subst GoodSum (sum_is h) g
of-one-good primitive.Pow g h = subst GoodSum (sum_is h) g
of-one-good primitive.Exp g h = goodness.good-exp g h
of-one-good primitive.Sin g h = goodness.good-over kinds.Sin complex.one (omega arith) (omega arith) refl (goodness.fits_bits 0x3ff0000000000000) g h
of-one-good primitive.Cos g h = goodness.good-over kinds.Cos complex.one (omega arith) (omega arith) refl (goodness.fits_bits 0x3ff0000000000000) g h
of-one-good primitive.Reciprocal g h = goodness.good-reciprocal g h
of-one-good primitive.Complex g h = subst GoodSum (sum_is h) g
of-one-good primitive.Max g h = subst GoodSum (sum_is h) g
of-one-good primitive.SinH g h = subst GoodSum (sum_is h) g
of-one-good primitive.CosH g h = subst GoodSum (sum_is h) g
of-one-good primitive.Exp2 g h = goodness.good-exp2 g h
of-one-good primitive.Exp10 g h = goodness.good-exp10 g h
of-one-good primitive.Log g h = subst GoodSum (sum_is h) g
of-one-good primitive.Ln g h = goodness.good-ln g h
of-one-good primitive.Log2 g h = goodness.good-log2 g h
of-one-good primitive.Log10 g h = goodness.good-log10 g h
of-one-good primitive.Over g h = subst GoodSum (sum_is h) g
of-one-good primitive.Root g h = subst GoodSum (sum_is h) g
of-one-good primitive.Unlisted g h = subst GoodSum (sum_is h) g

-- and of two
pub of-two-good : (p : Primitive) {b a r : Sum} → GoodSum b → GoodSum a → of_two p b a ≡ sum r → GoodSum r
of-two-good primitive.Identity g e h = subst GoodSum (sum_is h) g
of-two-good primitive.Pop g e h = subst GoodSum (sum_is h) g
of-two-good primitive.Dup g e h = subst GoodSum (sum_is h) g
of-two-good primitive.Flip g e h = subst GoodSum (sum_is h) g
of-two-good primitive.Neg g e h = subst GoodSum (sum_is h) g
of-two-good primitive.Not g e h = subst GoodSum (sum_is h) g
of-two-good primitive.Sqrt g e h = subst GoodSum (sum_is h) g
of-two-good primitive.Add g e h = goodness.good-add g e h
of-two-good primitive.Sub g e h = goodness.good-sub g e h
of-two-good primitive.Mul g e h = goodness.good-product g e h
of-two-good primitive.Div g e h = goodness.good-quotient g e h
of-two-good primitive.Pow g e h = goodness.good-pow g e h
of-two-good primitive.Exp g e h = subst GoodSum (sum_is h) g
of-two-good primitive.Sin g e h = subst GoodSum (sum_is h) g
of-two-good primitive.Cos g e h = subst GoodSum (sum_is h) g
of-two-good primitive.Reciprocal g e h = subst GoodSum (sum_is h) g
of-two-good primitive.Complex g e h = goodness.good-complex e g h
of-two-good primitive.Max g e h = subst GoodSum (sum_is h) g
of-two-good primitive.SinH g e h = subst GoodSum (sum_is h) g
of-two-good primitive.CosH g e h = subst GoodSum (sum_is h) g
of-two-good primitive.Exp2 g e h = subst GoodSum (sum_is h) g
of-two-good primitive.Exp10 g e h = subst GoodSum (sum_is h) g
of-two-good primitive.Log g e h = goodness.good-log g e h
of-two-good primitive.Ln g e h = subst GoodSum (sum_is h) g
of-two-good primitive.Log2 g e h = subst GoodSum (sum_is h) g
of-two-good primitive.Log10 g e h = subst GoodSum (sum_is h) g
of-two-good primitive.Over g e h = subst GoodSum (sum_is h) g
of-two-good primitive.Root g e h = subst GoodSum (sum_is h) g
of-two-good primitive.Unlisted g e h = subst GoodSum (sum_is h) g

-- a primitive takes two sums at most, and leaves one at least of two
pub rows : (p : Primitive) → ((row p).taken ≤ 2) × ((row p).taken ≡ 2 → 1 ≤ (row p).left)
rows primitive.Identity = (omega arith, λ e. omega arith)
rows primitive.Pop = (omega arith, λ e. omega arith)
rows primitive.Dup = (omega arith, λ e. omega arith)
rows primitive.Flip = (omega arith, λ e. omega arith)
rows primitive.Neg = (omega arith, λ e. omega arith)
rows primitive.Not = (omega arith, λ e. omega arith)
rows primitive.Sqrt = (omega arith, λ e. omega arith)
rows primitive.Add = (omega arith, λ e. omega arith)
rows primitive.Sub = (omega arith, λ e. omega arith)
rows primitive.Mul = (omega arith, λ e. omega arith)
rows primitive.Div = (omega arith, λ e. omega arith)
rows primitive.Pow = (omega arith, λ e. omega arith)
rows primitive.Exp = (omega arith, λ e. omega arith)
rows primitive.Sin = (omega arith, λ e. omega arith)
rows primitive.Cos = (omega arith, λ e. omega arith)
rows primitive.Reciprocal = (omega arith, λ e. omega arith)
rows primitive.Complex = (omega arith, λ e. omega arith)
rows primitive.Max = (omega arith, λ e. omega arith)
rows primitive.SinH = (omega arith, λ e. omega arith)
rows primitive.CosH = (omega arith, λ e. omega arith)
rows primitive.Exp2 = (omega arith, λ e. omega arith)
rows primitive.Exp10 = (omega arith, λ e. omega arith)
rows primitive.Log = (omega arith, λ e. omega arith)
rows primitive.Ln = (omega arith, λ e. omega arith)
rows primitive.Log2 = (omega arith, λ e. omega arith)
rows primitive.Log10 = (omega arith, λ e. omega arith)
rows primitive.Over = (omega arith, λ e. omega arith)
rows primitive.Root = (omega arith, λ e. omega arith)
rows primitive.Unlisted = (omega arith, λ e. omega arith)
