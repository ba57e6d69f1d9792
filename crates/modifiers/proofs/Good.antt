-- Every sum that reading leaves is a good one. Assumes nothing.
use Prim.Native.Nat.{ℕ}
use native.Mathlib.Omega.{arith}
use mathlib.Core.Path.{◌≡◌, refl, subst}
use mathlib.Core.Bool.{Bool}
use lib.Ieee.{binary64, of_bits}
use lib.Ieee.Bits.{of_bits-fits}
use Rattle.numbers.specs.Signs.{zero64, one64}
use Rattle.numbers.specs.Complex.Arith as complex
use Rattle.sums.specs.Tree.Kinds as kinds
use Rattle.sums.specs.Tree.Sums.{Sum, none, size}
use Rattle.sums.specs.Tree.Good.{Good}
use Rattle.sums.specs.Tree.Map.{sum}
use Rattle.arithmetic.specs.Singles.{GoodSum, single}
use Rattle.arithmetic.proofs.Steps.{sum_is}
use Rattle.arithmetic.proofs.Goodness.{x-head, none-good, fits_bits, good-x_to, good-one, good-alone, good-over, good-neg, good-not, good-sqrt, good-add, good-sub, good-product, good-quotient, good-pow, good-exp, good-reciprocal, good-complex, good-exp2, good-exp10, good-log, good-ln, good-log2, good-log10}
use Rattle.formats.specs.declared.record.Primitive.{Primitive}
use Rattle.formats.specs.declared.record.Primitive.TheVariants.{Identity, Pop, Dup, Flip, Neg, Not, Sqrt, Add, Sub, Mul, Div, Pow, Exp, Sin, Cos, Reciprocal, Complex, Max, SinH, CosH, Exp2, Exp10, Log, Ln, Log2, Log10, Over, Root, Unlisted}
use Rattle.formats.specs.Tree as tree
use Rattle.primitives.specs.Forms.{of_one, of_two}
use Rattle.stack.specs.Steps.{constant_of}
use Rattle.modifiers.specs.Reading.{done, read_nodes}
use Rattle.modifiers.proofs.Keeps.{Keeping, read_keeps}

-- a push that forms a sum forms a good one
pub constant-good : (re im : ℕ) {s : Sum} → constant_of re im ≡ sum s → GoodSum s
constant-good re im e =
    good-alone (x-head (size none) zero64 (complex.complex (of_bits binary64 re) (of_bits binary64 im)) (of_bits-fits binary64 0)
    (record { re = of_bits-fits binary64 re; im = of_bits-fits binary64 im })) none-good e

-- what a primitive forms of a good sum is good
pub one-good : (p : Primitive) {a s : Sum} → GoodSum a → of_one p a ≡ sum s → GoodSum s
one-good Identity g e = subst GoodSum (sum_is e) g
one-good Pop g e = subst GoodSum (sum_is e) g
one-good Dup g e = subst GoodSum (sum_is e) g
one-good Flip g e = subst GoodSum (sum_is e) g
one-good Neg g e = subst GoodSum (sum_is e) (good-neg g)
one-good Not g e = good-not g e
one-good Sqrt g e = good-sqrt g e
one-good Add g e = subst GoodSum (sum_is e) g
one-good Sub g e = subst GoodSum (sum_is e) g
one-good Mul g e = subst GoodSum (sum_is e) g
one-good Div g e = subst GoodSum (sum_is e) g
one-good Pow g e = subst GoodSum (sum_is e) g
one-good Exp g e = good-exp g e
one-good Sin g e = good-over kinds.Sin complex.one (omega arith) (omega arith) refl (fits_bits 0x3ff0000000000000) g e
one-good Cos g e = good-over kinds.Cos complex.one (omega arith) (omega arith) refl (fits_bits 0x3ff0000000000000) g e
one-good Reciprocal g e = good-reciprocal g e
one-good Complex g e = subst GoodSum (sum_is e) g
one-good Max g e = subst GoodSum (sum_is e) g
one-good SinH g e = subst GoodSum (sum_is e) g
one-good CosH g e = subst GoodSum (sum_is e) g
one-good Exp2 g e = good-exp2 g e
one-good Exp10 g e = good-exp10 g e
one-good Log g e = subst GoodSum (sum_is e) g
one-good Ln g e = good-ln g e
one-good Log2 g e = good-log2 g e
one-good Log10 g e = good-log10 g e
one-good Over g e = subst GoodSum (sum_is e) g
one-good Root g e = subst GoodSum (sum_is e) g
one-good Unlisted g e = subst GoodSum (sum_is e) g

-- and of two
pub two_good : (p : Primitive) {b a s : Sum} → GoodSum b → GoodSum a → of_two p b a ≡ sum s → GoodSum s
two_good Identity g h e = subst GoodSum (sum_is e) g
two_good Pop g h e = subst GoodSum (sum_is e) g
two_good Dup g h e = subst GoodSum (sum_is e) g
two_good Flip g h e = subst GoodSum (sum_is e) g
two_good Neg g h e = subst GoodSum (sum_is e) g
two_good Not g h e = subst GoodSum (sum_is e) g
two_good Sqrt g h e = subst GoodSum (sum_is e) g
two_good Add g h e = good-add g h e
two_good Sub g h e = good-sub g h e
two_good Mul g h e = good-product g h e
two_good Div g h e = good-quotient g h e
two_good Pow g h e = good-pow g h e
two_good Exp g h e = subst GoodSum (sum_is e) g
two_good Sin g h e = subst GoodSum (sum_is e) g
two_good Cos g h e = subst GoodSum (sum_is e) g
two_good Reciprocal g h e = subst GoodSum (sum_is e) g
two_good Complex g h e = good-complex h g e
two_good Max g h e = subst GoodSum (sum_is e) g
two_good SinH g h e = subst GoodSum (sum_is e) g
two_good CosH g h e = subst GoodSum (sum_is e) g
two_good Exp2 g h e = subst GoodSum (sum_is e) g
two_good Exp10 g h e = subst GoodSum (sum_is e) g
two_good Log g h e = good-log g h e
two_good Ln g h e = subst GoodSum (sum_is e) g
two_good Log2 g h e = subst GoodSum (sum_is e) g
two_good Log10 g h e = subst GoodSum (sum_is e) g
two_good Over g h e = subst GoodSum (sum_is e) g
two_good Root g h e = subst GoodSum (sum_is e) g
two_good Unlisted g h e = subst GoodSum (sum_is e) g

-- x is good
pub x-good : GoodSum (single kinds.X one64 none complex.one)
unfolding Good
x-good = good-x_to one64 complex.one good-one.good.0.re good-one.good.0.re good-one.good.0.im

pub good-keeping : Keeping (λ c s. GoodSum s)
good-keeping =
    record {
      weaker = λ s g. g;
      real = λ c re s e. constant-good re 0 e;
      complex = λ re im s e. constant-good re im e;
      one = λ c p a s g e. one-good p g e;
      two = λ c p a b s g h e. two_good p h g e;
    }

-- what is read is good
pub read-good : (ns : tree.Nodes) {s : Sum} {c b : Bool} {k : ℕ} → read_nodes ns ≡ done s c b k → GoodSum s
read-good ns e = read_keeps (λ c s. GoodSum s) good-keeping ns x-good e
