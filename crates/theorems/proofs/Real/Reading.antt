-- What is read without a complex step is real: the flag is false only where nothing but real numbers was pushed and Complex wasn't run. Assumes nothing.
use Prim.Native.Nat.{ℕ}
use mathlib.Core.Path.{◌≡◌, refl, subst}
use mathlib.Core.Bool.{Bool, true, false, ◌||◌}
use lib.Ieee.{binary64, of_bits}
use Rattle.numbers.specs.Constants.{euler}
use Rattle.numbers.specs.Signs.{zero64, one64}
use Rattle.numbers.specs.Complex.Arith as complex
use Rattle.sums.specs.Tree.Kinds as kinds
use Rattle.sums.specs.Tree.Sums.{Sum, none}
use Rattle.sums.specs.Tree.Map.{sum}
use Rattle.arithmetic.specs.Singles.{constant}
use Rattle.arithmetic.specs.Power.{number}
use Rattle.arithmetic.proofs.Steps.{differ, sum_is}
use Rattle.formats.specs.declared.record.Primitive.{Primitive}
use Rattle.formats.specs.declared.record.Primitive.TheVariants.{Identity, Pop, Dup, Flip, Neg, Not, Sqrt, Add, Sub, Mul, Div, Pow, Exp, Sin, Cos, Reciprocal, Complex, Max, SinH, CosH, Exp2, Exp10, Log, Ln, Log2, Log10, Over, Root, Unlisted}
use Rattle.formats.specs.Tree as tree
use Rattle.primitives.specs.Forms.{of_one, of_two}
use Rattle.stack.specs.Steps.{is_complex_primitive}
use Rattle.modifiers.specs.Reading.{done, read_nodes}
use Rattle.modifiers.proofs.Keeps.{Keeping, read_keeps}
use Rattle.theorems.specs.Reals.{RealSum}
use Rattle.theorems.proofs.Real.Coefs.{real-is}
use Rattle.theorems.proofs.Real.Terms.{none-real, single-real, constant_real, alone-real, neg-real, add-real, sub-real, product-real, quotient-real, pow-real, log-real}

-- what a primitive forms of a real sum is real
pub one-real : (p : Primitive) (a s : Sum) → RealSum a → of_one p a ≡ sum s → RealSum s
one-real Identity a s h e = subst RealSum (sum_is e) h
one-real Pop a s h e = subst RealSum (sum_is e) h
one-real Dup a s h e = subst RealSum (sum_is e) h
one-real Flip a s h e = subst RealSum (sum_is e) h
one-real Neg a s h e = subst RealSum (sum_is e) (neg-real a h)
one-real Not a s h e = sub-real (constant complex.one) a s (constant_real one64) h e
one-real Sqrt a s h e = pow-real a (number 0x3fe0000000000000) s h (constant_real (of_bits binary64 0x3fe0000000000000)) e
one-real Add a s h e = subst RealSum (sum_is e) h
one-real Sub a s h e = subst RealSum (sum_is e) h
one-real Mul a s h e = subst RealSum (sum_is e) h
one-real Div a s h e = subst RealSum (sum_is e) h
one-real Pow a s h e = subst RealSum (sum_is e) h
one-real Exp a s h e = pow-real (constant (complex.real euler)) a s (constant_real euler) h e
one-real Sin a s h e = alone-real kinds.Sin zero64 a complex.one s (λ f. real-is one64) h e
one-real Cos a s h e = alone-real kinds.Cos zero64 a complex.one s (λ f. real-is one64) h e
one-real Reciprocal a s h e = quotient-real (constant complex.one) a s (constant_real one64) h e
one-real Complex a s h e = subst RealSum (sum_is e) h
one-real Max a s h e = subst RealSum (sum_is e) h
one-real SinH a s h e = subst RealSum (sum_is e) h
one-real CosH a s h e = subst RealSum (sum_is e) h
one-real Exp2 a s h e = pow-real (number 0x4000000000000000) a s (constant_real (of_bits binary64 0x4000000000000000)) h e
one-real Exp10 a s h e = pow-real (number 0x4024000000000000) a s (constant_real (of_bits binary64 0x4024000000000000)) h e
one-real Log a s h e = subst RealSum (sum_is e) h
one-real Ln a s h e = log-real a (constant (complex.real euler)) s h e
one-real Log2 a s h e = log-real a (number 0x4000000000000000) s h e
one-real Log10 a s h e = log-real a (number 0x4024000000000000) s h e
one-real Over a s h e = subst RealSum (sum_is e) h
one-real Root a s h e = subst RealSum (sum_is e) h
one-real Unlisted a s h e = subst RealSum (sum_is e) h

-- and of two, but for Complex
pub two-real : (p : Primitive) (b a s : Sum) → is_complex_primitive p ≡ false → RealSum b → RealSum a → of_two p b a ≡ sum s → RealSum s
two-real Identity b a s n h k e = subst RealSum (sum_is e) h
two-real Pop b a s n h k e = subst RealSum (sum_is e) h
two-real Dup b a s n h k e = subst RealSum (sum_is e) h
two-real Flip b a s n h k e = subst RealSum (sum_is e) h
two-real Neg b a s n h k e = subst RealSum (sum_is e) h
two-real Not b a s n h k e = subst RealSum (sum_is e) h
two-real Sqrt b a s n h k e = subst RealSum (sum_is e) h
two-real Add b a s n h k e = add-real b a s h k e
two-real Sub b a s n h k e = sub-real b a s h k e
two-real Mul b a s n h k e = product-real b a s h k e
two-real Div b a s n h k e = quotient-real b a s h k e
two-real Pow b a s n h k e = pow-real b a s h k e
two-real Exp b a s n h k e = subst RealSum (sum_is e) h
two-real Sin b a s n h k e = subst RealSum (sum_is e) h
two-real Cos b a s n h k e = subst RealSum (sum_is e) h
two-real Reciprocal b a s n h k e = subst RealSum (sum_is e) h
two-real Complex b a s n h k e = differ n
two-real Max b a s n h k e = subst RealSum (sum_is e) h
two-real SinH b a s n h k e = subst RealSum (sum_is e) h
two-real CosH b a s n h k e = subst RealSum (sum_is e) h
two-real Exp2 b a s n h k e = subst RealSum (sum_is e) h
two-real Exp10 b a s n h k e = subst RealSum (sum_is e) h
two-real Log b a s n h k e = log-real b a s h e
two-real Ln b a s n h k e = subst RealSum (sum_is e) h
two-real Log2 b a s n h k e = subst RealSum (sum_is e) h
two-real Log10 b a s n h k e = subst RealSum (sum_is e) h
two-real Over b a s n h k e = subst RealSum (sum_is e) h
two-real Root b a s n h k e = subst RealSum (sum_is e) h
two-real Unlisted b a s n h k e = subst RealSum (sum_is e) h

-- neither flag is set
neither : (c d : Bool) → c || d ≡ false → (c ≡ false) × (d ≡ false)
neither true d z = differ z
neither false d z = (refl, z)

-- real, where the flag isn't set
abbrev pub Unflagged : Bool → Sum → Type 0
Unflagged c s = c ≡ false → RealSum s

pub real-keeping : Keeping Unflagged
real-keeping =
    record {
      weaker = λ s h z. differ z;
      real = λ c re s e z. alone-real kinds.X zero64 none (complex.real (of_bits binary64 re)) s (λ f. real-is (of_bits binary64 re)) none-real e;
      complex = λ re im s e z. differ z;
      one = λ c p a s h e z. one-real p a s (h z) e;
      two = λ c p a b s h k e z. let n = neither c (is_complex_primitive p) z in two-real p b a s n.1 (k n.0) (h n.0) e;
    }

-- what is read without a complex step is real
pub read_real : (ns : tree.Nodes) {s : Sum} {b : Bool} {k : ℕ} → read_nodes ns ≡ done s false b k → RealSum s
read_real ns e = read_keeps Unflagged real-keeping ns (λ z. single-real kinds.X one64 none complex.one (real-is one64) none-real) e refl
