-- What a primitive forms, by cases. Assumes nothing.
use Prim.Native.Nat.{ℕ, ◌≤◌}
use native.Mathlib.Omega.{arith}
use mathlib.Core.Path.{◌≡◌, refl, sym, ap, subst, ◌∙◌}
use mathlib.Core.Bool.{false}
use mathlib.Core.List.{List, [], ◌∷◌}
use borrow.Author.Tests.{ne_eqb}
use lib.Dec.{eqb}
use types.Run.{OneOf, miss}
use denote.Enum.Declared.{tag_of}
use Rattle.numbers.specs.Signs.{zero64}
use Rattle.numbers.proofs.Values.{bits-0}
use Rattle.numbers.specs.declared.complex.Complex as declared
use Rattle.sums.specs.Tree.Sums.{Sum, entry}
use Rattle.sums.specs.Tree.Map.{sum}
use Rattle.sums.specs.Contract.Heads.{GoodHead}
use Rattle.formats.specs.declared.record.Primitive.{Primitive}
use Rattle.formats.specs.declared.record.Primitive.TheVariants.{Identity, Pop, Dup, Flip, Neg, Not, Sqrt, Add, Sub, Mul, Div, Pow, Exp, Sin, Cos, Reciprocal, Complex, Max, SinH, CosH, Exp2, Exp10, Log, Ln, Log2, Log10, Over, Root, Unlisted}
use Rattle.formats.specs.Names.{primitive_no, primitive_of}
use Rattle.formats.proofs.record.Names.{primitive-back}
use Rattle.formats.specs.contracts.record.Primitive.{the_type}
use Rattle.arithmetic.specs.Pairs.{pairs, pow_pairs}
use Rattle.primitives.specs.Contract.Counting.{Uncounted}
use Rattle.primitives.specs.Forms.{of_one, of_two, pairs_of}

-- the head of a term that has an inside and no number
pub over-head : (k n : ℕ) (c : declared.Complex) → 4 ≤ k → k ≤ 8 → 1 ≤ n → GoodHead (entry k n zero64 c)
over-head k n c lo hi some = record { least = omega arith; most = hi; none_else = λ z. bits-0; inside = ne_eqb n 0 (λ e. omega arith) ∙ sym (ne_eqb k 1 (λ e. omega arith)) }

-- ---- the last arm of a match: a primitive that is none of those above it

-- the numbers of the primitives that form nothing of one sum
abbrev pub no_one : List ℕ
no_one = 0 ∷ 1 ∷ 2 ∷ 3 ∷ 7 ∷ 8 ∷ 9 ∷ 10 ∷ 11 ∷ 16 ∷ 17 ∷ 18 ∷ 19 ∷ 22 ∷ 26 ∷ 27 ∷ 28 ∷ []

pub kept : (p : Primitive) (s : Sum) → OneOf no_one (tag_of the_type p) → of_one p s ≡ sum s
kept Identity s o = refl
kept Pop s o = refl
kept Dup s o = refl
kept Flip s o = refl
kept Neg s o = absurd (miss no_one _ tt o)
kept Not s o = absurd (miss no_one _ tt o)
kept Sqrt s o = absurd (miss no_one _ tt o)
kept Add s o = refl
kept Sub s o = refl
kept Mul s o = refl
kept Div s o = refl
kept Pow s o = refl
kept Exp s o = absurd (miss no_one _ tt o)
kept Sin s o = absurd (miss no_one _ tt o)
kept Cos s o = absurd (miss no_one _ tt o)
kept Reciprocal s o = absurd (miss no_one _ tt o)
kept Complex s o = refl
kept Max s o = refl
kept SinH s o = refl
kept CosH s o = refl
kept Exp2 s o = absurd (miss no_one _ tt o)
kept Exp10 s o = absurd (miss no_one _ tt o)
kept Log s o = refl
kept Ln s o = absurd (miss no_one _ tt o)
kept Log2 s o = absurd (miss no_one _ tt o)
kept Log10 s o = absurd (miss no_one _ tt o)
kept Over s o = refl
kept Root s o = refl
kept Unlisted s o = refl

-- and of two: Mul and Pow are not asked for
abbrev pub no-two : List ℕ
no-two = 0 ∷ 1 ∷ 2 ∷ 3 ∷ 4 ∷ 5 ∷ 6 ∷ 9 ∷ 11 ∷ 12 ∷ 13 ∷ 14 ∷ 15 ∷ 17 ∷ 18 ∷ 19 ∷ 20 ∷ 21 ∷ 23 ∷ 24 ∷ 25 ∷ 26 ∷ 27 ∷ 28 ∷ []

pub kept-two : (p : Primitive) (b a : Sum) → Uncounted p → OneOf no-two (tag_of the_type p) → of_two p b a ≡ sum b
kept-two Identity b a u o = refl
kept-two Pop b a u o = refl
kept-two Dup b a u o = refl
kept-two Flip b a u o = refl
kept-two Neg b a u o = refl
kept-two Not b a u o = refl
kept-two Sqrt b a u o = refl
kept-two Add b a u o = absurd (miss no-two _ tt o)
kept-two Sub b a u o = absurd (miss no-two _ tt o)
kept-two Mul b a u o = absurd (u.0 refl)
kept-two Div b a u o = absurd (miss no-two _ tt o)
kept-two Pow b a u o = absurd (u.1 refl)
kept-two Exp b a u o = refl
kept-two Sin b a u o = refl
kept-two Cos b a u o = refl
kept-two Reciprocal b a u o = refl
kept-two Complex b a u o = absurd (miss no-two _ tt o)
kept-two Max b a u o = refl
kept-two SinH b a u o = refl
kept-two CosH b a u o = refl
kept-two Exp2 b a u o = refl
kept-two Exp10 b a u o = refl
kept-two Log b a u o = absurd (miss no-two _ tt o)
kept-two Ln b a u o = refl
kept-two Log2 b a u o = refl
kept-two Log10 b a u o = refl
kept-two Over b a u o = refl
kept-two Root b a u o = refl
kept-two Unlisted b a u o = refl

-- ---- which count no pairs

-- all but Mul and Pow
abbrev pub no_pairs : List ℕ
no_pairs = 0 ∷ 1 ∷ 2 ∷ 3 ∷ 4 ∷ 5 ∷ 6 ∷ 7 ∷ 8 ∷ 10 ∷ 12 ∷ 13 ∷ 14 ∷ 15 ∷ 16 ∷ 17 ∷ 18 ∷ 19 ∷ 20 ∷ 21 ∷ 22 ∷ 23 ∷ 24 ∷ 25 ∷ 26 ∷ 27 ∷ 28 ∷ []

pub uncounted : (p : Primitive) → OneOf no_pairs (tag_of the_type p) → Uncounted p
uncounted p o = (
  λ e. miss no_pairs 9 tt (subst (λ (q : Primitive). OneOf no_pairs (tag_of the_type q)) e o),
  λ e. miss no_pairs 11 tt (subst (λ (q : Primitive). OneOf no_pairs (tag_of the_type q)) e o),
)

-- each primitive has a number of its own
other-number : (p q : Primitive) → (p ≡ q → ⊥) → eqb (primitive_no p) (primitive_no q) ≡ false
other-number p q h = ne_eqb (primitive_no p) (primitive_no q) (λ e. h (sym (primitive-back p) ∙ ap primitive_of e ∙ primitive-back q))

pub pairs-none : (p : Primitive) (b a : Sum) → Uncounted p → pairs_of p b a ≡ 0
unfolding pairs_of
pairs-none p b a u = rw (other-number p Mul u.0, other-number p Pow u.1) refl

-- the pairs of those that count them
pub pairs-mul : (b a : Sum) → pairs_of Mul b a ≡ pairs b a
unfolding pairs_of
pairs-mul b a = refl

pub pairs-pow : (b a : Sum) → pairs_of Pow b a ≡ pow_pairs b a
unfolding pairs_of
pairs-pow b a = refl
