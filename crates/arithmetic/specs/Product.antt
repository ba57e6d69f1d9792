-- The Rust's product of two sums: each term of the first with each of the second, in order, added into a map that starts empty.
-- X(a) X(b) is X(a ⊕ b), and Div(a) Div(b) is Div(a b), whose inside is formed first. TooComplex is asked before anything is formed.
use Rattle.std.specs.Prelude.{ℕ, Bool, true, false, ◌&&◌, cond, eqb, Float}
use Rattle.numbers.specs.Ops.{◌⊕◌}
use Rattle.numbers.specs.Signs.{zero64}
use Rattle.numbers.specs.declared.complex.Complex.{Complex}
use Rattle.numbers.specs.Complex.Arith as complex
use Rattle.cells.specs.declared.Entry.{Entry}
use Rattle.sums.specs.declared.tree.Merge.TheVariants.{Add}
use Rattle.limits.specs.declared.Refusal.TheVariants.{TooComplex}
use Rattle.sums.specs.Tree.Kinds.{X, Div}
use Rattle.sums.specs.Tree.Sums.{Sum, none, and, size, entry}
use Rattle.sums.specs.Tree.Map.{Outcome, sum, and_then_sum, unless, formed, each_into}
use Rattle.arithmetic.specs.Outcomes.{product_code, add_powers, mul_insides}

-- whether a term of kind k has a product with one of kind l and inside j; f says it of its inside
abbrev pub pairable : ℕ → (Sum → Bool) → ℕ → Sum → Bool
pairable k f l j = cond (eqb (product_code k l) add_powers) true (cond (eqb (product_code k l) mul_insides) (f j) false)

unfoldable pub rowable : ℕ → (Sum → Bool) → Sum → Bool
rowable k f none = true
rowable k f (and l q j d s) = pairable k f l j && rowable k f s

-- whether two sums have a product
unfoldable pub mulable : Sum → Sum → Bool
mulable none b = true
mulable (and k p i c r) b = rowable k (λ v. mulable i v) b && mulable r b

-- the product of the terms x and y is added into s; f gives the product of x's inside with another
abbrev pub mul_term : Entry → (Sum → Outcome) → Entry → Sum → Sum → Outcome
mul_term x f y v s =
    cond (eqb x.kind X) (formed Add (entry X 0 (x.num ⊕ y.num) (complex.times x.coef y.coef)) none s)
    (and_then_sum (f v) (λ w. formed Add (entry Div (size w) zero64 (complex.times x.coef y.coef)) w s))

-- the products of one term x and each of b are added into s
abbrev pub mul_row : Entry → (Sum → Outcome) → Sum → Sum → Outcome
mul_row x f b s = each_into (mul_term x f) s b

-- the products of the terms of a with those of b are added into s
unfoldable pub mul_into : Sum → Sum → Sum → Outcome
mul_into none b s = sum s
mul_into (and k p i c r) b s = and_then_sum (mul_row (entry k (size i) p c) (λ v. mul_into i v none) b s) (λ s'. mul_into r b s')

unfoldable pub product : Sum → Sum → Outcome
product a b = unless (mulable a b) TooComplex (mul_into a b none)
