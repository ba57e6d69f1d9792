-- What a primitive forms of the sums that it takes.
use Rattle.std.specs.Prelude.{ℕ, List, [], ◌∷◌, eqb}
use Rattle.numbers.specs.Signs.{zero64}
use Rattle.numbers.specs.Complex.Arith as complex
use Rattle.sums.specs.Tree.Kinds as kind
use Rattle.sums.specs.Tree.Sums.{Sum}
use Rattle.sums.specs.Tree.Map.{Outcome, sum}
use Rattle.arithmetic.specs.Singles.{alone}
use Rattle.arithmetic.specs.Adding.{neg_sum, add_sums, sub_sums}
use Rattle.arithmetic.specs.Product.{product}
use Rattle.arithmetic.specs.Quotient.{quotient}
use Rattle.arithmetic.specs.Power.{pow, log, sqrt, exp, exp2, exp10, ln, log2, log10, reciprocal, not_sum, complex_sum}
use Rattle.arithmetic.specs.Pairs.{pairs, pow_pairs}
use Rattle.formats.specs.declared.record.Primitive.{Primitive}
use Rattle.formats.specs.declared.record.Primitive.TheVariants.{Neg, Not, Sqrt, Add, Sub, Mul, Div, Pow, Exp, Sin, Cos, Reciprocal, Complex, Exp2, Exp10, Log, Ln, Log2, Log10}
use Rattle.formats.specs.Names.{choose, primitive_no}

-- a primitive, and what it forms
pub record Forming (A : Type 0) : Type 0 where
  pub of : Primitive
  pub forms : A

abbrev by : {A : Type 0} → Primitive → A → Forming A
by p f = record { of = p; forms = f }

-- what the list has for the primitive; z where it isn't in the list
abbrev pub listed : {A : Type 0} → A → List (Forming A) → Primitive → A
listed z [] p = z
listed z (f ∷ fs) p = choose (eqb (primitive_no p) (primitive_no f.of)) f.forms (listed z fs p)

-- of one sum
abbrev pub of_ones : List (Forming (Sum → Outcome))
of_ones =
    by Neg (λ s. sum (neg_sum s))
    ∷ by Not not_sum
    ∷ by Sqrt sqrt
    ∷ by Exp exp
    ∷ by Sin (λ s. alone kind.Sin zero64 s complex.one)
    ∷ by Cos (λ s. alone kind.Cos zero64 s complex.one)
    ∷ by Reciprocal reciprocal
    ∷ by Exp2 exp2
    ∷ by Exp10 exp10
    ∷ by Ln ln
    ∷ by Log2 log2
    ∷ by Log10 log10
    ∷ []

-- of b, and of a, which was on top of it
abbrev pub of_twos : List (Forming (Sum → Sum → Outcome))
of_twos =
    by Add add_sums
    ∷ by Sub sub_sums
    ∷ by Mul product
    ∷ by Div quotient
    ∷ by Pow pow
    ∷ by Log log
    ∷ by Complex (λ b a. complex_sum a b)
    ∷ []

-- Identity alone takes a sum, leaves one and is in no list: it leaves the sum as it is
abbrev pub of_one : Primitive → Sum → Outcome
of_one = listed sum of_ones

-- every primitive that takes two sums and leaves one is in the list
abbrev pub of_two : Primitive → Sum → Sum → Outcome
of_two = listed (λ b a. sum b) of_twos

-- the primitives whose pairs are counted; some others multiply too, and count nothing
abbrev pub pairs_of_twos : List (Forming (Sum → Sum → ℕ))
pairs_of_twos = by Mul pairs ∷ by Pow pow_pairs ∷ []

-- how many pairs of outermost terms a primitive multiplies, of b, and of a, which was on top of it
unfoldable pub pairs_of : Primitive → Sum → Sum → ℕ
pairs_of p b a = listed (λ d c. 0) pairs_of_twos p b a
