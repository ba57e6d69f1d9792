-- The Rust's derivative of a sum. One outermost entry is one step: 7 is asked first, then 14, and then 18, 15, 13 and 12 as the entry is formed.
use Rattle.std.specs.Prelude.{ℕ, Bool, cond, eqb, Float, Option, Some, None}
use Rattle.std.specs.Float.Ieee.{eq, of_bits}
use Rattle.std.specs.Float.{binary64}
use Rattle.numbers.specs.Constants.{euler, ln2, ln10, two64}
use Rattle.numbers.specs.Ops.{◌⊖◌}
use Rattle.numbers.specs.Signs.{zero64, one64}
use Rattle.numbers.specs.declared.complex.Complex.{Complex}
use Rattle.numbers.specs.Complex.Arith as complex
use Rattle.cells.specs.declared.Entry.{Entry}
use Rattle.sums.specs.declared.tree.Merge.{Merge}
use Rattle.sums.specs.declared.tree.Merge.TheVariants.{Add, Take}
use Rattle.limits.specs.declared.Refusal.TheVariants.{TooComplex, NeedsMath}
use Rattle.sums.specs.Tree.Kinds as kinds
use Rattle.sums.specs.Tree.Sums.{Sum, none, and, size, entry}
use Rattle.sums.specs.Tree.Map.{Outcome, sum, refused, Found, at, absent, and_then_sum, unless, formed, each_into}
use Rattle.arithmetic.specs.Singles.{constant, is_x}
use Rattle.arithmetic.specs.Product.{product}

-- ---- powers of x

-- the coefficient times the power; a term whose product is 0 is skipped
abbrev pub slope : Float → Complex → Complex
slope p c = complex.times_real c p

abbrev pub vanishes : Float → Complex → Bool
vanishes p c = complex.same (slope p c) complex.zero

-- ---- functions of a sum

-- a power of x in a function's argument: it is skipped, or its derivative is to the 0 and is added; else the argument's derivative is no constant
abbrev pub prime_step : Complex → Float → Complex → Found
prime_step acc p c = cond (vanishes p c) (at acc) (cond (eq (p ⊖ one64) zero64) (at (complex.plus acc (slope p c))) absent)

abbrev pub found_then : Found → (Complex → Found) → Found
found_then (at c) f = f c
found_then absent f = absent

-- the constant that the derivative of a function's argument has to be
unfoldable pub prime_from : Complex → Sum → Found
prime_from acc none = at acc
prime_from acc (and k p i c r) = cond (eqb k kinds.X) (found_then (prime_step acc p c) (λ next. prime_from next r)) absent

abbrev pub prime : Sum → Found
prime s = prime_from complex.zero s

abbrev pub by_prime : Found → (Complex → Outcome) → Outcome
by_prime absent f = refused TooComplex
by_prime (at d) f = f d

-- the argument's one coefficient
abbrev pub first_coef : Sum → Complex
first_coef none = complex.zero
first_coef (and k p i c r) = c

-- the term of another kind with the same argument
abbrev pub turned_to : ℕ → Complex → Sum → Merge → Sum → Outcome
turned_to k c i m s = formed m (entry k (size i) zero64 c) i s

-- the natural logarithm of a base that is E, 2 or 10
abbrev pub by_ln : Option Float → (Float → Outcome) → Outcome
by_ln (Some l) f = f l
by_ln None f = refused NeedsMath

-- ---- one entry

-- the derivative of the entry x with the inside i is put into s
abbrev pub derive_x : Entry → Sum → Outcome
derive_x x s = cond (vanishes x.num x.coef) (sum s) (formed Add (entry kinds.X 0 (x.num ⊖ one64) (slope x.num x.coef)) none s)

abbrev pub derive_div : Entry → Sum → Sum → Outcome
derive_div x i s = and_then_sum (product i i) (λ w. turned_to kinds.Div x.coef w Add s)

abbrev pub derive_exp : Entry → Sum → Sum → Outcome
derive_exp x i s = unless (is_x i) TooComplex (turned_to kinds.Exp (complex.times x.coef (first_coef i)) i Add s)

abbrev pub derive_by : ℕ → Merge → Entry → Sum → Sum → Outcome
derive_by k m x i s = by_prime (prime i) (λ d. turned_to k (complex.times x.coef d) i m s)

abbrev pub ten64 : Float
ten64 = of_bits binary64 0x4024000000000000

-- bases compared as numbers
abbrev pub ln_of : Float → Option Float
ln_of b = cond (eq b euler) (Some one64) (cond (eq b two64) (Some ln2) (cond (eq b ten64) (Some ln10) None))

abbrev pub derive_log : Entry → Sum → Sum → Outcome
derive_log x i s = by_prime (prime i) (λ d. by_ln (ln_of x.num) (λ l. turned_to kinds.Div (complex.over_real (complex.times x.coef d) l) i Add s))

-- by kind: the derivative of cos is taken away
unfoldable pub derive_into : Entry → Sum → Sum → Outcome
derive_into x i s =
    cond (eqb x.kind kinds.X) (derive_x x s)
    (cond (eqb x.kind kinds.Div) (derive_div x i s)
    (cond (eqb x.kind kinds.Log) (derive_log x i s)
    (cond (eqb x.kind kinds.Exp) (derive_exp x i s)
    (cond (eqb x.kind kinds.Sin) (derive_by kinds.Cos Add x i s)
    (cond (eqb x.kind kinds.Cos) (derive_by kinds.Sin Take x i s)
    (cond (eqb x.kind kinds.SinH) (derive_by kinds.CosH Add x i s) (derive_by kinds.SinH Add x i s)))))))

-- ---- the whole sum

-- nothing becomes constant 0
abbrev pub or_zero : Sum → Outcome
or_zero none = sum (constant complex.zero)
or_zero (and k p i c r) = sum (and k p i c r)

unfoldable pub derive : Sum → Outcome
derive s = and_then_sum (each_into derive_into none s) or_zero
