-- The Rust's `algebraic_inverse` of a sum that was read: the list that undoes it. The whole inversion is one step: 7, then 14, then 15.
use Rattle.std.specs.Prelude.{Bool, not, ◌&&◌, ◌||◌, cond, List, [], ◌∷◌, ◌++◌, eqb, Float, ℕ}
use Rattle.std.specs.Float.Ieee.{eq, of_bits}
use Rattle.std.specs.Float.{binary64}
use Rattle.numbers.specs.Constants.{half64, two64}
use Rattle.numbers.specs.Numbers.{is_whole}
use Rattle.numbers.specs.Signs.{zero64, one64}
use Rattle.numbers.specs.declared.complex.Complex.{Complex}
use Rattle.numbers.specs.Complex.Arith as complex
use Rattle.limits.specs.declared.Refusal.TheVariants.{TooComplex, NeedsMath}
use Rattle.sums.specs.Tree.Kinds as kinds
use Rattle.sums.specs.Tree.Sums.{Sum, none, and}
use Rattle.sums.specs.Tree.Map.{Found, at, absent}
use Rattle.arithmetic.specs.Powers.{coef_at}
use Rattle.formats.specs.declared.record.Primitive.{Primitive}
use Rattle.formats.specs.declared.record.Primitive.TheVariants as prim
use Rattle.formats.specs.Tree.{Nodes, end}
use Rattle.writing.specs.Draft.Writing.{does, append, one, Written, wrote, refused, and_then, number}

-- ---- lists of numbers and primitives

pub data Word : Type 0 where
  num : Complex → Word
  act : Primitive → Word

-- each in turn, after the list so far; numbers as coefficients are written
unfoldable pub spell : Bool → List Word → Nodes → Written
spell flag [] ns = wrote ns
spell flag (num c ∷ ws) ns = and_then (number flag c ns) (λ ms. spell flag ws ms)
spell flag (act p ∷ ws) ns = spell flag ws (append ns (one (does p)))

-- ---- the parts of the sum

abbrev pub minus_four64 : Float
minus_four64 = of_bits binary64 0xc010000000000000

abbrev pub minus_one64 : Float
minus_one64 = of_bits binary64 0xbff0000000000000

-- the coefficient that was found; +0 where there is none
abbrev pub or_zero : Found → Complex
or_zero absent = complex.zero
or_zero (at c) = c

-- the coefficient of x to the q
unfoldable pub coef_of : Float → Sum → Complex
coef_of q s = or_zero (coef_at q s)

-- x to the 0, 1 or 2
abbrev pub low : ℕ → Float → Bool
low k p = eqb k kinds.X && (eq p zero64 || eq p one64 || eq p two64)

-- all other entries
unfoldable pub others : Sum → Sum
others none = none
others (and k p i c r) = cond (low k p) (others r) (and k p i c (others r))

-- ---- kx^p + c

-- the constant is taken away, what multiplies is divided by, and the power is undone
abbrev pub less_constant : Complex → List Word → List Word
less_constant c ws = cond (complex.same c complex.zero) ws (num c ∷ act prim.Sub ∷ ws)

abbrev pub over_factor : Complex → List Word → List Word
over_factor k ws = cond (complex.same k complex.one) ws (num k ∷ act prim.Div ∷ ws)

abbrev pub unpower : Float → List Word
unpower p =
    cond (eq p half64) (act prim.Dup ∷ act prim.Mul ∷ [])
    (cond (eq p minus_one64) (act prim.Reciprocal ∷ []) (num (complex.real p) ∷ act prim.Root ∷ []))

-- k is whole and real
abbrev pub is_int : Complex → Bool
is_int k = eq k.im zero64 && is_whole k.re

abbrev pub of_power : Bool → Complex → Float → Complex → Written
of_power flag k p c = cond (is_int k) (spell flag (less_constant c (over_factor k (unpower p))) end) (refused NeedsMath)

-- ---- ax² + bx + c

abbrev pub simple_quadratic : Complex → Complex → List Word
simple_quadratic a c = num c ∷ act prim.Sub ∷ num a ∷ act prim.Div ∷ act prim.Sqrt ∷ []

-- the root of b² - 4a(c - y)
abbrev pub root : Complex → Complex → Complex → List Word
root a b c =
    num c
    ∷ act prim.Flip
    ∷ act prim.Sub
    ∷ num (complex.times_real a minus_four64)
    ∷ act prim.Mul
    ∷ num (complex.times b b)
    ∷ act prim.Add
    ∷ act prim.Sqrt
    ∷ []

-- the larger of the root less b and minus the root less b
abbrev pub larger : Complex → List Word
larger b = act prim.Dup ∷ num b ∷ act prim.Sub ∷ act prim.Flip ∷ act prim.Neg ∷ num b ∷ act prim.Sub ∷ act prim.Max ∷ []

abbrev pub full_quadratic : Complex → Complex → Complex → List Word
full_quadratic a b c = root a b c ++ larger b ++ (num (complex.times_real a two64) ∷ act prim.Div ∷ [])

-- bx + c, through the origin or not
abbrev pub linear : Complex → Complex → List Word
linear b c =
    cond (complex.same c complex.zero)
    (cond (complex.same b complex.one) (act prim.Identity ∷ [])
    (cond (complex.abs_above_one b) (num b ∷ act prim.Div ∷ []) (num (complex.real_over one64 b) ∷ act prim.Mul ∷ [])))
    (num c ∷ act prim.Sub ∷ num b ∷ act prim.Div ∷ [])

-- a constant: a pair is written where im isn't zero, whatever the flag
abbrev pub of_constant : Complex → Written
of_constant c = spell (not (eq c.im zero64)) (act prim.Pop ∷ num c ∷ []) end

abbrev pub of_quadratic : Bool → Complex → Complex → Complex → Written
of_quadratic flag a b c =
    cond (complex.same a complex.zero)
    (cond (complex.same b complex.zero) (of_constant c) (spell flag (linear b c) end))
    (cond (complex.same b complex.zero) (spell flag (simple_quadratic a c) end) (spell flag (full_quadratic a b c) end))

-- ---- the whole sum

-- one entry besides those of x to the 0, 1 and 2, which is a power of x, where x and its square have no part; more is too complex
unfoldable pub of_others : Bool → Complex → Complex → Complex → Sum → Written
of_others flag a b c none = of_quadratic flag a b c
of_others flag a b c (and k p i d none) =
    cond (eqb k kinds.X && complex.same b complex.zero && complex.same a complex.zero) (of_power flag d p c) (refused TooComplex)
of_others flag a b c (and k p i d (and l q j e r)) = refused TooComplex

unfoldable pub inverse : Bool → Sum → Written
inverse flag s = of_others flag (coef_of two64 s) (coef_of one64 s) (coef_of zero64 s) (others s)
