-- The Rust's Complex: a pair of binary64 numbers, each operation rounded once, in the Rust's order.
use Rattle.std.specs.Prelude.{Bool, ◌&&◌, Float}
use Rattle.std.specs.Float.{binary64}
use Rattle.std.specs.Float.Ieee.{neg, lt, eq, of_bits}
use Rattle.std.specs.Float.Ieee.Scale.{finite}
use Rattle.std.specs.declared.cmp.Ordering.{Ordering}
use Rattle.numbers.specs.Numbers.{below_epsilon}
use Rattle.numbers.specs.Ops.{◌⊕◌, ◌⊖◌, ◌⊗◌, ◌⊘◌}
use Rattle.numbers.specs.Order.{cmp_num, and_then}
use Rattle.numbers.specs.declared.complex.Complex.{Complex}

-- re + im * i
abbrev pub complex : Float → Float → Complex
complex x y = record { re = x; im = y }

abbrev pub real : Float → Complex
real x = complex x (of_bits binary64 0)

abbrev pub zero : Complex
zero = real (of_bits binary64 0)

abbrev pub one : Complex
one = real (of_bits binary64 0x3ff0000000000000)

-- i
abbrev pub imaginary : Complex
imaginary = complex (of_bits binary64 0) (of_bits binary64 0x3ff0000000000000)

abbrev pub plus : Complex → Complex → Complex
plus a b = complex (a.re ⊕ b.re) (a.im ⊕ b.im)

abbrev pub minus : Complex → Complex → Complex
minus a b = complex (a.re ⊖ b.re) (a.im ⊖ b.im)

abbrev pub negated : Complex → Complex
negated a = complex (neg a.re) (neg a.im)

abbrev pub times : Complex → Complex → Complex
times a b = complex (a.re ⊗ b.re ⊖ a.im ⊗ b.im) (a.re ⊗ b.im ⊕ a.im ⊗ b.re)

-- by a real number
abbrev pub times_real : Complex → Float → Complex
times_real a x = complex (a.re ⊗ x) (a.im ⊗ x)

-- re² + im²
abbrev pub norm : Complex → Float
norm a = a.re ⊗ a.re ⊕ a.im ⊗ a.im

abbrev pub over : Complex → Complex → Complex
over a b = complex ((a.re ⊗ b.re ⊕ a.im ⊗ b.im) ⊘ norm b) ((a.im ⊗ b.re ⊖ a.re ⊗ b.im) ⊘ norm b)

-- by a real number, and of a real number
abbrev pub over_real : Complex → Float → Complex
over_real a x = complex (a.re ⊘ x) (a.im ⊘ x)

abbrev pub real_over : Float → Complex → Complex
real_over x b = complex (x ⊗ b.re ⊘ norm b) (neg x ⊗ b.im ⊘ norm b)

-- the Rust's ==: -0 is equal to 0
abbrev pub same : Complex → Complex → Bool
same a b = eq a.re b.re && eq a.im b.im

-- by re, then by im
abbrev pub cmp_complex : Complex → Complex → Ordering
cmp_complex a b = and_then (cmp_num a.re b.re) (cmp_num a.im b.im)

-- |im| < 2^-52
abbrev pub is_real : Complex → Bool
is_real a = below_epsilon a.im

abbrev pub all_finite : Complex → Bool
all_finite a = finite a.re && finite a.im

-- the Rust's abs() > 1: the rounded re² + im² exceeds 1 + 2^-52
abbrev pub abs_above_one : Complex → Bool
abs_above_one a = lt (of_bits binary64 0x3ff0000000000001) (norm a)
