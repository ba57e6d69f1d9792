-- A constant in a cell, and what the code found of one. Assumes nothing.
use Prim.Native.Nat.{ℕ, ◌+◌, ◌≤◌}
use native.Mathlib.Omega.{arith}
use borrow.Author.Tests.{ne_eqb}
use mathlib.Core.Path.{◌≡◌, refl, sym, ◌∙◌}
use mathlib.Core.Bool.{true}
use lib.Dec.{T}
use lib.Ieee.{binary64, fits, of_bits}
use lib.Ieee.Bits.{of_bits-fits}
use lib.Ieee.Fits.{and_i, and_l, and_r}
use lib.Ieee.Scale.{finite}
use Rattle.numbers.specs.Constants.{euler}
use Rattle.numbers.specs.Signs.{zero64}
use Rattle.numbers.proofs.Values.{bits-0}
use Rattle.numbers.specs.declared.complex.Complex.{Complex}
use Rattle.numbers.specs.Complex.Arith.{all_finite, one, imaginary}
use Rattle.cells.specs.declared.Entry.{Entry}
use Rattle.cells.specs.Contract.Book.{Book, Room, Plain}
use Rattle.cells.specs.Contract.Moves.{Put}
use Rattle.cells.proofs.Laws.{Fitting, put-at, room-same}
use Rattle.sums.specs.Tree.Kinds.{X}
use Rattle.sums.specs.Tree.Sums.{size, entry}
use Rattle.arithmetic.specs.Singles.{constant}
use Rattle.arithmetic.proofs.Goodness.{good-constant}
use Rattle.sums.specs.Contract.Heads.{GoodHead}
use Rattle.sums.specs.Contract.Lies.{At, Lies}

-- the entry of a constant
abbrev pub constant-entry : Complex → Entry
constant-entry c = entry X 0 zero64 c

module _ (c : Complex) (f : T (all_finite c)) where
  pub constant-plain : Plain (constant-entry c)
  unfolding of_bits
  constant-plain = record { num = tt; re = and_l (finite c.re) (finite c.im) f; im = and_r (finite c.re) (finite c.im) f }

  pub constant-lies : {g b : Book} (k : ℕ) → Room g (k + 1) → Fitting (constant-entry c) → Put g b k (constant-entry c) → Lies b k (k + 1) 4 (constant c)
  unfolding At size
  constant-lies {g} {b} k room fit put =
      record {
        laid = (put-at put fit, tt, tt);
        good =
            (good-constant c (and_i (finite c.re) (fits binary64 c.re) (and_l (finite c.re) (finite c.im) f) fit.re)
            (and_i (finite c.im) (fits binary64 c.im) (and_r (finite c.re) (finite c.im) f) fit.im)).good;
        ends = refl;
        room = room-same put.long room;
      }

-- 1 and i are finite
pub one-finite : T (all_finite one)
unfolding of_bits
one-finite = tt

pub imaginary-finite : T (all_finite imaginary)
unfolding of_bits
imaginary-finite = tt

-- their patterns are those of numbers
pub one-fits : Fitting (constant-entry one)
one-fits = record { num = of_bits-fits binary64 0; re = of_bits-fits binary64 0x3ff0000000000000; im = of_bits-fits binary64 0 }

pub imaginary-fits : Fitting (constant-entry imaginary)
imaginary-fits = record { num = of_bits-fits binary64 0; re = of_bits-fits binary64 0; im = of_bits-fits binary64 0x3ff0000000000000 }

-- the head of a term that has an inside and no number
pub over-head : (k n : ℕ) (c : Complex) → 4 ≤ k → k ≤ 8 → 1 ≤ n → GoodHead (entry k n zero64 c)
over-head k n c lo hi some = record { least = omega arith; most = hi; none_else = λ z. bits-0; inside = ne_eqb n 0 (λ e. omega arith) ∙ sym (ne_eqb k 1 (λ e. omega arith)) }

-- the half and the bases are finite
pub half-finite : finite (of_bits binary64 0x3fe0000000000000) ≡ true
unfolding of_bits
half-finite = refl

pub two-finite : finite (of_bits binary64 0x4000000000000000) ≡ true
unfolding of_bits
two-finite = refl

pub ten-finite : finite (of_bits binary64 0x4024000000000000) ≡ true
unfolding of_bits
ten-finite = refl

pub euler-finite : finite euler ≡ true
unfolding of_bits
euler-finite = refl
