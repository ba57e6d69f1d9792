-- A constant as the base of a power or of a logarithm, and in a cell of a book. Assumes nothing.
use Prim.Native.Nat.{ℕ, ◌+◌}
use mathlib.Core.Path.{◌≡◌, refl}
use mathlib.Core.Bool.{Bool, true, false, ◌&&◌}
use lib.Dec.{T}
use lib.Ieee.{Float, eq, lt, of_bits, binary64, fits}
use lib.Ieee.Bits.{of_bits-fits}
use lib.Ieee.Fits.{and_i}
use lib.Ieee.Scale.{finite}
use Rattle.numbers.specs.Numbers.{below_epsilon}
use Rattle.numbers.specs.Signs.{zero64, one64}
use Rattle.numbers.proofs.Bools.{T_of}
use Rattle.numbers.proofs.Finite.{zero-is-finite}
use Rattle.numbers.specs.declared.complex.Complex.{Complex}
use Rattle.numbers.specs.Complex.Arith as complex
use Rattle.cells.specs.Contract.Book.{Book, Room, Plain}
use Rattle.cells.specs.Contract.Moves.{Put}
use Rattle.cells.proofs.Laws.{room-same, put-at}
use Rattle.sums.specs.Tree.Kinds.{X, Log}
use Rattle.sums.specs.Tree.Sums.{Sum, size, entry}
use Rattle.sums.specs.Tree.Map.{at}
use Rattle.arithmetic.specs.Singles.{alone, constant, as_constant, is_x}
use Rattle.arithmetic.specs.Power.{power, is_euler, pow, log}
use Rattle.arithmetic.proofs.Goodness.{good-constant}
use Rattle.sums.specs.Contract.Lies.{At, Lies}
use Rattle.arithmetic.specs.Add.Contract.Operands.{constant_of}
use Rattle.std.specs.Prelude.{Some}
use Rattle.powers.specs.Raise.Contract.Reals.{real_of, euler_is}
use Rattle.powers.proofs.raise.Reals.{pow-real, log-real}

zero-zero : eq zero64 zero64 ≡ true
unfolding of_bits eq
zero-zero = refl

zero-small : below_epsilon zero64 ≡ true
unfolding of_bits lt below_epsilon
zero-small = refl

zero_one : eq zero64 one64 ≡ false
unfolding of_bits eq
zero_one = refl

pub constant_real : (x : Float) → real_of (constant_of (as_constant (constant (complex.real x)))) ≡ Some x
unfolding as_constant
constant_real x = rw (zero-zero, zero-small)

-- a constant is no x
constant-x : (b : Bool) (c : Complex) → b && is_x (constant c) ≡ false
unfolding is_x
constant-x b c = rw zero_one (go b)
  where
    go : (b : Bool) → b && false ≡ false
    go true = refl
    go false = refl

-- to the power of a constant
pub pow-constant : (s : Sum) (x : Float) → pow s (constant (complex.real x)) ≡ power s x
pow-constant s x = pow-real s (constant (complex.real x)) (constant-x (is_euler (as_constant s)) (complex.real x)) x (constant_real x)

-- to a base that is a constant
pub log-constant : (s : Sum) (x : Float) → log s (constant (complex.real x)) ≡ alone Log x s complex.one
log-constant s x = log-real s (constant (complex.real x)) x (constant_real x)

-- whether a constant is E
constant-found : (c : Complex) → as_constant (constant c) ≡ at c
unfolding as_constant
constant-found c = rw zero-zero

pub constant-euler : (c : Complex) → euler_is (Some c) ≡ is_euler (as_constant (constant c))
constant-euler c = rw (constant-found c) refl

-- ---- a constant in a cell

module _ (x : Float) (fx : finite x ≡ true) where
  pub constant-plain : Plain (entry X 0 zero64 (complex.real x))
  constant-plain = record { num = T_of zero-is-finite; re = T_of fx; im = T_of zero-is-finite }

  pub constant-lies : {g b : Book} (k : ℕ) → Room g (k + 1) → T (fits binary64 x) → Put g b k (entry X 0 zero64 (complex.real x)) → Lies b k (k + 1) 4 (constant (complex.real x))
  unfolding At size
  constant-lies {g} {b} k room f put =
      let zero-fits = of_bits-fits binary64 0 in
      record {
        laid = (put-at put (record { num = zero-fits; re = f; im = zero-fits }), tt, tt);
        good = (good-constant (complex.real x) (and_i (finite x) (fits binary64 x) (T_of fx) f) (and_i (finite zero64) (fits binary64 zero64) (T_of zero-is-finite) zero-fits)).good;
        ends = refl;
        room = room-same put.long room;
      }
