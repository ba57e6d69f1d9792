-- Why each hypothesis is there, and what isn't kept, computed. Assumes nothing.
use Prim.Native.Nat.{ℕ, zero, suc}
use mathlib.Core.Path.{◌≡◌, refl}
use mathlib.Core.Bool.{Bool, true, false, true≢false}
use lib.Dec.{T, lit≤}
use lib.IntN.{negsuc}
use lib.Ieee.{Float, binary64, of_bits, of_int, fits, lt, eq}
use Rattle.limits.specs.declared.Refusal.TheVariants.{NoRoom, NotFinite, BigPower, NotSupported}
use Rattle.numbers.specs.Constants.{epsilon}
use Rattle.numbers.specs.Signs.{zero64, one64, ±0}
use Rattle.numbers.specs.declared.complex.Complex.{Complex}
use Rattle.numbers.specs.Complex.Arith as complex
use Rattle.sums.specs.Tree.Kinds as kinds
use Rattle.sums.specs.Tree.Sums.{Sum, none, and, size, len}
use Rattle.sums.specs.Tree.Order.{cmp_each}
use Rattle.sums.specs.Tree.Good.{is_number, GoodEntry, Good}
use Rattle.formats.specs.declared.record.Primitive.TheVariants as prim
use Rattle.writing.specs.Draft.Writing.{Written, wrote, refused, push_pair, does, two}
use Rattle.writing.specs.ToNodes.{to_nodes}
use Rattle.modifiers.specs.Reading.{Read, done, refused_at, read_nodes}
use Rattle.theorems.proofs.Computing.{arithmetic, comparing, list_bytes, list_rules, sum_bytes, maps, products, raised, steps, reading, writing}
use Rattle.theorems.specs.Reals.{RealSum}
use Rattle.theorems.specs.Readback.Terms.{terms, PowerTerms, NoBigWhole, PowerFormula, nought_x}
use Rattle.theorems.specs.Readback.ReadBack.{Back}
use Rattle.theorems.proofs.readback.Theorem.{reads-back}

-- what is read of what was written
abbrev read_of : Written → Read
read_of (wrote ns) = read_nodes ns
read_of (refused q) = refused_at q 0 false

abbrev entries_of : Read → ℕ
entries_of (done s c h k) = size s
entries_of (refused_at q at h) = 0

-- c times x to the p, before the rest
abbrev x-to : Float → Complex → Sum → Sum
x-to p c r = and kinds.X p none c r

-- 3, 65 and -1.5
abbrev three64 : Float
three64 = of_bits binary64 0x4008000000000000

abbrev sixty-five : Float
sixty-five = of_bits binary64 0x4050400000000000

abbrev minus-1-5 : Float
minus-1-5 = of_bits binary64 0xbff8000000000000

-- ---- a formula that comes back

-- x to the -1.5, 3 times x to the -0, 3·x, and 0·sin x
abbrev formula : Sum
formula = x-to minus-1-5 complex.one (x-to (±0 true) (complex.real three64) (x-to one64 (complex.real three64) (and kinds.Sin zero64 (x-to one64 complex.one none) complex.zero none)))

abbrev good-x : (p : Float) (c : Complex) → T (is_number p) → T (is_number c.re) → T (is_number c.im) → GoodEntry kinds.X p none c
good-x p c fp fr fi = record { least = lit≤ tt; most = lit≤ tt; number = fp; none_else = λ h. absurd (true≢false h); re = fr; im = fi; inside = refl }

-- all that is asked of it holds
pub is-formula : PowerFormula formula
unfolding Good size cmp_each len of_bits fits lt eq RealSum PowerTerms terms NoBigWhole
is-formula = record {
  good = (
    good-x minus-1-5 complex.one tt tt tt,
    tt,
    refl,
    (
      good-x (±0 true) (complex.real three64) tt tt tt,
      tt,
      refl,
      (
        good-x one64 (complex.real three64) tt tt tt,
        tt,
        refl,
        (
          record { least = lit≤ tt; most = lit≤ tt; number = tt; none_else = λ h. refl; re = tt; im = tt; inside = refl },
          (good-x one64 complex.one tt tt tt, tt, tt, tt),
          tt,
          tt,
        ),
      ),
    ),
  );
  room = lit≤ tt;
  real = (refl, tt, (refl, tt, (refl, tt, (refl, (refl, tt, tt), tt))));
  powers = (λ z. refl, (λ z. refl, (λ z. refl, (λ z. absurd (true≢false z), tt))));
  few = lit≤ tt;
  small = (refl, (refl, (refl, tt)));
}

-- so it comes back, with either flag
pub comes_back : (flag : Bool) → Back flag formula
comes_back flag = reads-back flag formula is-formula

-- without 0·sin x, and with the power 0
pub came-back : read_of (to_nodes false formula)
    ≡ done (x-to minus-1-5 (complex.complex one64 (±0 true)) (x-to zero64 (complex.real three64) (x-to one64 (complex.real three64) none))) false true 2
unfolding arithmetic comparing list_bytes list_rules sum_bytes maps products raised steps reading writing
came-back = refl

-- ---- why each hypothesis is there

-- x to the 65: 16 at its Pow
pub power-65 : read_of (to_nodes false (x-to sixty-five complex.one none)) ≡ refused_at BigPower 1 false
unfolding arithmetic comparing list_bytes list_rules sum_bytes maps products raised steps reading writing
power-65 = refl

-- 2^-52·i can't be written as a real number: 15
pub not-real : to_nodes false (x-to one64 (complex.complex zero64 epsilon) none) ≡ refused NotFinite
unfolding arithmetic comparing writing
not-real = refl

-- x to the -n, .., x to the -1, and then r
abbrev below-zero : ℕ → Sum → Sum
below-zero zero r = r
below-zero (suc n) r = x-to (of_int binary64 (negsuc n)) complex.one (below-zero n r)

-- 63 powers and a constant: with 0·x they are 65 entries, and the last Add is refused with 12
pub terms-64 : read_of (to_nodes false (below-zero 63 (x-to zero64 complex.one none))) ≡ refused_at NoRoom 318 true
unfolding arithmetic comparing list_bytes list_rules sum_bytes maps products raised steps reading writing
terms-64 = refl

-- 62 powers and a constant are read: 64 entries
pub terms-63 : entries_of (read_of (to_nodes false (below-zero 62 (x-to zero64 complex.one none)))) ≡ 64
unfolding arithmetic comparing list_bytes list_rules sum_bytes maps products raised steps reading writing
terms-63 = refl

-- SinH is only written: sinh x isn't read
pub only-written : read_of (to_nodes false (and kinds.SinH zero64 (x-to one64 complex.one none) complex.one none)) ≡ refused_at NotSupported 1 false
unfolding arithmetic comparing list_bytes list_rules sum_bytes maps products raised steps reading writing
only-written = refl

-- ---- what isn't kept

-- a power of -0 comes back as 0, with 0·x beside it; x to the -1.5 comes back with an imaginary part of -0; 3·x written as a pair loses the -0 of its imaginary part
pub signs :
    (read_of (to_nodes false (x-to (±0 true) complex.one none)) ≡ done (x-to zero64 complex.one nought_x) false true 1)
    × (read_of (to_nodes false (x-to minus-1-5 complex.one none)) ≡ done (x-to minus-1-5 (complex.complex one64 (±0 true)) none) false true 0)
    × (read_of (to_nodes true (x-to one64 (complex.complex three64 (±0 true)) none)) ≡ done (x-to one64 (complex.real three64) none) true false 1)
unfolding arithmetic comparing list_bytes list_rules sum_bytes maps products raised steps reading writing
signs = (refl, refl, refl)

-- so, written as pairs, it isn't written as it was
pub pairs-differ :
    (to_nodes true (x-to one64 (complex.complex three64 (±0 true)) none) ≡ wrote (two (push_pair (complex.complex three64 (±0 true))) (does prim.Mul)))
    × (to_nodes true (x-to one64 (complex.real three64) none) ≡ wrote (two (push_pair (complex.real three64)) (does prim.Mul)))
unfolding arithmetic comparing writing
pairs-differ = (refl, refl)
