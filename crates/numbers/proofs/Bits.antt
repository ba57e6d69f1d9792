-- Which bit patterns are finite numbers, and which is +0; a finite number is no NaN. Assumes nothing.
use Prim.Native.Nat.{ℕ, zero, suc, ◌+◌, ◌/◌, ◌%◌, ◌<◌, ◌^◌}
use mathlib.Core.Path.{◌≡◌, refl, sym, ap, subst, ◌∙◌}
use mathlib.Core.Bool.{Bool, true, false, not, cond}
use lib.Dec.{T, leb, eqb}
use lib.IntN.{pos}
use lib.Ieee.{Float, nan, inf, fin, binary64, odd, of_fields, of_bits, to_bits, is_nan, nan_bits}
use lib.Ieee.Bits.{to_bits-of_bits, nan_bits_is}
use lib.Ieee.Scale.{finite}

odd-finite : (d : ℕ) (s : Bool) (q k l : ℕ) → finite (odd d s q k l) ≡ true
unfolding odd
odd-finite d s zero k l = refl
odd-finite d s (suc q) k l = refl

fields-finite : (s : Bool) (x t : ℕ) → finite (of_fields binary64 s x t) ≡ not (eqb x 2047)
unfolding of_fields
fields-finite s zero t = odd-finite 53 s t 0 1074
fields-finite s (suc x) t = by (eqb (suc x) 2047)
  where
    by : (b : Bool) → finite (cond b (cond (eqb t 0) (inf s) nan) (odd 53 s (4503599627370496 + t) x 1074)) ≡ not b
    by true = in₂ (eqb t 0)
      where
        in₂ : (e : Bool) → finite (cond e (inf s) nan) ≡ false
        in₂ true = refl
        in₂ false = refl
    by false = odd-finite 53 s (4503599627370496 + t) x 1074

-- a pattern's number is finite unless its exponent's field is all ones
pub finite-bits : (b : ℕ) → finite (of_bits binary64 b) ≡ not (eqb (b % 9223372036854775808 / 4503599627370496) 2047)
unfolding of_bits
finite-bits b = fields-finite (leb 9223372036854775808 b) (b % 9223372036854775808 / 4503599627370496) (b % 4503599627370496)

-- 0 is the pattern of +0
pub zero_bits : of_bits binary64 0 ≡ fin false 0 (pos 0)
unfolding of_bits
zero_bits = refl

-- and no other pattern is
pub bits-zero : (b : ℕ) → b < 2 ^ 64 → of_bits binary64 b ≡ fin false 0 (pos 0) → b ≡ 0
unfolding is_nan to_bits
bits-zero b h e = sym (to_bits-of_bits binary64 b h (rw e tt)) ∙ ap (to_bits binary64) e

pub no_nan : (x : Float) → T (finite x) → T (not (is_nan x))
unfolding is_nan
no_nan nan t = t
no_nan (inf s) t = tt
no_nan (fin s m e) t = tt

-- nor are the bits of one a NaN's
pub no-nans : (n : ℕ) {x : Bool} → x ≡ finite (of_bits binary64 n) → x ≡ true → T (not (nan_bits binary64 n))
no-nans n e h = rw nan_bits_is (no_nan (of_bits binary64 n) (subst T (sym h ∙ e) tt))
