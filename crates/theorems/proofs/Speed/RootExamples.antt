-- √x among the powers, computed: each list as it is written and run at 4, and at -4, beside what is promised. Assumes nothing.
use Prim.Native.Nat.{ℕ}
use mathlib.Core.Path.{◌≡◌, refl}
use mathlib.Core.Bool.{false}
use mathlib.Core.List.{List, [], ◌∷◌, map}
use lib.Ieee.{Float, binary64, of_bits}
use Rattle.running.specs.Running.{RunAnswer, Value, Refused}
use Rattle.numbers.specs.Constants.{half64, two64}
use Rattle.numbers.specs.Signs.{zero64, one64}
use Rattle.limits.specs.declared.Refusal.TheVariants.{NeedsMath}
use Rattle.sums.specs.Tree.Sums.{Sum}
use Rattle.writing.specs.ToNodes.{to_nodes}
use Rattle.writing.specs.Count.{cost, costs, records_for}
use Rattle.values.specs.Value as value
use Rattle.values.specs.Value.{whole, half, Power, term_value, plus_terms}
use Rattle.theorems.specs.Records.{shapes, records, peak_of, root_first, exact_peak}
use Rattle.theorems.specs.Roots.{place_of_sqrt}
use Rattle.theorems.proofs.Computing.{arithmetic, comparing, list_bytes, list_rules, writing, acting}
use Rattle.theorems.proofs.Speed.Examples.{three64, x-to, power_of, run-written}

abbrev pub number : ℕ → Float
number b = of_bits binary64 b

-- a sum, and its terms; the value at 4, the steps and the peak; the place of Sqrt
pub record Case : Type 0 where
  pub sum : Sum
  pub terms : List Power
  pub at-4 : RunAnswer
  pub sqrt : ℕ

-- √x and √x + x and √x + x + x², with a peak of as many numbers as terms; then 3√x and √x + 2x and 1 + √x, with one more
unfoldable pub cases : List Case
cases =
    record { sum = x-to half64 one64 Sum.none; terms = power_of half one64 ∷ []; at-4 = Value two64 1 1; sqrt = 0 }
    ∷ record {
      sum = x-to half64 one64 (x-to one64 one64 Sum.none);
      terms = power_of half one64 ∷ power_of (whole 1) one64 ∷ [];
      at-4 = Value (number 0x4018000000000000) 4 2;
      sqrt = 2;
    }
    ∷ record {
      sum = x-to half64 one64 (x-to one64 one64 (x-to two64 one64 Sum.none));
      terms = power_of half one64 ∷ power_of (whole 1) one64 ∷ power_of (whole 2) one64 ∷ [];
      at-4 = Value (number 0x4036000000000000) 9 3;
      sqrt = 4;
    }
    ∷ record { sum = x-to half64 three64 Sum.none; terms = power_of half three64 ∷ []; at-4 = Value (number 0x4018000000000000) 3 2; sqrt = 0 }
    ∷ record {
      sum = x-to half64 one64 (x-to one64 two64 Sum.none);
      terms = power_of half one64 ∷ power_of (whole 1) two64 ∷ [];
      at-4 = Value (number 0x4024000000000000) 6 3;
      sqrt = 2;
    }
    ∷ record {
      sum = x-to zero64 one64 (x-to half64 one64 Sum.none);
      terms = power_of (whole 0) one64 ∷ power_of half one64 ∷ [];
      at-4 = Value three64 8 3;
      sqrt = 6;
    }
    ∷ []

abbrev pub written_at : Float → Case → RunAnswer
written_at x c = run-written (to_nodes false c.sum) x

-- as they run, and as it is promised, at 4
pub roots-at-4 : map (written_at (number 0x4010000000000000)) cases ≡ map (λ (c : Case). c.at-4) cases
unfolding cases arithmetic comparing list_bytes list_rules writing acting
roots-at-4 = refl

pub promised-at-4 : map (λ (c : Case). Value (value.value (number 0x4010000000000000) c.terms) (records c.terms) (exact_peak c.terms)) cases ≡ map (λ (c : Case). c.at-4) cases
unfolding cases arithmetic comparing acting value.value term_value plus_terms shapes cost costs records_for peak_of root_first
promised-at-4 = refl

-- and at -4, which is 14 at Sqrt
pub roots-below : map (written_at (number 0xc010000000000000)) cases ≡ map (λ (c : Case). Refused NeedsMath c.sqrt) cases
unfolding cases arithmetic comparing list_bytes list_rules writing acting
roots-below = refl

pub promised-below : map (λ (c : Case). place_of_sqrt c.terms) cases ≡ map (λ (c : Case). c.sqrt) cases
unfolding cases
promised-below = refl
