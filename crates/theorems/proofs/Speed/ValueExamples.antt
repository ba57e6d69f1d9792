-- The engine beside the run, computed: coefficients with an imaginary part, a value that isn't finite, no terms, and 1/x, of which the engine refuses what the run gives.
-- Assumes nothing.
use mathlib.Core.Path.{◌≡◌, refl}
use mathlib.Core.Bool.{false}
use mathlib.Core.List.{List, [], ◌∷◌, map}
use lib.Ieee.{Float, binary64, of_bits}
use Rattle.running.specs.Running as run
use Rattle.numbers.specs.Constants.{half64, two64}
use Rattle.numbers.specs.Signs.{zero64, one64}
use Rattle.numbers.specs.Complex.Arith as complex
use Rattle.limits.specs.declared.Refusal.TheVariants.{NeedsMath, NotFinite}
use Rattle.sums.specs.Tree.Kinds as kinds
use Rattle.sums.specs.Tree.Sums.{Sum, and}
use Rattle.writing.specs.ToNodes.{to_nodes}
use Rattle.writing.specs.Count.{cost, costs, records_for}
use Rattle.std.specs.Prelude.{Result, Ok, Err}
use Rattle.limits.specs.declared.Refusal.{Refusal}
use Rattle.values.specs.Value.{term_value, plus_terms, value}
use Rattle.values.specs.ValueOf.{all_powers, all_real, powers_of, value_of}
use Rattle.theorems.specs.Records.{shapes, records, peak_of, root_first, exact_peak}
use Rattle.theorems.specs.Engine.{ran}
use Rattle.theorems.proofs.Computing.{arithmetic, comparing, list_bytes, list_rules, writing, acting}
use Rattle.theorems.proofs.Speed.Examples.{x-to, run-written}

-- 2 to the -60, and 2 to the 1000
abbrev tiny : Float
tiny = of_bits binary64 0x3c30000000000000

abbrev large : Float
large = of_bits binary64 0x7e70000000000000

-- x with the coefficient 1 + yi
abbrev x-and : Float → Sum
x-and y = and kinds.X one64 Sum.none (complex.complex one64 y) Sum.none

-- a sum, where it is asked, and what is given
pub record Case : Type 0 where
  pub sum : Sum
  pub x : Float
  pub gives : Result Float Refusal

-- x with an imaginary part below 2^-52, and with one above; x squared, which isn't finite there; and no terms
unfoldable pub cases : List Case
cases =
    record { sum = x-and tiny; x = two64; gives = Ok two64 }
    ∷ record { sum = x-and one64; x = two64; gives = Err NotFinite }
    ∷ record { sum = x-to two64 one64 Sum.none; x = large; gives = Err NotFinite }
    ∷ record { sum = x-to one64 zero64 Sum.none; x = two64; gives = Ok zero64 }
    ∷ []

pub engine : map (λ (c : Case). value_of c.sum c.x) cases ≡ map (λ (c : Case). c.gives) cases
unfolding cases arithmetic comparing acting all_powers all_real powers_of term_value plus_terms value value_of
engine = refl

pub runs : map (λ (c : Case). ran (to_nodes false c.sum) c.x) cases ≡ map (λ (c : Case). c.gives) cases
unfolding cases arithmetic comparing list_bytes list_rules writing acting
runs = refl

-- the first is written as a push of 1 and Mul, where bare x is one record: so it runs, and so it is counted
pub tiny-is-written :
    (run-written (to_nodes false (x-and tiny)) two64 ≡ run.Value two64 2 2)
    × (records (powers_of (x-and tiny)) ≡ 2)
    × (exact_peak (powers_of (x-and tiny)) ≡ 2)
unfolding arithmetic comparing list_bytes list_rules writing acting powers_of shapes cost costs records_for peak_of root_first
tiny-is-written = (refl, refl, refl)

-- 1/x at 2
abbrev over-x : Sum
over-x = and kinds.Div zero64 (x-to one64 one64 Sum.none) complex.one Sum.none

pub only-the-run : (value_of over-x two64 ≡ Err NeedsMath) × (ran (to_nodes false over-x) two64 ≡ Ok half64)
unfolding arithmetic comparing list_bytes list_rules writing acting all_powers value_of
only-the-run = (refl, refl)
