-- Document 01's lists, computed: x + x³ derived, x² tripled, bare x and nothing, each run at 2; and a value that isn't finite, with its place. Assumes nothing.
use mathlib.Core.Path.{◌≡◌, refl}
use mathlib.Core.Bool.{false, true≢false}
use mathlib.Core.List.{List, [], ◌∷◌}
use mathlib.Core.Option.{none, some}
use lib.Dec.{lit≤}
use lib.IntN.{pos}
use lib.Ieee.{Float, fin, binary64, of_bits, to_bits, eq, lt, add, mul, fits}
use Rattle.numbers.specs.Constants.{two64}
use Rattle.numbers.specs.Signs.{zero64, one64}
use Rattle.numbers.specs.Numbers.{small_whole, below_epsilon}
use Rattle.numbers.specs.Complex.Arith as complex
use Rattle.limits.specs.declared.Refusal.TheVariants.{NotFinite}
use Rattle.sums.specs.Tree.Kinds as kinds
use Rattle.sums.specs.Tree.Sums.{Sum, and, size as entries, len}
use Rattle.sums.specs.Tree.Order.{cmp_each}
use Rattle.sums.specs.Tree.Good.{Good}
use Rattle.formats.specs.Names.{kind_of, primitive_of}
use Rattle.formats.specs.Tree.{Nodes, size, count}
use Rattle.writing.specs.Draft.Writing.{append, Written, wrote, refused}
use Rattle.writing.specs.ToNodes.{form, write, to_nodes}
use Rattle.writing.specs.Count.{cost, costs, records_for}
use Rattle.theorems.specs.Reals.{RealSum}
use Rattle.running.specs.Primitives.{times, power, leave, apply, act}
use Rattle.running.specs.Running.{runs, run_nodes, RunAnswer, Value, Refused}
use Rattle.values.specs.Value.{Exponent, Power, term_value, plus_terms, value}
use Rattle.theorems.specs.Terms.{RootTerms, nothing, term}
use Rattle.theorems.specs.Records.{shapes, peak_of, root_first, exact_peak}
use Rattle.theorems.specs.Places.{in_term, in_sum, in_all, first_not_finite}
use Rattle.theorems.specs.Contract.PowerSum.{PowerSum}
use Rattle.values.specs.Value as value
use Rattle.theorems.proofs.Speed.Listed.{all-real}
use Rattle.theorems.proofs.Speed.Theorem.{power-sum}

abbrev pub three64 : Float
three64 = of_bits binary64 0x4008000000000000

-- c times x to the p, before the rest
abbrev pub x-to : Float → Float → Sum → Sum
x-to p c r = and kinds.X p Sum.none (complex.real c) r

-- the same in a list of terms
abbrev pub power_of : Exponent → Float → Power
power_of k c = value.power k (complex.real c)

abbrev pub run-written : Written → Float → RunAnswer
run-written (wrote ns) x = run_nodes ns x
run-written (refused q) x = Refused q 0

-- 1 + 3x²
abbrev sum : Sum
sum = x-to zero64 one64 (x-to two64 three64 Sum.none)

abbrev terms : List Power
terms = power_of (value.whole 0) one64 ∷ power_of (value.whole 2) three64 ∷ []

-- its terms
listed : RootTerms sum terms
unfolding of_bits eq small_whole
listed = term refl refl (term refl refl nothing)

-- it has no imaginary parts
real : RealSum sum
unfolding RealSum of_bits
real = (refl, tt, (refl, tt, tt))

good : Good 1 sum
unfolding Good of_bits fits lt cmp_each len
good = (
  record { least = lit≤ tt; most = lit≤ tt; number = tt; none_else = λ h. absurd (true≢false h); re = tt; im = tt; inside = refl },
  tt,
  refl,
  (record { least = lit≤ tt; most = lit≤ tt; number = tt; none_else = λ h. absurd (true≢false h); re = tt; im = tt; inside = refl }, tt, tt, tt),
)

-- so the theorem speaks of it
pub written : (ns : Nodes) × PowerSum sum terms ns
unfolding entries
written = power-sum 1 sum terms good (lit≤ tt) (all-real sum real) listed

-- at 2: 13, 11 steps, peak 3
promised : (value two64 terms ≡ fin false 13 (pos 0)) × (records_for (shapes terms) ≡ 11) × (exact_peak terms ≡ 3) × (first_not_finite (in_all two64 terms) ≡ none)
unfolding of_bits eq add mul times term_value plus_terms value shapes cost costs records_for peak_of root_first in_term in_sum in_all first_not_finite
promised = (refl, refl, refl, refl)

-- and as it runs; then 3x², x, and 0 times x
pub runs-at-2 :
    (run-written (to_nodes false sum) two64 ≡ Value (fin false 13 (pos 0)) 11 3)
    × (run-written (to_nodes false (x-to two64 three64 Sum.none)) two64 ≡ Value (fin false 3 (pos 2)) 4 2)
    × (run-written (to_nodes false (x-to one64 one64 Sum.none)) two64 ≡ Value two64 1 1)
    × (run-written (to_nodes false (x-to one64 zero64 Sum.none)) two64 ≡ Value zero64 2 2)
unfolding of_bits to_bits eq lt add mul below_epsilon small_whole form write append size count kind_of primitive_of times power leave apply act runs run_nodes
runs-at-2 = (refl, refl, refl, refl)

-- 2 to the 1000
abbrev large : Float
large = of_bits binary64 0x7e70000000000000

-- its square isn't finite, and is formed at place 7
pub refused-at-7 : (run-written (to_nodes false sum) large ≡ Refused NotFinite 7) × (first_not_finite (in_all large terms) ≡ some 7)
unfolding of_bits to_bits eq lt add mul below_epsilon small_whole form write append size count kind_of primitive_of times power leave apply act runs run_nodes
    term_value plus_terms cost in_term in_sum in_all first_not_finite
refused-at-7 = (refl, refl)
