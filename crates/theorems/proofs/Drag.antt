-- A drag formula, x to the 1.5, from its bytes to the bits of its speed, 1.5√x, computed. Assumes nothing.
use mathlib.Core.Path.{◌≡◌, refl}
use mathlib.Core.Bool.{true}
use mathlib.Core.List.{List, [], ◌∷◌}
use Prim.Native.Nat.{ℕ}
use lib.Ieee.{Float, binary64, of_bits}
use Rattle.numbers.specs.Constants.{half64}
use Rattle.numbers.specs.Signs.{one64}
use Rattle.limits.specs.declared.Refusal.TheVariants.{NeedsMath}
use Rattle.sums.specs.Tree.Sums.{Sum}
use Rattle.formats.specs.declared.record.Primitive.TheVariants.{Pow, Sqrt, Mul}
use Rattle.writing.specs.Draft.Writing.{push, does}
use Rattle.running.specs.Running.{run_list, Value, Refused}
use Rattle.algebra.specs.Answer.Making.{made}
use Rattle.algebra.specs.Entries.{derivative}
use Rattle.theorems.specs.Cases.{bytes_of}
use Rattle.values.specs.Value.{half}
use Rattle.theorems.specs.Terms.{nothing, term}
use Rattle.theorems.specs.Roots.{RootFormula, RootSpeed}
use Rattle.theorems.proofs.Computing.{arithmetic, comparing, list_bytes, list_rules, sum_bytes, maps, products, raised, steps, reading, calculus, writing, acting, answering}
use Rattle.theorems.proofs.Roots.{demand-3-roots}
use Rattle.theorems.proofs.Speed.Examples.{x-to, power_of}

abbrev number : ℕ → Float
number b = of_bits binary64 b

abbrev one_and_a_half : Float
one_and_a_half = number 0x3ff8000000000000

abbrev drag : List ℕ
drag = bytes_of (push one_and_a_half ∷ does Pow ∷ [])

-- it is read as x to the 1.5, and its derivative is 1.5√x
formula : RootFormula drag (power_of half one_and_a_half ∷ [])
unfolding arithmetic comparing list_bytes list_rules sum_bytes maps products raised steps reading calculus
formula = record {
  s = x-to one_and_a_half one64 Sum.none;
  handled = true;
  pairs = 0;
  read = refl;
  d = x-to half64 one_and_a_half Sum.none;
  derived = refl;
  terms = term {k = half} refl refl nothing;
}

-- so the demand speaks of it
pub promised : RootSpeed drag (power_of half one_and_a_half ∷ [])
promised = demand-3-roots drag (power_of half one_and_a_half ∷ []) formula

abbrev speed : List ℕ
speed = bytes_of (does Sqrt ∷ push one_and_a_half ∷ does Mul ∷ [])

-- it is derived in three records
pub derived : derivative drag ≡ made 3 speed
unfolding arithmetic comparing list_bytes list_rules sum_bytes maps products raised steps reading calculus writing answering
derived = refl

-- at 2.25 they give 2.25, in 3 steps, holding 2 numbers; at -0 they give -0, and at -1 they are refused with 14 at place 0
pub runs :
    (run_list speed (number 0x4002000000000000) ≡ Value (number 0x4002000000000000) 3 2)
    × (run_list speed (number 0x8000000000000000) ≡ Value (number 0x8000000000000000) 3 2)
    × (run_list speed (number 0xbff0000000000000) ≡ Refused NeedsMath 0)
unfolding arithmetic comparing list_bytes list_rules acting
runs = (refl, refl, refl)
