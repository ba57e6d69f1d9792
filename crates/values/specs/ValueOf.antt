-- The value of a sum at x, straight from its terms: two tests over the outermost terms, and the value of their list.
use Rattle.std.specs.Prelude.{ℕ, ◌≡◌, Bool, true, false, ◌&&◌, ◌||◌, List, [], ◌∷◌, eqb, Float, Option, Some, None, Result, Ok, Err}
use Rattle.std.specs.Float.Ieee.Scale.{finite}
use Rattle.limits.specs.Limits.{sum_levels}
use Rattle.limits.specs.declared.Refusal.{Refusal}
use Rattle.limits.specs.declared.Refusal.TheVariants.{NeedsMath, NotFinite}
use Rattle.limits.specs.Refusals.{refusal_no}
use Rattle.numbers.specs.Signs.{zero64}
use Rattle.numbers.specs.Numbers.{small_whole}
use Rattle.numbers.specs.declared.complex.Complex.{Complex}
use Rattle.numbers.specs.Complex.Arith as complex
use Rattle.sums.specs.Tree.Kinds as kinds
use Rattle.sums.specs.Tree.Sums.{Sum, none, and}
use Rattle.sums.specs.Tree.Good.{Good}
use Rattle.sums.specs.Entry.Encoding.{encode_sum}
use Rattle.sums.specs.Entry.Taking.{Weighed}
use Rattle.values.specs.declared.ValueNumbers.{ValueNumbers}
use Rattle.values.specs.Value.{whole, Power, power, value}

-- ---- the tests

-- a term is zero if both parts of its coefficient are: it is asked nothing else
abbrev pub is_zero : Complex → Bool
is_zero c = complex.same c complex.zero

-- of this kind and number: x to a whole power from 0 to 64
abbrev pub is_power : ℕ → Option ℕ → Bool
is_power k (Some n) = eqb k kinds.X
is_power k None = false

-- every outermost term that isn't zero is such a power
unfoldable pub all_powers : Sum → Bool
all_powers none = true
all_powers (and k p i c r) = (is_zero c || is_power k (small_whole p)) && all_powers r

-- every one that isn't zero is real: |im| < 2^-52
unfoldable pub all_real : Sum → Bool
all_real none = true
all_real (and k p i c r) = (is_zero c || complex.is_real c) && all_real r

-- ---- the terms

-- a term before others, unless it is zero
abbrev pub unless_zero : Bool → Option ℕ → Complex → List Power → List Power
unless_zero true w c ts = ts
unless_zero false (Some n) c ts = power (whole n) c ∷ ts
unless_zero false None c ts = ts

-- of a sum that passes the first test: the powers that aren't zero, with their coefficients
unfoldable pub powers_of : Sum → List Power
powers_of none = []
powers_of (and k p i c r) = unless_zero (is_zero c) (small_whole p) c (powers_of r)

-- ---- the answer

-- a test that has to be passed, and the refusal where it isn't
abbrev pub if_so : Bool → Refusal → Result Float Refusal → Result Float Refusal
if_so true q a = a
if_so false q a = Err q

abbrev pub if_finite : Float → Result Float Refusal
if_finite v = if_so (finite v) NotFinite (Ok v)

-- 15 for x; then 14 for the whole sum; then 15 for an imaginary part, and for a value that isn't finite
unfoldable pub value_of : Sum → Float → Result Float Refusal
value_of s x = if_so (finite x) NotFinite (if_so (all_powers s) NeedsMath (if_so (all_real s) NotFinite (if_finite (value x (powers_of s)))))

-- of a sum that is handed over: it is weighed first, and is refused or taken
pub record ValueOfBytes (l : List ℕ) (x : Float) (r : Result Float Refusal) : Type 0 where
  pub weight : Result ℕ Refusal
  pub weighed : Weighed l weight
  pub refuses : (q : Refusal) → weight ≡ Err q → r ≡ Err q
  pub takes : (n : ℕ) → weight ≡ Ok n → (s : Sum) → encode_sum s ≡ l → Good sum_levels s → r ≡ value_of s x

-- document 01's numbers: everything at place 0, nothing counted, and a refusal has the value +0
abbrev pub value_numbers : Result Float Refusal → ValueNumbers
value_numbers (Ok v) = record { number = 0; place = 0; count = 0; value = v }
value_numbers (Err q) = record { number = refusal_no q; place = 0; count = 0; value = zero64 }
