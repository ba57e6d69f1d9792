-- What was found in the terms met so far, and what is still to come.
use Rattle.std.specs.Prelude.{ℕ, ◌-◌, ◌≤◌, ◌≡◌, Bool, true, false, ◌&&◌, ◌||◌, List, [], Float, Result}
use Rattle.limits.specs.declared.Refusal.TheVariants.{NeedsMath, NotFinite}
use Rattle.numbers.specs.Numbers.{small_whole}
use Rattle.numbers.specs.Ops.{◌⊕◌}
use Rattle.numbers.specs.declared.complex.Complex.{Complex}
use Rattle.numbers.specs.Complex.Arith as complex
use Rattle.cells.specs.declared.Entry.{Entry}
use Rattle.sums.specs.Tree.Sums.{Sum}
use Rattle.running.specs.Primitives.{times}
use Rattle.values.specs.declared.Found.{Found}
use Rattle.limits.specs.declared.Refusal.{Refusal}
use Rattle.values.specs.Value.{whole, Power, term_value, plus_terms, value}
use Rattle.values.specs.ValueOf.{is_zero, is_power, all_powers, all_real, unless_zero, powers_of, if_so, if_finite}

-- a value added to the sum so far; where there is none it is the value itself
abbrev pub plus : Bool → Float → Float → Float
plus true r v = r ⊕ v
plus false r v = v

-- the terms ts added to the sum so far
abbrev pub onward : Float → Bool → Float → List Power → Float
onward x true r ts = plus_terms x r ts
onward x false r ts = value x ts

-- the last power of x that was formed is the product from the left
pub record Reached (x : Float) (f : Found) : Type 0 where
  pub low : 1 ≤ f.exponent
  pub formed : f.power ≡ times (f.exponent - 1) x x

-- c times x to the n went to the sum
pub record Adds (x : Float) (f : Found) (n : ℕ) (c : Complex) (r : Found) : Type 0 where
  pub tests : (r.whole ≡ f.whole) × (r.real ≡ f.real)
  pub any : r.any ≡ true
  pub sum : r.sum ≡ plus f.any f.sum (term_value x (whole n) c)
  pub reached : Reached x r

-- an entry was met: both tests, and the sum, go on from what they are after it
pub record Takes (x : Float) (f : Found) (e : Entry) (r : Found) : Type 0 where
  pub powers : r.whole ≡ f.whole && (is_zero e.coef || is_power e.kind (small_whole e.num))
  pub reals : r.real ≡ f.real && (is_zero e.coef || complex.is_real e.coef)
  pub sums : (ts : List Power) → onward x f.any f.sum (unless_zero (is_zero e.coef) (small_whole e.num) e.coef ts) ≡ onward x r.any r.sum ts
  pub reached : Reached x r

-- nothing was met yet: what is said of a sum is what is still to come
pub record Starts (x : Float) (f : Found) : Type 0 where
  pub tests : (f.whole ≡ true) × (f.real ≡ true)
  pub none_yet : f.any ≡ false
  pub reached : Reached x f

-- every term of the sum was met
pub record Finds (x : Float) (s : Sum) (f : Found) : Type 0 where
  pub powers : f.whole ≡ all_powers s
  pub reals : f.real ≡ all_real s
  pub sums : onward x f.any f.sum [] ≡ value x (powers_of s)

-- what was found is judged
abbrev pub judged : Bool → Bool → Float → Result Float Refusal
judged w r v = if_so w NeedsMath (if_so r NotFinite (if_finite v))
