-- Anything to the power nought, where document 01's reading and the runner part: a list that is read keeps the Rust's constant 0, and its run gives 1.
use Rattle.std.specs.Prelude.{ℕ, ◌≡◌, Bool, false, List, [], ◌∷◌, T, Float}
use Rattle.std.specs.Float.Ieee.Scale.{finite}
use Rattle.numbers.specs.Signs.{±0, one64}
use Rattle.numbers.specs.Complex.Arith as complex
use Rattle.arithmetic.specs.Singles.{constant}
use Rattle.formats.specs.declared.record.Primitive.TheVariants.{Pow}
use Rattle.writing.specs.Draft.Writing.{push, does}
use Rattle.modifiers.specs.Reading.{done}
use Rattle.running.specs.Running.{run_list, Value}
use Rattle.algebra.specs.Reading.{read_list}
use Rattle.theorems.specs.Cases.{bytes_of}

-- the bytes of 'push a, Pow'
abbrev pub to_power : Float → List ℕ
to_power a = bytes_of (push a ∷ does Pow ∷ [])

-- at every finite x the run gives +1, in two steps, holding two values; read as a formula the list is the constant 0
pub record ToNought (l : List ℕ) : Type 0 where
  pub runs : (x : Float) → T (finite x) → run_list l x ≡ Value one64 2 2
  pub reads : read_list l ≡ done (constant complex.zero) false false 0

-- for both zeros
abbrev pub Nought : Type 0
Nought = (negative : Bool) → ToNought (to_power (±0 negative))
