-- Anything to the power nought: what the run gives for every finite x, and what reading gives, computed from the bytes. Assumes nothing.
use mathlib.Core.Path.{◌≡◌, refl}
use mathlib.Core.Bool.{Bool, true, false}
use lib.Ieee.{Float}
use lib.Ieee.Bits.{is_true}
use lib.Ieee.Scale.{finite}
use Rattle.numbers.specs.Signs.{±0, one64}
use Rattle.running.specs.Running.{run_list, Value}
use Rattle.theorems.specs.Nought.{to_power, ToNought, Nought}
use Rattle.theorems.proofs.Computing.{arithmetic, comparing, list_bytes, list_rules, sum_bytes, maps, products, raised, steps, reading, acting}

ran : (s : Bool) (x : Float) → finite x ≡ true → run_list (to_power (±0 s)) x ≡ Value one64 2 2
unfolding arithmetic comparing list_bytes list_rules acting
ran true x f = rw f
ran false x f = rw f

pub nought : Nought
unfolding arithmetic comparing list_bytes list_rules sum_bytes maps products raised steps reading
nought true = record { runs = λ x t. ran true x (is_true (finite x) t); reads = refl }
nought false = record { runs = λ x t. ran false x (is_true (finite x) t); reads = refl }
