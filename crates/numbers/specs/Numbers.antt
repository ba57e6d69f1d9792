-- What is asked of one binary64 number. `fin s m e` is m * 2 ^ e, negative where s is true; 2 ^ e is the fraction up e / down e.
use Rattle.std.specs.Prelude.{ℕ, ◌*◌, ◌/◌, ◌%◌, Bool, false, ◌&&◌, ◌||◌, not, cond, eqb, leb, Option, Some, None, Float}
use Rattle.std.specs.Float.{nan, inf, fin}
use Rattle.std.specs.Float.Ieee.{up, down, lt}
use Rattle.limits.specs.Limits.{highest_power}
use Rattle.numbers.specs.Constants.{epsilon}

-- a whole number, by value: no fraction is left
abbrev pub is_whole : Float → Bool
is_whole nan = false
is_whole (inf s) = false
is_whole (fin s m e) = eqb (m * up e % down e) 0

-- the whole number from 0 to highest_power that x is; -0 is 0
unfoldable pub small_whole : Float → Option ℕ
small_whole nan = None
small_whole (inf s) = None
small_whole (fin s m e) =
    cond (is_whole (fin s m e) && leb (m * up e / down e) highest_power && (not s || eqb (m * up e) 0)) (Some (m * up e / down e)) None

-- the magnitude
abbrev pub abs : Float → Float
abs nan = nan
abs (inf s) = inf false
abs (fin s m e) = fin false m e

-- |x| < 2^-52
unfoldable pub below_epsilon : Float → Bool
below_epsilon x = lt (abs x) epsilon
