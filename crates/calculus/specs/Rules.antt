-- What the power rules speak of: the coefficients that the derivative and the integral of a sum have at each power of x, in IEEE operations and with no word
-- of the map that they are put into. They come of the sum's powers of x alone, since a term of another kind becomes a term of another kind.
use Rattle.std.specs.Prelude.{◌≡◌, Bool, true, ◌&&◌, cond, List, [], ◌++◌, eqb, ℤ, Float}
use Rattle.std.specs.Float.Ieee.{eq}
use Rattle.numbers.specs.Constants.{euler}
use Rattle.numbers.specs.Ops.{◌⊕◌, ◌⊖◌}
use Rattle.numbers.specs.Signs.{zero64, one64}
use Rattle.numbers.specs.Wholes.{Means}
use Rattle.numbers.specs.declared.complex.Complex.{Complex}
use Rattle.numbers.specs.Complex.Arith as complex
use Rattle.cells.specs.declared.Entry.{Entry}
use Rattle.sums.specs.Tree.Kinds as kinds
use Rattle.sums.specs.Tree.Sums.{Sum, none, and, entry}
use Rattle.sums.specs.Tree.Map.{Found, at, absent}
use Rattle.arithmetic.specs.Powers.{where_is}
use Rattle.calculus.specs.Derivative.{slope, vanishes}

-- each power of x is a whole number of which near holds: Near, that 1 can be taken from it exactly, or NearUp, that 1 can be added
unfoldable pub WholePowers : (ℤ → Type 0) → Sum → Type 0
WholePowers near none = Unit {0}
WholePowers near (and k p i c r) = (k ≡ kinds.X → (z : ℤ) × Means p z × near z) × WholePowers near r

-- ---- derivatives

-- what c times x to the p adds to the derivative at the power q: its slope, where that isn't 0 and p ⊖ 1 is q
abbrev pub slope_at : Float → Float → Complex → List Complex
slope_at q p c = cond (vanishes p c) [] (where_is q (p ⊖ one64) (slope p c))

-- what each power of x in the sum adds there, in the sum's order
unfoldable pub slopes_at : Float → Sum → List Complex
slopes_at q none = []
slopes_at q (and k p i c r) = cond (eqb k kinds.X) (slope_at q p c) [] ++ slopes_at q r

-- every term is a power of x, and every slope is 0, so that the derivative is constant 0
unfoldable pub all_vanish : Sum → Bool
all_vanish none = true
all_vanish (and k p i c r) = eqb k kinds.X && vanishes p c && all_vanish r

-- ---- integrals

-- of two numbers stored at one key the later one, given first, stays
abbrev pub later : Found → Found → Found
later absent f = f
later (at c) f = at c

-- what c times x to the p stores in the integral at the power q: c divided by p ⊕ 1, where that is q and not 0
abbrev pub divided_at : Float → Float → Complex → Found
divided_at q p c = cond (eq (p ⊕ one64) zero64) absent (cond (eq (p ⊕ one64) q) (at (complex.over_real c (p ⊕ one64))) absent)

-- what the last such power of x in the sum stores there
unfoldable pub last_at : Float → Sum → Found
last_at q none = absent
last_at q (and k p i c r) = later (last_at q r) (cond (eqb k kinds.X) (divided_at q p c) absent)

-- what is stored at the natural logarithm of x: the coefficient of the last power of x for which p ⊕ 1 is 0
unfoldable pub last_log : Sum → Found
last_log none = absent
last_log (and k p i c r) = later (last_log r) (cond (eqb k kinds.X && eq (p ⊕ one64) zero64) (at c) absent)

-- the key of the natural logarithm of x; its coefficient is of no matter
abbrev pub log_key : Entry
log_key = entry kinds.Log 1 euler complex.zero
