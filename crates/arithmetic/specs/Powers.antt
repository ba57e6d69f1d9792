-- Sums of powers of x, and what the coefficients of a product, a sum and a difference of two of them are, with no map: the products of the pairs of terms
-- whose powers add up to q, in order, added one after the other from +0.
use Rattle.std.specs.Prelude.{◌≡◌, Bool, false, ◌&&◌, ◌||◌, cond, List, [], ◌∷◌, ◌++◌, eqb, Float}
use Rattle.std.specs.Float.Ieee.{eq}
use Rattle.numbers.specs.Ops.{◌⊕◌}
use Rattle.numbers.specs.declared.complex.Complex.{Complex}
use Rattle.numbers.specs.Complex.Arith as complex
use Rattle.sums.specs.Tree.Kinds.{X}
use Rattle.sums.specs.Tree.Sums.{Sum, none, and}
use Rattle.sums.specs.Tree.Map.{Found, at, absent}

-- every outermost term is a power of x
unfoldable pub PowerSum : Sum → Type 0
PowerSum none = Unit {0}
PowerSum (and k p i c r) = (k ≡ X) × PowerSum r

-- the coefficient of x to the q; powers are compared as numbers
unfoldable pub coef_at : Float → Sum → Found
coef_at q none = absent
coef_at q (and k p i c r) = cond (eqb k X && eq p q) (at c) (coef_at q r)

-- ---- products

-- the coefficient c of x to the p, where p is q
abbrev pub where_is : Float → Float → Complex → List Complex
where_is q p c = cond (eq p q) (c ∷ []) []

-- of c times x to the p with each term of t in order, the products at x to the q
unfoldable pub row_at : Float → Float → Complex → Sum → List Complex
row_at q p c none = []
row_at q p c (and l w j d t) = where_is q (p ⊕ w) (complex.times c d) ++ row_at q p c t

-- of each term of s in order with each term of t in order
unfoldable pub pairs_at : Float → Sum → Sum → List Complex
pairs_at q none t = []
pairs_at q (and k p i c s) t = row_at q p c t ++ pairs_at q s t

-- a, and then each of the list added to it
abbrev pub total_from : Complex → List Complex → Complex
total_from a [] = a
total_from a (c ∷ cs) = total_from (complex.plus a c) cs

abbrev pub total : List Complex → Complex
total cs = total_from complex.zero cs

-- what is found at a key where these were added; nothing where there were none
abbrev pub total_at : List Complex → Found
total_at [] = absent
total_at (c ∷ cs) = at (total (c ∷ cs))

-- ---- powers

-- the outermost powers
unfoldable pub powers : Sum → List Float
powers none = []
powers (and k p i c r) = p ∷ powers r

-- each p of the first with each w of the second
abbrev pub plus_each : Float → List Float → List Float
plus_each p [] = []
plus_each p (w ∷ ws) = (p ⊕ w) ∷ plus_each p ws

abbrev pub plus_pairs : List Float → List Float → List Float
plus_pairs [] ws = []
plus_pairs (p ∷ ps) ws = plus_each p ws ++ plus_pairs ps ws

-- whether q is among them; -0 is equal to 0
abbrev pub occurs : Float → List Float → Bool
occurs q [] = false
occurs q (p ∷ ps) = eq p q || occurs q ps

-- ---- sums and differences

-- the coefficient d is added to what was found; a new key starts from +0, and nothing found in the second changes nothing
abbrev pub plus_found : Found → Found → Found
plus_found f absent = f
plus_found absent (at d) = at (complex.plus complex.zero d)
plus_found (at c) (at d) = at (complex.plus c d)

abbrev pub neg_found : Found → Found
neg_found absent = absent
neg_found (at d) = at (complex.negated d)
