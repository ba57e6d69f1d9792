-- How many records document 01 counts for a sum of whole powers and of a square root, and the peak of their run.
use Rattle.std.specs.Prelude.{ℕ, zero, suc, ◌-◌, Bool, false, ◌&&◌, cond, List, [], ◌∷◌, length}
use Rattle.numbers.specs.declared.complex.Complex.{Complex}
use Rattle.writing.specs.ToNodes.{Form}
use Rattle.writing.specs.Count.{Shape, shape, cost, bare_x, records_for}
use Rattle.values.specs.Value.{Exponent, whole, half, Power, power, is_one}

-- a power is 0, 0.5, 1, 2 or another
abbrev pub form_of : Exponent → Form
form_of (whole zero) = Form.constant
form_of half = Form.root
form_of (whole (suc zero)) = Form.bare
form_of (whole (suc (suc zero))) = Form.square
form_of (whole (suc (suc (suc n)))) = Form.power

-- each term as it is counted: its form, and whether its coefficient is 1
unfoldable pub shapes : List Power → List Shape
shapes [] = []
shapes (power k c ∷ ts) = shape (form_of k) (is_one c) ∷ shapes ts

-- document 01's number of records for these terms
abbrev pub records : List Power → ℕ
records ts = records_for (shapes ts)

-- what one term costs
abbrev pub cost_of : Exponent → Complex → ℕ
cost_of k c = cost (form_of k) (is_one c)

-- whether a term is bare x
abbrev pub is_x : Exponent → Complex → Bool
is_x k c = bare_x (form_of k) (is_one c)

-- document 01's peak for n whole powers: n + 1, but 1 for bare x and 2 for none
unfoldable pub peak_of : List Power → ℕ
peak_of [] = 2
peak_of (power k c ∷ []) = cond (is_x k c) 1 2
peak_of (power k c ∷ t ∷ ts) = suc (length (power k c ∷ t ∷ ts))

-- whether a term is bare √x
abbrev pub is_root : Exponent → Complex → Bool
is_root (whole k) c = false
is_root half c = is_one c

-- whether the first term is bare √x, and the only one or followed by bare x
unfoldable pub root_first : List Power → Bool
root_first [] = false
root_first (power k c ∷ []) = is_root k c
root_first (power k c ∷ power l d ∷ ts) = is_root k c && is_x l d

-- the peak of the run: document 01's, but in that case one less, which is n, since neither √x nor x needs a number beside it
abbrev pub exact_peak : List Power → ℕ
exact_peak ts = peak_of ts - cond (root_first ts) 1 0
