-- The table of 256 places holds at each code what its primitive's row packs to, and the row comes out again. Assumes nothing.
use mathlib.Core.Path.{◌≡◌, refl, ap, ◌∙◌}
use mathlib.Core.List.{List, [], ◌∷◌}
use Prim.Native.Nat.{ℕ, zero, suc, ◌+◌, ◌/◌, ◌%◌, ◌<◌}
use native.Mathlib.Omega.{arith}
use lib.Dec.{eqb}
use lib.ListN.{get_or}
use Rattle.formats.specs.Names.{primitive_of}
use Rattle.formats.specs.Table.{row, packed}
use Rattle.formats.specs.declared.record.Primitive.{Primitive}
use Rattle.formats.specs.declared.record.Primitive.TheVariants as prim

-- the table, computed: n places from i on
unfoldable pub places : ℕ → ℕ → List ℕ
places zero i = []
places (suc n) i = packed (row (primitive_of i)) ∷ places n (suc i)

from : (n i k : ℕ) → k < n → get_or (places n i) k 0 ≡ packed (row (primitive_of (i + k)))
unfolding places
from zero i k h = absurd (omega arith)
from (suc n) i zero h = ap (λ (j : ℕ). packed (row (primitive_of j))) (omega arith)
from (suc n) i (suc k) h = from n (suc i) k (omega arith) ∙ ap (λ (j : ℕ). packed (row (primitive_of j))) (omega arith)

pub place : (k : ℕ) → k < 256 → get_or (places 256 0) k 0 ≡ packed (row (primitive_of k))
place k h = from 256 0 k h ∙ ap (λ (j : ℕ). packed (row (primitive_of j))) (omega arith)

pub unpacked : (p : Primitive) → (packed (row p) % 4 ≡ (row p).taken) × (packed (row p) / 4 % 4 ≡ (row p).left) × (eqb (packed (row p) / 16) 1 ≡ (row p).handled)
unpacked prim.Identity = (refl, refl, refl)
unpacked prim.Pop = (refl, refl, refl)
unpacked prim.Dup = (refl, refl, refl)
unpacked prim.Flip = (refl, refl, refl)
unpacked prim.Neg = (refl, refl, refl)
unpacked prim.Not = (refl, refl, refl)
unpacked prim.Sqrt = (refl, refl, refl)
unpacked prim.Add = (refl, refl, refl)
unpacked prim.Sub = (refl, refl, refl)
unpacked prim.Mul = (refl, refl, refl)
unpacked prim.Div = (refl, refl, refl)
unpacked prim.Pow = (refl, refl, refl)
unpacked prim.Exp = (refl, refl, refl)
unpacked prim.Sin = (refl, refl, refl)
unpacked prim.Cos = (refl, refl, refl)
unpacked prim.Reciprocal = (refl, refl, refl)
unpacked prim.Complex = (refl, refl, refl)
unpacked prim.Max = (refl, refl, refl)
unpacked prim.SinH = (refl, refl, refl)
unpacked prim.CosH = (refl, refl, refl)
unpacked prim.Exp2 = (refl, refl, refl)
unpacked prim.Exp10 = (refl, refl, refl)
unpacked prim.Log = (refl, refl, refl)
unpacked prim.Ln = (refl, refl, refl)
unpacked prim.Log2 = (refl, refl, refl)
unpacked prim.Log10 = (refl, refl, refl)
unpacked prim.Over = (refl, refl, refl)
unpacked prim.Root = (refl, refl, refl)
unpacked prim.Unlisted = (refl, refl, refl)
