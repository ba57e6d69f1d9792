-- What some lists cost: computed, and for any number of Boths one inside the other. Assumes nothing.
use Prim.Native.Nat.{ℕ, zero, suc, ◌+◌, ◌*◌, ◌^◌, min}
use native.Mathlib.Omega.{arith}
use mathlib.Core.Path.{◌≡◌, refl}
use Rattle.formats.specs.declared.record.Record.{Record}
use Rattle.formats.specs.declared.record.Kind.{Kind}
use Rattle.formats.specs.declared.record.Kind.TheVariants as kind
use Rattle.formats.specs.declared.record.Primitive.{Primitive}
use Rattle.formats.specs.declared.record.Primitive.TheVariants as prim
use Rattle.formats.specs.declared.record.Modifier.{Modifier}
use Rattle.formats.specs.declared.record.Modifier.TheVariants as modi
use Rattle.formats.specs.Names.{kind_no, kind_of, primitive_no, modifier_no, modifier_of}
use Rattle.formats.specs.Tree.{Nodes, end, rec, size, count}
use Rattle.reading.specs.Cost.Cost.{most_steps, cost_of}

abbrev plain : Kind → ℕ → ℕ → Record
plain k code n = record { kind = kind_no k; code = code; args = 0; blank = 0; inside = n; re = 0; im = 0 }

abbrev does : Primitive → Nodes → Nodes
does p ms = rec (plain kind.Primitive (primitive_no p) 0) end ms

abbrev body : Nodes → Nodes → Nodes
body ns ms = rec (plain kind.Body 0 (size ns)) ns ms

abbrev modifies : Modifier → Nodes → Nodes
modifies m ns = rec (plain kind.Modifier (modifier_no m) (size ns)) ns end

-- nothing; Dup, Mul; Both of Neg; On with two bodies, which is refused before one runs; a Fork of three
pub few-steps :
    (cost_of end ≡ 0)
    × (cost_of (does prim.Dup (does prim.Mul end)) ≡ 2)
    × (cost_of (modifies modi.Both (body (does prim.Neg end) end)) ≡ 5)
    × (cost_of (modifies modi.On (body (does prim.Neg end) (body (does prim.Neg end) end))) ≡ 1)
    × (cost_of (modifies modi.Fork (body (does prim.Neg end) (body end (body (does prim.Neg end) end)))) ≡ 6)
unfolding cost_of count kind_of modifier_of
few-steps = (refl, refl, refl, refl, refl)

-- so many Boths around one record
abbrev boths : ℕ → Nodes
boths zero = does prim.Neg end
boths (suc k) = modifies modi.Both (body (boths k) end)

pub nested : (k : ℕ) → cost_of (boths k) + 3 ≡ 4 * 2 ^ k
unfolding cost_of count kind_of modifier_of
nested zero = refl
nested (suc k) = omega (arith, nested k)

-- nine, in 19 records; 62, in 125 records, cost 2^64 - 3, the last that is told as it is
pub nine : cost_of (boths 9) ≡ 2045
nine = omega (arith, nested 9)

pub sixty-two : min most_steps (cost_of (boths 62)) ≡ 18446744073709551613
sixty-two = omega (arith, nested 62)

pub sixty-three : min most_steps (cost_of (boths 63)) ≡ most_steps
sixty-three = omega (arith, nested 63)
