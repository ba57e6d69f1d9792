-- Lists at the edges of the rules. Assumes nothing.
use mathlib.Core.Path.{◌≡◌, refl, sym}
use mathlib.Core.Bool.{true, false}
use mathlib.Core.List.{[], ◌∷◌}
use Prim.Native.Nat.{ℕ, zero, suc, ◌≤◌}
use native.Mathlib.Omega.{arith}
use borrow.Author.Tests.{eq-eqb}
use Rattle.std.specs.Prelude.{Ok, Err}
use Rattle.formats.specs.Names.{kind_no, kind_of, modifier_no, primitive_no}
use Rattle.formats.specs.Tree.{Nodes, end, rec, size, height, grow, forest, parse, rec_of, encode_rec, encode}
use Rattle.formats.specs.Bytes.{value, bytes}
use Rattle.formats.specs.Rules.{AllFields, WellFormed, fields_ok, ok_nodes, shape_of, verdict}
use Rattle.formats.proofs.record.Theorem.{verdict-encode}
use Rattle.formats.specs.declared.record.Record.{Record}
use Rattle.formats.specs.declared.record.Kind.{Kind}
use Rattle.formats.specs.declared.record.Kind.TheVariants as kind
use Rattle.formats.specs.declared.record.Modifier.TheVariants.{On}
use Rattle.formats.specs.declared.record.Primitive.TheVariants.{Sin}
use Rattle.limits.specs.declared.Refusal.TheVariants.{BadRecord, TooDeep}

-- ---- nests of runs: 129 of them are good, and 130 go too deep

abbrev plain : Kind → ℕ → ℕ → Record
plain k code n = record { kind = kind_no k; code = code; args = 0; blank = 0; inside = n; re = 0; im = 0 }

unfoldable pub nest : ℕ → Nodes
nest zero = end
nest (suc k) = rec (plain kind.Run 0 k) (nest k) end

nest-size : (k : ℕ) → size (nest k) ≡ k
unfolding nest size
nest-size zero = refl
nest-size (suc k) = omega (arith, nest-size k)

nest-fields : (k : ℕ) → k ≤ 2048 → AllFields (nest k)
unfolding nest AllFields
nest-fields zero h = tt
nest-fields (suc k) h = (omega arith, nest-fields k (omega arith), tt)

nest-ok : (k : ℕ) → ok_nodes false (nest k) ≡ true
unfolding nest ok_nodes fields_ok kind_of
nest-ok zero = refl
nest-ok (suc k) = rw (eq-eqb k (size (nest k)) (sym (nest-size k)), nest-ok k)

nest-formed : (k : ℕ) → k ≤ 2048 → WellFormed (nest k)
nest-formed k h = record { fields = nest-fields k h; ok = nest-ok k; few = omega (arith, nest-size k) }

pub nest-129 : verdict (encode (nest 129)) ≡ Ok tt
unfolding nest height
nest-129 = verdict-encode (nest 129) (nest-formed 129 (omega arith))

pub nest-130 : verdict (encode (nest 130)) ≡ Err TooDeep
unfolding nest height
nest-130 = verdict-encode (nest 130) (nest-formed 130 (omega arith))

-- ---- single lists, computed

abbrev body : ℕ → Record
body n = record { kind = kind_no kind.Body; code = 0; args = 1; blank = 0; inside = n; re = 0; im = 0 }

-- the empty list; On with a body that holds Sin; a body that stands by itself; an argument count on a run; the sign bit in a number that is not used; one byte too many
pub computed :
    (verdict [] ≡ Ok tt)
    × (verdict (encode (rec (plain kind.Modifier (modifier_no On) 2) (rec (body 1) (rec (plain kind.Primitive (primitive_no Sin) 0) end end) end) end)) ≡ Ok tt)
    × (verdict (encode_rec (body 0)) ≡ Err BadRecord)
    × (verdict (encode_rec record { kind = kind_no kind.Run; code = 0; args = 1; blank = 0; inside = 0; re = 0; im = 0 }) ≡ Err BadRecord)
    × (verdict (encode_rec record { kind = kind_no kind.Run; code = 0; args = 0; blank = 0; inside = 0; re = 0; im = 9223372036854775808 }) ≡ Err BadRecord)
    × (verdict (0 ∷ encode (nest 1)) ≡ Err BadRecord)
unfolding verdict shape_of ok_nodes fields_ok kind_of height size parse forest grow rec_of value encode_rec encode bytes nest
computed = (refl, refl, refl, refl, refl, refl)
