-- Which trees of records are well-formed, and the verdict on a list of bytes: 11 where a rule is broken, then 13 where more than list_levels of them lie one inside the other.
use Rattle.std.specs.Prelude.{◌≡◌, Bool, true, false, ◌&&◌, ◌||◌, cond, ◌↔◌, Option, Some, None, Result, Ok, Err, List, [], ◌∷◌, ℕ, ◌%◌, ◌≤◌, ◌<◌, length, leb, eqb}
use Rattle.std.specs.Bool.{beq}
use Rattle.limits.specs.Limits.{list_records, list_levels, record_bytes}
use Rattle.formats.specs.Names.{kind_no, kind_of}
use Rattle.formats.specs.Tree.{Nodes, end, rec, size, height, parse, encode, records_in}
use Rattle.formats.specs.declared.record.Record.{Record}
use Rattle.formats.specs.declared.record.Kind.{Kind}
use Rattle.formats.specs.declared.record.Kind.TheVariants.{RealPush, ComplexPush, Primitive, Modifier, Body, Run, CustomInverse}
use Rattle.limits.specs.declared.Refusal.{Refusal}
use Rattle.limits.specs.declared.Refusal.TheVariants.{BadRecord, TooDeep}

-- ---- one record

-- the record is of the kind
abbrev pub is_a : Record → Kind → Bool
is_a r k = eqb r.kind (kind_no k)

abbrev pub one_of : Record → List Kind → Bool
one_of r [] = false
one_of r (k ∷ ks) = is_a r k || one_of r ks

abbrev pub is_known : Option Kind → Bool
is_known (Some k) = true
is_known None = false

-- a field is used, or is zero
abbrev pub used_or_zero : Bool → ℕ → Bool
used_or_zero used v = used || eqb v 0

-- the kind is one of the listed, and what it does not use is zero
unfoldable pub fields_ok : Record → Bool
fields_ok r =
    is_known (kind_of r.kind)
    && eqb r.blank 0
    && used_or_zero (one_of r (Primitive ∷ Modifier ∷ [])) r.code
    && used_or_zero (one_of r (Body ∷ [])) r.args
    && used_or_zero (one_of r (Modifier ∷ Body ∷ Run ∷ CustomInverse ∷ [])) r.inside
    && used_or_zero (one_of r (RealPush ∷ ComplexPush ∷ [])) r.re
    && used_or_zero (one_of r (ComplexPush ∷ [])) r.im

-- the fields are no larger than their bytes hold
pub record Fields (r : Record) : Type 0 where
  pub kind : r.kind < 256
  pub code : r.code < 256
  pub args : r.args < 256
  pub blank : r.blank < 256
  pub inside : r.inside < 4294967296
  pub re : r.re < 18446744073709551616
  pub im : r.im < 18446744073709551616

-- ---- trees

-- every record keeps the rules and says how many nodes are inside it; what is inside a modifier, and nothing else, is a body.
-- The Bool says whether these nodes are inside a modifier.
unfoldable pub ok_nodes : Bool → Nodes → Bool
ok_nodes b end = true
ok_nodes b (rec r ns ms) = fields_ok r && beq (is_a r Body) b && eqb r.inside (size ns) && ok_nodes (is_a r Modifier) ns && ok_nodes b ms

unfoldable pub AllFields : Nodes → Type 0
AllFields end = Unit {0}
AllFields (rec r ns ms) = Fields r × AllFields ns × AllFields ms

pub record WellFormed (t : Nodes) : Type 0 where
  pub fields : AllFields t
  pub ok : ok_nodes false t ≡ true
  pub few : size t ≤ list_records

-- ---- the verdict

-- a list is good, or is refused
abbrev pub Verdict : Type 0
Verdict = Result (Unit {0}) Refusal

-- nodes that are well-formed have a height
unfoldable pub shape_of : Bool → Nodes → Option ℕ
shape_of b t = cond (ok_nodes b t) (Some (height t)) None

-- more than list_levels records one inside the other are 13
abbrev pub judge : Option ℕ → Verdict
judge None = Err BadRecord
judge (Some h) = cond (leb h list_levels) (Ok tt) (Err TooDeep)

unfoldable pub verdict : List ℕ → Verdict
verdict s = cond (eqb (length s % record_bytes) 0 && leb (records_in s) list_records) (judge (shape_of false (parse s))) (Err BadRecord)

-- what a verdict says of a list of bytes, in the words of the trees
pub record Judged (s : List ℕ) (v : Verdict) : Type 0 where
  pub good : (v ≡ Ok tt) ↔ ((t : Nodes) × (encode t ≡ s) × WellFormed t × (height t ≤ list_levels))
  pub deep : (v ≡ Err TooDeep) ↔ ((t : Nodes) × (encode t ≡ s) × WellFormed t × (list_levels < height t))
  pub bad : (v ≡ Err BadRecord) ↔ ((t : Nodes) → encode t ≡ s → WellFormed t → ⊥)
