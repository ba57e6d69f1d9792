-- What is written: records, lists of them as trees, and the one refusal that writing a number can meet.
use Rattle.std.specs.Prelude.{ℕ, ◌+◌, Bool, true, false, ◌&&◌, Float}
use Rattle.std.specs.Float.{binary64}
use Rattle.std.specs.Float.Ieee.{to_bits}
use Rattle.std.specs.Float.Ieee.Scale.{finite}
use Rattle.numbers.specs.declared.complex.Complex.{Complex}
use Rattle.numbers.specs.Complex.Arith as complex
use Rattle.limits.specs.declared.Refusal.{Refusal}
use Rattle.limits.specs.declared.Refusal.TheVariants.{NotFinite}
use Rattle.formats.specs.declared.record.Record.{Record}
use Rattle.formats.specs.declared.record.Kind.{Kind}
use Rattle.formats.specs.declared.record.Kind.TheVariants as kind
use Rattle.formats.specs.declared.record.Primitive.{Primitive}
use Rattle.formats.specs.declared.record.Modifier.TheVariants as modifier
use Rattle.formats.specs.Names.{kind_no, primitive_no, modifier_no}
use Rattle.formats.specs.Tree.{Nodes, end, rec, size}

-- ---- records; what a kind does not use is zero

abbrev pub record_of : Kind → ℕ → ℕ → ℕ → ℕ → ℕ → Record
record_of k code args inside re im = record { kind = kind_no k; code = code; args = args; blank = 0; inside = inside; re = re; im = im }

-- a real number, and a pair, pushed
abbrev pub push : Float → Record
push x = record_of kind.RealPush 0 0 0 (to_bits binary64 x) 0

abbrev pub push_pair : Complex → Record
push_pair c = record_of kind.ComplexPush 0 0 0 (to_bits binary64 c.re) (to_bits binary64 c.im)

abbrev pub does : Primitive → Record
does p = record_of kind.Primitive (primitive_no p) 0 0 0 0

-- On, and its body of 1 argument, with how many records lie inside
abbrev pub on : ℕ → Record
on n = record_of kind.Modifier (modifier_no modifier.On) 0 n 0 0

abbrev pub body : ℕ → Record
body n = record_of kind.Body 0 1 n 0 0

-- ---- lists

unfoldable pub append : Nodes → Nodes → Nodes
append end ms = ms
append (rec r ns after) ms = rec r ns (append after ms)

-- a record with nothing inside, and two of them
abbrev pub one : Record → Nodes
one r = rec r end end

abbrev pub two : Record → Record → Nodes
two r q = rec r end (one q)

-- everything so far in the body of an On
abbrev pub wrapped : Nodes → Nodes
wrapped ns = rec (on (size ns + 1)) (rec (body (size ns)) ns end) end

-- ---- what comes of writing

pub data Written : Type 0 where
  wrote : Nodes → Written
  refused : Refusal → Written

abbrev pub and_then : Written → (Nodes → Written) → Written
and_then (wrote ns) f = f ns
and_then (refused q) f = refused q

-- a coefficient is written as a pair, or, where there were no complex steps, as its real part
abbrev pub number_record : Bool → Complex → Record
number_record true c = push_pair c
number_record false c = push c.re

-- it has to be finite, and real where its real part is written: |im| < 2^-52
abbrev pub can_write : Bool → Complex → Bool
can_write true c = complex.all_finite c
can_write false c = complex.is_real c && finite c.re

abbrev pub if_can : Bool → Written → Written
if_can true w = w
if_can false w = refused NotFinite

-- the list so far with the number after it
abbrev pub number : Bool → Complex → Nodes → Written
number flag c ns = if_can (can_write flag c) (wrote (append ns (one (number_record flag c))))
