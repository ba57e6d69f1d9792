-- Document 01's lists as they run, in one table; and lists at the edges of the rules. Assumes nothing.
use Prim.Native.Nat.{ℕ, ◌+◌}
use mathlib.Core.Path.{◌≡◌, refl}
use mathlib.Core.Bool.{true, false}
use mathlib.Core.List.{List, [], ◌∷◌, map}
use lib.IntN.{pos}
use lib.Ieee.{Float, nan, fin, neg, add, sub, mul, div, eq, lt, of_int, of_bits, units, size as digits}
use Rattle.numbers.specs.Signs.{±0}
use Rattle.numbers.specs.Numbers.{small_whole}
use Rattle.numbers.specs.Radical.Root.{root}
use Rattle.limits.specs.declared.Refusal.TheVariants.{TooManyVariables, NotSupported, NoOutput, TooManyOutputs, InterpreterBug, NeedsMath, NonReal, NotFinite}
use Rattle.formats.specs.declared.record.Record.{Record}
use Rattle.formats.specs.declared.record.Kind.{Kind}
use Rattle.formats.specs.declared.record.Kind.TheVariants as kind
use Rattle.formats.specs.declared.record.Modifier.{Modifier}
use Rattle.formats.specs.declared.record.Modifier.TheVariants as modi
use Rattle.formats.specs.declared.record.Primitive.{Primitive}
use Rattle.formats.specs.declared.record.Primitive.TheVariants as prim
use Rattle.formats.specs.Names.{kind_no, kind_of, modifier_no, primitive_no, primitive_of}
use Rattle.formats.specs.Bytes.{value, bytes}
use Rattle.formats.specs.Tree.{Nodes, end, rec, size, height, count, grow, forest, parse, rec_of, encode_rec, encode}
use Rattle.formats.specs.Rules.{fields_ok, ok_nodes, shape_of, verdict}
use Rattle.running.specs.Primitives.{times, power, square_root, leave, apply, act}
use Rattle.running.specs.Running.{runs, run_nodes, run_list, RunAnswer, Value, Refused}

abbrev plain : Kind → ℕ → ℕ → ℕ → Record
plain k code args n = record { kind = kind_no k; code = code; args = args; blank = 0; inside = n; re = 0; im = 0 }

abbrev does : Primitive → Record
does p = plain kind.Primitive (primitive_no p) 0 0

-- a push of the number with these bits
abbrev push : ℕ → Record
push b = record { kind = kind_no kind.RealPush; code = 0; args = 0; blank = 0; inside = 0; re = b; im = 0 }

abbrev half-bits : ℕ
half-bits = 0x3fe0000000000000

abbrev one-bits : ℕ
one-bits = 0x3ff0000000000000

abbrev three-bits : ℕ
three-bits = 0x4008000000000000

abbrev infinity-bits : ℕ
infinity-bits = 0x7ff0000000000000

-- records with nothing inside, one after the other
unfoldable pub listed : List Record → Nodes
listed [] = end
listed (r ∷ rs) = rec r end (listed rs)

-- a modifier with one body
abbrev over : Modifier → ℕ → Nodes → Nodes → Nodes
over m n ns ms = rec (plain kind.Modifier (modifier_no m) 0 (1 + n)) (rec (plain kind.Body 0 1 n) ns end) ms

-- m * 2 ^ e
abbrev number : ℕ → ℕ → Float
number m e = fin false m (pos e)

pub record Case : Type 0 where
  pub list : Nodes
  pub x : Float
  pub gives : RunAnswer

unfoldable pub cases : List Case
cases =
    record { list = end; x = number 1 1; gives = Value (number 1 1) 0 1 }
    ∷ record { list = listed (does prim.Dup ∷ does prim.Mul ∷ []); x = number 1 1; gives = Value (number 1 2) 2 2 }
    ∷ record { list = listed (does prim.Dup ∷ does prim.Mul ∷ push three-bits ∷ does prim.Mul ∷ []); x = number 1 1; gives = Value (number 3 2) 4 2 }
    ∷ record {
      list = over modi.On 4 (listed (push 0 ∷ does prim.Mul ∷ push one-bits ∷ does prim.Add ∷ []))
          (listed (does prim.Dup ∷ does prim.Mul ∷ push three-bits ∷ does prim.Mul ∷ does prim.Add ∷ []));
      x = number 1 1;
      gives = Value (number 13 0) 11 3;
    }
    ∷ record { list = over modi.Dip 0 end end; x = number 1 1; gives = Refused NotSupported 0 }
    ∷ record { list = rec (plain kind.Modifier (modifier_no modi.On) 0 0) end end; x = number 1 1; gives = Refused InterpreterBug 0 }
    ∷ record { list = listed (push three-bits ∷ does prim.Pow ∷ []); x = number 1 1; gives = Value (number 1 3) 2 2 }
    ∷ record { list = listed (push 0 ∷ does prim.Pow ∷ []); x = number 1 1; gives = Value (number 1 0) 2 2 }
    ∷ record { list = listed (does prim.Pop ∷ []); x = number 1 1; gives = Refused NoOutput 0 }
    ∷ record { list = listed (does prim.Dup ∷ []); x = number 1 1; gives = Refused TooManyOutputs 0 }
    ∷ record { list = listed (does prim.Flip ∷ []); x = number 1 1; gives = Refused TooManyVariables 0 }
    ∷ record { list = listed (does prim.Dup ∷ does prim.Sin ∷ []); x = number 1 1; gives = Refused NeedsMath 1 }
    ∷ record { list = listed (does prim.Sqrt ∷ []); x = number 1 2; gives = Value (number 1 1) 1 1 }
    ∷ record { list = listed (does prim.Sqrt ∷ []); x = ±0 true; gives = Value (±0 true) 1 1 }
    ∷ record { list = listed (does prim.Dup ∷ does prim.Sqrt ∷ []); x = neg (number 1 2); gives = Refused NeedsMath 1 }
    ∷ record { list = listed (does prim.Pop ∷ does prim.Sqrt ∷ []); x = neg (number 1 2); gives = Refused TooManyVariables 1 }
    ∷ record { list = listed (push half-bits ∷ does prim.Pow ∷ []); x = number 1 2; gives = Refused NeedsMath 1 }
    ∷ record { list = listed (push three-bits ∷ does prim.Root ∷ []); x = number 1 2; gives = Refused NeedsMath 1 }
    ∷ record { list = listed (does prim.Complex ∷ []); x = number 1 1; gives = Refused NonReal 0 }
    ∷ record { list = listed (push infinity-bits ∷ []); x = number 1 1; gives = Refused NotFinite 0 }
    ∷ record { list = end; x = nan; gives = Refused NotFinite 0 }
    ∷ []

pub examples : map (λ (c : Case). run_list (encode c.list) c.x) cases ≡ map (λ (c : Case). c.gives) cases
unfolding cases listed run_list run_nodes runs act apply leave power times square_root root small_whole neg add sub mul div eq lt of_int of_bits units digits
    verdict shape_of ok_nodes fields_ok kind_of primitive_of height size count parse forest grow rec_of value encode_rec encode bytes
examples = refl
