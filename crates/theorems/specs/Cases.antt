-- The lists to try that document 01 marks with a star: for each the entry, the bytes handed over, and the answer with the bytes written.
use Rattle.std.specs.Prelude.{ℕ, min, ◌≡◌, Bool, false, List, [], ◌∷◌, ◌++◌, Float, Ok, Err}
use Rattle.std.specs.Float.{binary64}
use Rattle.std.specs.Float.Ieee.{of_bits}
use Rattle.numbers.specs.Constants.{euler}
use Rattle.numbers.specs.Signs.{zero64, one64}
use Rattle.numbers.specs.Complex.Arith as complex
use Rattle.limits.specs.declared.Refusal.{Refusal}
use Rattle.limits.specs.declared.Refusal.TheVariants.{TooManyVariables, NoOutput, TooManyOutputs, NotHandled}
use Rattle.sums.specs.Tree.Sums.{Sum, size}
use Rattle.arithmetic.specs.Singles.{constant}
use Rattle.arithmetic.specs.Quotient.{x_to}
use Rattle.formats.specs.declared.record.Record.{Record}
use Rattle.formats.specs.declared.record.Primitive.TheVariants as prim
use Rattle.formats.specs.Tree.{encode_rec}
use Rattle.sums.specs.Entry.Encoding.{encode_sum}
use Rattle.stack.specs.State.{most_pairs}
use Rattle.modifiers.specs.Reading as reading
use Rattle.writing.specs.Draft.Writing.{push, does, on, body}
use Rattle.running.specs.Running as ran
use Rattle.running.specs.Running.{run_list, RunAnswer}
use Rattle.algebra.specs.Answer.Making.{Made, made, refused_at}
use Rattle.algebra.specs.Reading.{read_list}
use Rattle.algebra.specs.Entries

-- ---- entries that are handed a list, and what they answer where there is room

pub data Handed : Type 0 where
  read derivative integral inverse : Handed
  run : Float → Handed

-- so many entries or records with their bytes, the complex flag and the pairs multiplied; a value with steps and peak; or a refusal with its place
pub data Shown : Type 0 where
  wrote : ℕ → Bool → ℕ → List ℕ → Shown
  value : Float → ℕ → ℕ → Shown
  refused : Refusal → ℕ → Shown

abbrev pub of_read : reading.Read → Shown
of_read (reading.done s c h k) = wrote (size s) c (min most_pairs k) (encode_sum s)
of_read (reading.refused_at q at h) = refused q at

abbrev pub of_made : Made → Shown
of_made (made n bytes) = wrote n false 0 bytes
of_made (refused_at q at) = refused q at

abbrev pub of_run : RunAnswer → Shown
of_run (Ok ran-to) = value ran-to.value ran-to.steps ran-to.peak
of_run (Err ran-to) = refused ran-to.why ran-to.place

abbrev pub shown : Handed → List ℕ → Shown
shown read l = of_read (read_list l)
shown derivative l = of_made (Entries.derivative l)
shown integral l = of_made (Entries.integral l)
shown inverse l = of_made (Entries.inverse l)
shown (run x) l = of_run (run_list l x)

-- ---- the table

abbrev pub bytes_of : List Record → List ℕ
bytes_of [] = []
bytes_of (r ∷ rs) = encode_rec r ++ bytes_of rs

abbrev two : Float
two = of_bits binary64 0x4000000000000000

abbrev three : Float
three = of_bits binary64 0x4008000000000000

abbrev five : Float
five = of_bits binary64 0x4014000000000000

abbrev twelve : Float
twelve = of_bits binary64 0x4028000000000000

abbrev thirteen : Float
thirteen = of_bits binary64 0x402a000000000000

-- what an entry makes of a list of records: a list of records, or a sum
abbrev lists : List Record → ℕ → Shown
lists rs n = wrote n false 0 (bytes_of rs)

abbrev sums : Sum → Shown
sums s = wrote (size s) false 0 (encode_sum s)

pub record Case : Type 0 where
  pub entry : Handed
  pub given : List ℕ
  pub answer : Shown

abbrev case : Handed → List Record → Shown → Case
case e rs a = record { entry = e; given = bytes_of rs; answer = a }

-- the derivative of x + x^3
abbrev eleven : List Record
eleven =
    on 5
    ∷ body 4
    ∷ push zero64
    ∷ does prim.Mul
    ∷ push one64
    ∷ does prim.Add
    ∷ does prim.Dup
    ∷ does prim.Mul
    ∷ push three
    ∷ does prim.Mul
    ∷ does prim.Add
    ∷ []

unfoldable pub table : List Case
table =
    case read [] (sums (x_to one64))
    ∷ case derivative [] (lists (push zero64 ∷ does prim.Mul ∷ push one64 ∷ does prim.Add ∷ []) 4)
    ∷ case inverse [] (refused NotHandled 0)
    ∷ case derivative (does prim.Dup ∷ does prim.Mul ∷ []) (lists (push two ∷ does prim.Mul ∷ []) 2)
    ∷ case derivative (push three ∷ does prim.Pow ∷ []) (lists (does prim.Dup ∷ does prim.Mul ∷ push three ∷ does prim.Mul ∷ []) 4)
    ∷ case (run two) (does prim.Dup ∷ does prim.Mul ∷ push three ∷ does prim.Mul ∷ []) (value twelve 4 2)
    ∷ case derivative (does prim.Dup ∷ push three ∷ does prim.Pow ∷ does prim.Add ∷ []) (lists eleven 11)
    ∷ case (run two) eleven (value thirteen 11 3)
    ∷ case read (push zero64 ∷ does prim.Pow ∷ []) (sums (constant complex.zero))
    ∷ case inverse (push five ∷ does prim.Add ∷ []) (refused NotHandled 0)
    ∷ case inverse (push two ∷ does prim.Mul ∷ push five ∷ does prim.Add ∷ []) (lists (push five ∷ does prim.Sub ∷ push two ∷ does prim.Div ∷ []) 4)
    ∷ case inverse (does prim.Dup ∷ does prim.Sub ∷ does prim.Neg ∷ []) (lists (does prim.Pop ∷ push zero64 ∷ []) 2)
    ∷ case integral (does prim.Reciprocal ∷ []) (lists (does prim.Identity ∷ push euler ∷ does prim.Log ∷ []) 3)
    ∷ case read (does prim.Pop ∷ []) (refused NoOutput 0)
    ∷ case read (does prim.Dup ∷ []) (refused TooManyOutputs 0)
    ∷ case read (does prim.Flip ∷ []) (refused TooManyVariables 0)
    ∷ []

-- ---- the theorem

-- what the entries answer, and what the table says
abbrev pub results : List Case → List Shown
results [] = []
results (c ∷ cs) = shown c.entry c.given ∷ results cs

abbrev pub answers : List Case → List Shown
answers [] = []
answers (c ∷ cs) = c.answer ∷ answers cs

-- are the same, case by case
abbrev pub Cases : Type 0
Cases = results table ≡ answers table
