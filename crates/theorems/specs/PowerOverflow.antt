-- 18, that a power isn't finite: where it comes from, and which entries can answer it.
use Rattle.std.specs.Prelude.{ℕ, ◌≡◌, Bool, true, false, List, [], ◌∷◌, ◌↔◌, T, Float}
use Rattle.std.specs.Float.{binary64}
use Rattle.std.specs.Float.Ieee.{of_bits}
use Rattle.std.specs.Float.Ieee.Scale.{finite}
use Rattle.numbers.specs.declared.complex.Complex.{Complex}
use Rattle.cells.specs.declared.Entry as cells
use Rattle.limits.specs.Limits.{sum_levels}
use Rattle.limits.specs.declared.Refusal.TheVariants.{NotFinite, BigPower, PowerNotFinite}
use Rattle.limits.specs.Refusals.{refusal_no}
use Rattle.sums.specs.declared.tree.Merge.{Merge}
use Rattle.sums.specs.Tree.Kinds.{X, Div}
use Rattle.sums.specs.Tree.Sums.{Sum}
use Rattle.sums.specs.Tree.Good.{Good}
use Rattle.sums.specs.Tree.Map.{refused, formed, Has}
use Rattle.arithmetic.specs.Product.{product}
use Rattle.formats.specs.declared.record.Record.{Record}
use Rattle.formats.specs.declared.record.Primitive.TheVariants.{Dup, Mul, Pow}
use Rattle.writing.specs.Draft.Writing.{push, does}
use Rattle.calculus.specs.Derivative.{derive}
use Rattle.calculus.specs.Integral.{integrate}
use Rattle.algebra.specs.Replies as entry
use Rattle.algebra.specs.Replies.{Entry, Reply, Promised}
use Rattle.uplink.specs.Told.{Told, Valued}
use Rattle.theorems.specs.Cases as cases
use Rattle.theorems.specs.Cases.{Case, Shown, results, answers, bytes_of}

-- ---- where it comes from

-- an entry that is put into a sum is refused so exactly where it is a power of x and the power isn't finite
abbrev pub OfPowers : Type 0
OfPowers = (m : Merge) (x : cells.Entry) (t s : Sum) → (formed m x t s ≡ refused PowerNotFinite) ↔ ((x.kind ≡ X) × (finite x.num ≡ false))

-- one of the sum's outermost entries is a Div, and its inside multiplied by itself is refused so
pub record OfSquare (s : Sum) : Type 0 where
  pub number : Float
  pub inside : Sum
  pub coefficient : Complex
  pub has : Has Div number inside coefficient s
  pub square : product inside inside ≡ refused PowerNotFinite

-- 1 less than a finite power is finite, so a derivative is refused so only for such a square; 1 more is finite, so an integral never is
pub record OfCalculus : Type 0 where
  pub derived : (s : Sum) → Good sum_levels s → derive s ≡ refused PowerNotFinite → OfSquare s
  pub integrated : (s : Sum) → Good sum_levels s → integrate s ≡ refused PowerNotFinite → ⊥

-- ---- which entries answer it

-- those that read a list or derive
abbrev pub forms_powers : Entry → Bool
forms_powers entry.read = true
forms_powers entry.derive = true
forms_powers entry.integrate = false
forms_powers entry.derivative = true
forms_powers entry.integral = true
forms_powers entry.inverse = true
forms_powers entry.cost = false
forms_powers (entry.write c) = false
forms_powers entry.derivative_faithful = true
forms_powers entry.integral_faithful = true
forms_powers (entry.write_faithful c) = false
forms_powers (entry.run x) = false
forms_powers (entry.value x) = false

-- no other entry does, whatever its input and the output lent to it
abbrev pub OnlyThese : Type 0
OnlyThese = (e : Entry) (l out out' : List ℕ) (r : Reply) → Promised e l out out' r → r.number ≡ refusal_no PowerNotFinite → T (forms_powers e)

-- each of them does, to some input, with no output lent to it
abbrev pub EachOfThese : Type 0
EachOfThese = (e : Entry) → T (forms_powers e) → (l : List ℕ) × (r : Reply) × Promised e l [] [] r × (r.number ≡ refusal_no PowerNotFinite)

-- of the C functions: uplink_integrate, uplink_write, uplink_write_faithful, uplink_run, uplink_value and uplink_cost never return it
pub record OnlyTheseFunctions : Type 0 where
  pub tells : (e : Entry) (shown : Reply → List ℕ) (l out out' : List ℕ) (no : ℕ) (answer : List ℕ) → Told e shown l out out' no answer
      → no ≡ refusal_no PowerNotFinite → T (forms_powers e)
  pub values : (e : Entry) (shown : Reply → List ℕ) (l : List ℕ) (no : ℕ) (v : Float) (answer : List ℕ) → Valued e shown l no v answer
      → no ≡ refusal_no PowerNotFinite → T (forms_powers e)

-- ---- some lists

abbrev pub e308 : Float
e308 = of_bits binary64 0x7fe1ccf385ebc8a0

abbrev pub minus_e308 : Float
minus_e308 = of_bits binary64 0xffe1ccf385ebc8a0

abbrev e200 : Float
e200 = of_bits binary64 0x6974e718d7d7625a

abbrev ten : Float
ten = of_bits binary64 0x4024000000000000

abbrev sixty_five : Float
sixty_five = of_bits binary64 0x4050400000000000

abbrev read_as : List Record → Shown → Case
read_as rs a = record { entry = cases.read; given = bytes_of rs; answer = a }

-- a power that overflows; one at an entry whose coefficient overflows too; a coefficient that overflows; and 16, which is asked before any entry is formed
unfoldable pub table : List Case
table =
    read_as (push minus_e308 ∷ does Pow ∷ does Dup ∷ does Mul ∷ []) (cases.refused PowerNotFinite 3)
    ∷ read_as (push minus_e308 ∷ does Pow ∷ push e200 ∷ does Mul ∷ does Dup ∷ does Mul ∷ []) (cases.refused PowerNotFinite 5)
    ∷ read_as (push e308 ∷ does Mul ∷ push ten ∷ does Mul ∷ []) (cases.refused NotFinite 3)
    ∷ read_as (push minus_e308 ∷ does Pow ∷ push sixty_five ∷ does Pow ∷ []) (cases.refused BigPower 3)
    ∷ []

abbrev pub Examples : Type 0
Examples = results table ≡ answers table
