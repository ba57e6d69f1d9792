-- The Rust's `expr_to_node`: the list that a sum is written as. What is written continues the list so far, also in a function's argument.
use Rattle.std.specs.Prelude.{Bool, true, false, not, ◌&&◌, ◌||◌, ℕ, eqb, Float}
use Rattle.std.specs.Float.Ieee.{eq, of_bits}
use Rattle.std.specs.Float.{binary64}
use Rattle.numbers.specs.Constants.{half64, two64}
use Rattle.numbers.specs.Signs.{zero64, one64}
use Rattle.numbers.specs.declared.complex.Complex.{Complex}
use Rattle.numbers.specs.Complex.Arith as complex
use Rattle.sums.specs.Tree.Kinds as kinds
use Rattle.sums.specs.Tree.Sums.{Sum, none, and}
use Rattle.formats.specs.declared.record.Primitive.{Primitive}
use Rattle.formats.specs.declared.record.Primitive.TheVariants as prim
use Rattle.formats.specs.Names.{choose}
use Rattle.formats.specs.Tree.{Nodes, end, rec}
use Rattle.writing.specs.Draft.Writing.{push, does, append, one, two, wrapped, Written, wrote, and_then, number}

-- ---- powers of x

-- the arms of the Rust's match on a power, which are compared as numbers
pub data Form : Type 0 where
  constant root bare square power : Form

unfoldable pub form : Float → Form
form p = choose (eq p zero64) constant (choose (eq p half64) root (choose (eq p one64) bare (choose (eq p two64) square power)))

-- the constant term is x times 0 plus its coefficient; bare x needs nothing
abbrev pub write_power : Form → Float → Bool → Complex → Nodes → Written
write_power constant p flag c ns = and_then (number flag c (append ns (two (push zero64) (does prim.Mul)))) (λ ms. wrote (append ms (one (does prim.Add))))
write_power root p flag c ns = wrote (append ns (one (does prim.Sqrt)))
write_power bare p flag c ns = wrote ns
write_power square p flag c ns = wrote (append ns (two (does prim.Dup) (does prim.Mul)))
write_power power p flag c ns = wrote (append ns (two (push p) (does prim.Pow)))

-- ---- functions of a sum

-- the primitive of a function of the one argument
abbrev pub primitive_for : ℕ → Primitive
primitive_for k =
    choose (eqb k kinds.Exp) prim.Exp (choose (eqb k kinds.Sin) prim.Sin (choose (eqb k kinds.Cos) prim.Cos (choose (eqb k kinds.SinH) prim.SinH prim.CosH)))

-- 1 over the argument; where the coefficient isn't 1 it has the Rust's longer form
abbrev pub over : Bool → Nodes
over unit = choose unit (one (does prim.Reciprocal)) (rec (push one64) end (two (does prim.Flip) (does prim.Div)))

-- what follows the argument
abbrev pub function_of : ℕ → Float → Bool → Nodes
function_of k b unit = choose (eqb k kinds.Div) (over unit) (choose (eqb k kinds.Log) (two (push b) (does prim.Log)) (one (does (primitive_for k))))

-- ---- one term

abbrev pub is_bare : Form → Bool
is_bare constant = false
is_bare root = false
is_bare bare = true
is_bare square = false
is_bare power = false

abbrev pub is_constant : Form → Bool
is_constant constant = true
is_constant root = false
is_constant bare = false
is_constant square = false
is_constant power = false

-- the term, appended; `inside` writes a function's argument
abbrev pub write_term : Bool → Form → ℕ → Float → Complex → Bool → (Nodes → Written) → Nodes → Written
write_term true m k p c flag inside ns = write_power m p flag c ns
write_term false m k p c flag inside ns = and_then (inside ns) (λ ms. wrote (append ms (function_of k p (complex.same c complex.one))))

abbrev pub is_empty : Nodes → Bool
is_empty end = true
is_empty (rec r ns ms) = false

-- what stands before a term: nothing before the first; x again where only x came before; else everything so far in the body of an On
abbrev pub before : Bool → Nodes → Nodes
before true ns = ns
before false end = one (does prim.Dup)
before false (rec r ns ms) = wrapped (rec r ns ms)

abbrev pub times_coef : Bool → Bool → Complex → Nodes → Written
times_coef false flag c ns = wrote ns
times_coef true flag c ns = and_then (number flag c ns) (λ ms. wrote (append ms (one (does prim.Mul))))

abbrev pub plus : Bool → Nodes → Nodes
plus true ns = ns
plus false ns = append ns (one (does prim.Add))

-- ---- the whole sum

-- nothing may stay unwritten: x alone is Identity, and nothing at all is x times 0
abbrev pub close : Bool → Nodes → Nodes
close identity (rec r ns ms) = rec r ns ms
close true end = one (does prim.Identity)
close false end = two (push zero64) (does prim.Mul)

-- One turn of the Rust's loop. `inside` writes a function's argument, and `rest` is the turns that follow, from `identity` and the list so far.
-- A zero coefficient is passed over. `identity` says that x was met and nothing written for it.
abbrev pub turn : Bool → Bool → Form → ℕ → Float → Complex → Bool → (Nodes → Written) → (Bool → Nodes → Written) → Bool → Nodes → Written
turn true is_x m k p c flag inside rest identity ns = rest identity ns
turn false is_x m k p c flag inside rest identity ns =
    let first = not identity && is_empty ns in
    and_then (write_term is_x m k p c flag inside (before first ns)) λ ms.
    and_then (times_coef (not (complex.same c complex.one) && not (is_x && is_constant m)) flag c ms) λ ls.
    rest (identity || (is_x && is_bare m)) (plus first ls)

-- the sum, the flag, `identity`, and the list so far
unfoldable pub write : Bool → Sum → Bool → Nodes → Written
write flag none identity ns = wrote (close identity ns)
write flag (and k p i c r) identity ns =
    turn (complex.same c complex.zero) (eqb k kinds.X) (form p) k p c flag (λ ms. write flag i false ms) (λ id ms. write flag r id ms) identity ns

abbrev pub to_nodes : Bool → Sum → Written
to_nodes flag s = write flag s false end
