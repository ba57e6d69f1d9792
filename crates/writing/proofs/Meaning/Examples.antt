-- Sums as the second writer writes them, and what these lists mean, computed. Assumes nothing.
use Prim.Native.Nat.{ℕ}
use mathlib.Core.Path.{◌≡◌, refl}
use mathlib.Core.Bool.{true, false}
use mathlib.Core.List.{[], ◌∷◌}
use lib.Ieee.{Float, of_bits, eq, lt}
use Rattle.numbers.specs.Constants.{two64}
use Rattle.numbers.specs.Numbers.{below_epsilon}
use Rattle.numbers.specs.Signs.{zero64, one64}
use Rattle.numbers.specs.declared.complex.Complex.{Complex}
use Rattle.numbers.specs.Complex.Arith as complex
use Rattle.limits.specs.declared.Refusal.TheVariants.{NotFinite}
use Rattle.sums.specs.Tree.Kinds as kinds
use Rattle.sums.specs.Tree.Sums.{Sum, none, and}
use Rattle.formats.specs.declared.record.Primitive.TheVariants as prim
use Rattle.formats.specs.Names.{kind_of, primitive_of}
use Rattle.formats.specs.Tree.{Nodes, end, rec, size, count}
use Rattle.writing.specs.Draft.Writing.{push, push_pair, does, on, body, append, two, wrote, refused}
use Rattle.writing.specs.ToNodes.{form, write, to_nodes}
use Rattle.writing.specs.Faithful.{write_faithful, faithful}
use Rattle.writing.specs.Meaning.{Term, x, unary, binary, some, runs, numeral, add_to, terms, meaning}

-- c times x to the p, before the rest; c times x; f(s)
abbrev x-to : Float → Complex → Sum → Sum
x-to p c r = and kinds.X p none c r

abbrev times-x : Complex → Sum
times-x c = x-to one64 c none

abbrev of : ℕ → Sum → Sum
of k s = and k zero64 s complex.one none

-- ns, of which there are n, in the body of an On, before ms
abbrev on-body : ℕ → ℕ → Nodes → Nodes → Nodes
on-body m n ns ms = rec (on m) (rec (body n) ns end) ms

-- the sum is written as this list, and says this, which the list, run, leaves
pub record Shows (s : Sum) (ns : Nodes) (t : Term) : Type 0 where
  pub written : faithful false s ≡ wrote ns
  pub means : meaning false s ≡ t
  pub leaves : runs ns (x ∷ []) ≡ some (t ∷ [])

-- 2x + cos x, the derivative of x² + sin x
pub derived :
    Shows (x-to one64 (complex.real two64) (of kinds.Cos (times-x complex.one))) (on-body 3 2 (two (push two64) (does prim.Mul)) (rec (does prim.Identity) end (two (does prim.Cos) (does prim.Add))))
    (binary prim.Add (binary prim.Mul x (numeral two64)) (unary prim.Cos x))
unfolding write_faithful form append size eq lt of_bits below_epsilon terms add_to runs kind_of primitive_of count
derived = record { written = refl; means = refl; leaves = refl }

-- the Rust's list of it means 2x + cos (x + x), since its argument continues from what was written
abbrev continued : Nodes
continued = on-body 5 4 (on-body 3 2 (two (push two64) (does prim.Mul)) end) (rec (does prim.Add) end (two (does prim.Cos) (does prim.Add)))

pub derived-by-rust :
    (to_nodes false (x-to one64 (complex.real two64) (of kinds.Cos (times-x complex.one))) ≡ wrote continued)
    × (runs continued (x ∷ []) ≡ some (binary prim.Add (binary prim.Mul x (numeral two64)) (unary prim.Cos (binary prim.Add x x)) ∷ []))
unfolding write form append size eq lt of_bits below_epsilon runs kind_of primitive_of count
derived-by-rust = (refl, refl)

-- x² + sin (0·x): an argument of zeros is x times 0
pub of-zeros :
    Shows (x-to two64 complex.one (of kinds.Sin (times-x complex.zero)))
    (on-body 3 2 (two (does prim.Dup) (does prim.Mul)) (rec (push zero64) end (rec (does prim.Mul) end (two (does prim.Sin) (does prim.Add)))))
    (binary prim.Add (binary prim.Mul x x) (unary prim.Sin (binary prim.Mul x (numeral zero64))))
unfolding write_faithful form append size eq lt of_bits below_epsilon terms add_to runs kind_of primitive_of count
of-zeros = record { written = refl; means = refl; leaves = refl }

-- x + sin x
pub after-x :
    Shows (x-to one64 complex.one (of kinds.Sin (times-x complex.one))) (rec (does prim.Dup) end (rec (does prim.Identity) end (two (does prim.Sin) (does prim.Add))))
    (binary prim.Add x (unary prim.Sin x))
unfolding write_faithful form append size eq lt of_bits below_epsilon terms add_to runs kind_of primitive_of count
after-x = record { written = refl; means = refl; leaves = refl }

-- x + x² + 2/x: added from the left, and the coefficient outside the function
pub three-terms :
    Shows (x-to one64 complex.one (x-to two64 complex.one (and kinds.Div zero64 (times-x complex.one) (complex.real two64) none)))
    (on-body 5 4 (rec (does prim.Dup) end (rec (does prim.Dup) end (two (does prim.Mul) (does prim.Add))))
    (rec (does prim.Identity) end
    (rec (push one64) end (rec (does prim.Flip) end (rec (does prim.Div) end (rec (push two64) end (two (does prim.Mul) (does prim.Add))))))))
    (binary prim.Add (binary prim.Add x (binary prim.Mul x x)) (binary prim.Mul (binary prim.Div (numeral one64) x) (numeral two64)))
unfolding write_faithful form append size eq lt of_bits below_epsilon terms add_to runs kind_of primitive_of count
three-terms = record { written = refl; means = refl; leaves = refl }

-- sin (i·x): a number in an argument that isn't real is refused, or written as a pair
pub not-real-inside :
    (faithful false (of kinds.Sin (times-x complex.imaginary)) ≡ refused NotFinite)
    × (faithful true (of kinds.Sin (times-x complex.imaginary)) ≡ wrote (rec (push_pair complex.imaginary) end (two (does prim.Mul) (does prim.Sin))))
unfolding write_faithful form append eq lt of_bits below_epsilon
not-real-inside = (refl, refl)
