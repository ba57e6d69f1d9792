-- Sums written, computed: document 01's forms, and where the Rust's list means something else than its sum. Assumes nothing.
use Prim.Native.Nat.{ℕ}
use mathlib.Core.Path.{◌≡◌, refl}
use mathlib.Core.Bool.{true, false}
use lib.Ieee.{Float, binary64, of_bits, eq, lt}
use Rattle.numbers.specs.Constants.{half64, two64}
use Rattle.numbers.specs.Numbers.{below_epsilon}
use Rattle.numbers.specs.Signs.{zero64, one64}
use Rattle.numbers.specs.declared.complex.Complex.{Complex}
use Rattle.numbers.specs.Complex.Arith as complex
use Rattle.limits.specs.declared.Refusal.TheVariants.{NotFinite}
use Rattle.sums.specs.Tree.Kinds as kinds
use Rattle.sums.specs.Tree.Sums.{Sum, none, and}
use Rattle.formats.specs.declared.record.Primitive.TheVariants as prim
use Rattle.formats.specs.Tree.{end, rec, size}
use Rattle.writing.specs.Draft.Writing.{push, push_pair, does, on, body, append, one, two, wrote, refused}
use Rattle.writing.specs.ToNodes.{form, write, to_nodes}

abbrev three64 : Float
three64 = of_bits binary64 0x4008000000000000

-- c times x to the p, before the rest
abbrev x-to : Float → Complex → Sum → Sum
x-to p c r = and kinds.X p none c r

abbrev x : Sum
x = x-to one64 complex.one none

-- f(s), before the rest
abbrev of : ℕ → Sum → Complex → Sum → Sum
of k s c r = and k zero64 s c r

-- no terms that aren't zero; x; the constant 3; 3 times x²; √x; 1 over x + 1, and 3 times that
pub forms :
    (to_nodes false (x-to two64 complex.zero none) ≡ wrote (two (push zero64) (does prim.Mul)))
    × (to_nodes false x ≡ wrote (one (does prim.Identity)))
    × (to_nodes false (x-to zero64 (complex.real three64) none) ≡ wrote (rec (push zero64) end (rec (does prim.Mul) end (two (push three64) (does prim.Add)))))
    × (to_nodes false (x-to two64 (complex.real three64) none) ≡ wrote (rec (does prim.Dup) end (rec (does prim.Mul) end (two (push three64) (does prim.Mul)))))
    × (to_nodes true (x-to half64 (complex.real three64) none) ≡ wrote (rec (does prim.Sqrt) end (two (push_pair (complex.real three64)) (does prim.Mul))))
    × (to_nodes false (of kinds.Div x complex.one none) ≡ wrote (two (does prim.Identity) (does prim.Reciprocal)))
    × (to_nodes false (of kinds.Div x (complex.real three64) none) ≡ wrote
    (rec (does prim.Identity) end (rec (push one64) end (rec (does prim.Flip) end (rec (does prim.Div) end (two (push three64) (does prim.Mul)))))))
unfolding write form append eq lt of_bits below_epsilon
forms = (refl, refl, refl, refl, refl, refl, refl)

-- a number that isn't real can be written as a pair, and not as a real number
pub not-real :
    (to_nodes false (x-to one64 complex.imaginary none) ≡ refused NotFinite)
    × (to_nodes true (x-to one64 complex.imaginary none) ≡ wrote (two (push_pair complex.imaginary) (does prim.Mul)))
unfolding write form append eq lt of_bits below_epsilon
not-real = (refl, refl)

-- 1 + cos x is written as 1 + cos (x + x): the argument continues from what was written, so x in it isn't the first term, and is added to x. x + sin (0·x) is written as x + sin x: a zero
-- argument writes nothing.
pub argument-gains-x :
    (to_nodes false (x-to zero64 complex.one (of kinds.Cos x complex.one none))
    ≡ wrote
    (rec (on 7)
    (rec (body 6) (rec (on 5) (rec (body 4) (rec (push zero64) end (rec (does prim.Mul) end (two (push one64) (does prim.Add)))) end) end) end)
    (rec (does prim.Add) end (two (does prim.Cos) (does prim.Add)))))
    × (to_nodes false (x-to one64 complex.one (of kinds.Sin (x-to one64 complex.zero none) complex.one none)) ≡ wrote (rec (does prim.Dup) end (two (does prim.Sin) (does prim.Add))))
unfolding write form append size eq lt of_bits below_epsilon
argument-gains-x = (refl, refl)
