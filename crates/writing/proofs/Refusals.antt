-- Which refusal writing a sum can meet: 15, of a number that can't be written, and no other. Assumes nothing.
use Prim.Native.Nat.{ℕ}
use mathlib.Core.Path.{◌≡◌, refl, subst}
use mathlib.Core.Bool.{Bool, true, false, not, ◌&&◌, ◌||◌}
use lib.Dec.{eqb}
use lib.Ieee.{Float}
use Rattle.numbers.specs.Signs.{zero64}
use Rattle.numbers.specs.declared.complex.Complex.{Complex}
use Rattle.numbers.specs.Complex.Arith as complex
use Rattle.limits.specs.declared.Refusal.{Refusal}
use Rattle.limits.specs.declared.Refusal.TheVariants.{NotFinite}
use Rattle.sums.specs.Tree.Kinds as kinds
use Rattle.sums.specs.Tree.Sums.{Sum, none, and}
use Rattle.formats.specs.declared.record.Primitive.TheVariants as prim
use Rattle.formats.specs.Tree.{Nodes, end}
use Rattle.writing.specs.Draft.Writing.{push, does, append, one, two, Written, wrote, refused, and_then, number, number_record, can_write, if_can}
use Rattle.writing.specs.ToNodes.{Form, constant, root, bare, square, power, form, is_bare, is_constant, is_empty, function_of, before, write_power, write_term, times_coef, plus, turn, write, to_nodes}

-- a list is written, or the refusal is 15
abbrev Only15 : Written → Type 0
Only15 (wrote ns) = Unit {0}
Only15 (refused q) = q ≡ NotFinite

then-15 : (w : Written) (f : Nodes → Written) → Only15 w → ((ns : Nodes) → Only15 (f ns)) → Only15 (and_then w f)
then-15 (wrote ns) f p k = k ns
then-15 (refused q) f p k = p

number-15 : (flag : Bool) (c : Complex) (ns : Nodes) → Only15 (number flag c ns)
number-15 flag c ns = go (can_write flag c)
  where
    go : (b : Bool) → Only15 (if_can b (wrote (append ns (one (number_record flag c)))))
    go true = tt
    go false = refl

power-15 : (m : Form) (p : Float) (flag : Bool) (c : Complex) (ns : Nodes) → Only15 (write_power m p flag c ns)
power-15 constant p flag c ns =
    let ms = append ns (two (push zero64) (does prim.Mul)) in
    then-15 (number flag c ms) (λ ls. wrote (append ls (one (does prim.Add)))) (number-15 flag c ms) (λ ls. tt)
power-15 root p flag c ns = tt
power-15 bare p flag c ns = tt
power-15 square p flag c ns = tt
power-15 power p flag c ns = tt

term-15 : (is_x : Bool) (m : Form) (k : ℕ) (p : Float) (c : Complex) (flag : Bool) (inside : Nodes → Written) (ns : Nodes) → ((ms : Nodes) → Only15 (inside ms))
    → Only15 (write_term is_x m k p c flag inside ns)
term-15 true m k p c flag inside ns i = power-15 m p flag c ns
term-15 false m k p c flag inside ns i = then-15 (inside ns) (λ ms. wrote (append ms (function_of k p (complex.same c complex.one)))) (i ns) (λ ms. tt)

times-15 : (b flag : Bool) (c : Complex) (ns : Nodes) → Only15 (times_coef b flag c ns)
times-15 false flag c ns = tt
times-15 true flag c ns = then-15 (number flag c ns) (λ ms. wrote (append ms (one (does prim.Mul)))) (number-15 flag c ns) (λ ms. tt)

turn-15 : (zero is_x : Bool) (m : Form) (k : ℕ) (p : Float) (c : Complex) (flag : Bool) (inside : Nodes → Written) (rest : Bool → Nodes → Written) (identity : Bool) (ns : Nodes)
    → ((ms : Nodes) → Only15 (inside ms)) → ((id : Bool) (ms : Nodes) → Only15 (rest id ms)) → Only15 (turn zero is_x m k p c flag inside rest identity ns)
turn-15 true is_x m k p c flag inside rest identity ns i r = r identity ns
turn-15 false is_x m k p c flag inside rest identity ns i r =
    let first = not identity && is_empty ns in
    let times = not (complex.same c complex.one) && not (is_x && is_constant m) in
    let next : Nodes → Written = λ ls. rest (identity || (is_x && is_bare m)) (plus first ls) in
    then-15 (write_term is_x m k p c flag inside (before first ns)) (λ ms. and_then (times_coef times flag c ms) next) (term-15 is_x m k p c flag inside (before first ns) i)
    (λ ms. then-15 (times_coef times flag c ms) next (times-15 times flag c ms) (λ ls. r (identity || (is_x && is_bare m)) (plus first ls)))

write-15 : (flag : Bool) (s : Sum) (identity : Bool) (ns : Nodes) → Only15 (write flag s identity ns)
unfolding write
write-15 flag none identity ns = tt
write-15 flag (and k p i c r) identity ns =
    turn-15 (complex.same c complex.zero) (eqb k kinds.X) (form p) k p c flag (λ ms. write flag i false ms) (λ id ms. write flag r id ms) identity ns
    (λ ms. write-15 flag i false ms) (λ id ms. write-15 flag r id ms)

pub only-15 : (flag : Bool) (s : Sum) (q : Refusal) → to_nodes flag s ≡ refused q → q ≡ NotFinite
only-15 flag s q h = subst Only15 h (write-15 flag s false end)
