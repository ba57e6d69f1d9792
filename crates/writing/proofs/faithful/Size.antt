-- How many records the second writer writes at most: ten for each entry, and two. Assumes nothing.
use Prim.Native.Nat.{ℕ, ◌+◌, ◌*◌, ◌≤◌}
use native.Mathlib.Omega.{arith}
use mathlib.Core.Path.{◌≡◌, subst}
use mathlib.Core.Bool.{Bool, true, false, not, ◌&&◌, ◌||◌}
use lib.Dec.{eqb}
use lib.Ieee.{Float}
use Rattle.numbers.specs.Signs.{zero64, one64}
use Rattle.numbers.specs.declared.complex.Complex.{Complex}
use Rattle.numbers.specs.Complex.Arith as complex
use Rattle.sums.specs.Tree.Kinds as kinds
use Rattle.sums.specs.Tree.Sums as sums
use Rattle.sums.specs.Tree.Sums.{Sum, none, and}
use Rattle.formats.specs.declared.record.Record.{Record}
use Rattle.formats.specs.declared.record.Primitive.TheVariants as prim
use Rattle.formats.specs.Names.{choose}
use Rattle.formats.specs.Tree.{Nodes, end, rec, size}
use Rattle.writing.specs.Draft.Writing.{push, does, append, one, two, Written, wrote, refused, and_then, number, number_record, can_write, if_can}
use Rattle.writing.specs.ToNodes.{Form, constant, root, bare, square, power, form, is_bare, is_constant, is_empty, primitive_for, over, function_of, before, write_power, write_term, times_coef, plus, close, turn}
use Rattle.writing.specs.Faithful.{behind, write_faithful}
use Rattle.writing.proofs.draft.Laws.{size-append, size-said, size-wrapped}

-- a list is written that has at most n records, or none is
abbrev Within : ℕ → Written → Type 0
Within n (wrote ns) = size ns ≤ n
Within n (refused q) = Unit {0}

then-within : (w : Written) (f : Nodes → Written) (a b : ℕ) → Within a w → ((ns : Nodes) → size ns ≤ a → Within b (f ns)) → Within b (and_then w f)
then-within (wrote ns) f a b h k = k ns h
then-within (refused q) f a b h k = tt

more_within : (w : Written) (a b : ℕ) → Within a w → a ≤ b → Within b w
more_within (wrote ns) a b h l = omega arith
more_within (refused q) a b h l = tt

number-within : (flag : Bool) (c : Complex) (ns : Nodes) → Within (size ns + 1) (number flag c ns)
number-within flag c ns = go (can_write flag c)
  where
    go : (b : Bool) → Within (size ns + 1) (if_can b (wrote (append ns (one (number_record flag c)))))
    go true = omega (arith, size-said ns (number_record flag c))
    go false = tt

two-more : (ns : Nodes) (r q : Record) → size (append ns (two r q)) ≡ size ns + 2
unfolding size
two-more ns r q = size-append ns (two r q)

three-more : (ns : Nodes) (r q p : Record) → size (append ns (rec r end (two q p))) ≡ size ns + 3
unfolding size
three-more ns r q p = size-append ns (rec r end (two q p))

power-within : (m : Form) (p : Float) (flag : Bool) (c : Complex) (ns : Nodes) → Within (size ns + 4) (write_power m p flag c ns)
power-within constant p flag c ns =
    let ms = append ns (two (push zero64) (does prim.Mul)) in
    let h = two-more ns (push zero64) (does prim.Mul) in
    then-within (number flag c ms) (λ ls. wrote (append ls (one (does prim.Add)))) (size ms + 1) (size ns + 4) (number-within flag c ms) (λ ls l. omega (arith, size-said ls (does prim.Add)))
power-within root p flag c ns = omega (arith, size-said ns (does prim.Sqrt))
power-within bare p flag c ns = omega arith
power-within square p flag c ns = omega (arith, two-more ns (does prim.Dup) (does prim.Mul))
power-within power p flag c ns = omega (arith, two-more ns (push p) (does prim.Pow))

choose-within : (b : Bool) (n : ℕ) (xs ys ns : Nodes) → size (append ns xs) ≤ n → size (append ns ys) ≤ n → size (append ns (choose b xs ys)) ≤ n
choose-within true n xs ys ns h k = h
choose-within false n xs ys ns h k = k

function-within : (k : ℕ) (p : Float) (unit : Bool) (ns : Nodes) → size (append ns (function_of k p unit)) ≤ size ns + 3
function-within k p unit ns =
    choose-within (eqb k kinds.Div) (size ns + 3) (over unit) (choose (eqb k kinds.Log) (two (push p) (does prim.Log)) (one (does (primitive_for k)))) ns
    (choose-within unit (size ns + 3) (one (does prim.Reciprocal)) (rec (push one64) end (two (does prim.Flip) (does prim.Div))) ns (omega (arith, size-said ns (does prim.Reciprocal)))
    (omega (arith, three-more ns (push one64) (does prim.Flip) (does prim.Div))))
    (choose-within (eqb k kinds.Log) (size ns + 3) (two (push p) (does prim.Log)) (one (does (primitive_for k))) ns (omega (arith, two-more ns (push p) (does prim.Log)))
    (omega (arith, size-said ns (does (primitive_for k)))))

before-within : (first : Bool) (ns : Nodes) → size (before first ns) ≤ size ns + 2
unfolding size
before-within true ns = omega arith
before-within false end = omega arith
before-within false (rec r ns ms) = omega (arith, size-wrapped (rec r ns ms))

times-within : (b flag : Bool) (c : Complex) (ns : Nodes) → Within (size ns + 2) (times_coef b flag c ns)
times-within false flag c ns = omega arith
times-within true flag c ns = then-within (number flag c ns) (λ ms. wrote (append ms (one (does prim.Mul)))) (size ns + 1) (size ns + 2) (number-within flag c ns)
    (λ ms l. omega (arith, size-said ms (does prim.Mul)))

plus-within : (first : Bool) (ns : Nodes) → size (plus first ns) ≤ size ns + 1
plus-within true ns = omega arith
plus-within false ns = omega (arith, size-said ns (does prim.Add))

close-within : (id : Bool) (ns : Nodes) → size (close id ns) ≤ size ns + 2
unfolding size
close-within true end = omega arith
close-within false end = omega arith
close-within id (rec r ns ms) = omega arith

module _ (i : ℕ) (some : 1 ≤ i) where
  term-within : (is_x : Bool) (m : Form) (k : ℕ) (p : Float) (c : Complex) (flag : Bool) (inside : Nodes → Written) (ns : Nodes) → ((ms : Nodes) → Within (size ms + i) (inside ms))
      → Within (size ns + (i + 3)) (write_term is_x m k p c flag inside ns)
  term-within true m k p c flag inside ns h = more_within (write_power m p flag c ns) (size ns + 4) (size ns + (i + 3)) (power-within m p flag c ns) (omega arith)
  term-within false m k p c flag inside ns h =
      let unit = complex.same c complex.one in
      then-within (inside ns) (λ ms. wrote (append ms (function_of k p unit))) (size ns + i) (size ns + (i + 3)) (h ns) (λ ms l. omega (arith, function-within k p unit ms))

  turn-within : (r : ℕ) (zero is_x : Bool) (m : Form) (k : ℕ) (p : Float) (c : Complex) (flag : Bool) (inside : Nodes → Written) (rest : Bool → Nodes → Written) (identity : Bool) (ns : Nodes)
      → ((ms : Nodes) → Within (size ms + i) (inside ms)) → ((id : Bool) (ms : Nodes) → Within (size ms + r) (rest id ms))
      → Within (size ns + (i + 8) + r) (turn zero is_x m k p c flag inside rest identity ns)
  turn-within r true is_x m k p c flag inside rest identity ns h g = more_within (rest identity ns) (size ns + r) (size ns + (i + 8) + r) (g identity ns) (omega arith)
  turn-within r false is_x m k p c flag inside rest identity ns h g =
      let first = not identity && is_empty ns in
      let times = not (complex.same c complex.one) && not (is_x && is_constant m) in
      let id = identity || (is_x && is_bare m) in
      let most = size ns + (i + 8) + r in
      let next : Nodes → Written = λ ls. rest id (plus first ls) in
      let b = before-within first ns in
      then-within (write_term is_x m k p c flag inside (before first ns)) (λ ms. and_then (times_coef times flag c ms) next) (size (before first ns) + (i + 3)) most
      (term-within is_x m k p c flag inside (before first ns) h)
      (λ ms l. then-within (times_coef times flag c ms) next (size ms + 2) most (times-within times flag c ms)
      (λ ls q. more_within (rest id (plus first ls)) (size (plus first ls) + r) most (g id (plus first ls)) (omega (arith, plus-within first ls))))

behind-within : (w : Written) (n : ℕ) → Within n w → (ms : Nodes) → Within (size ms + n) (behind w ms)
behind-within (wrote ls) n h ms = omega (arith, size-append ms ls)
behind-within (refused q) n h ms = tt

faithful-within : (flag : Bool) (s : Sum) (identity : Bool) (ns : Nodes) → Within (size ns + (10 * sums.size s + 2)) (write_faithful flag s identity ns)
unfolding write_faithful sums.size size
faithful-within flag none identity ns = omega (arith, close-within identity ns)
faithful-within flag (and k p i c r) identity ns =
    let inner = 10 * sums.size i + 2 in
    let rest = 10 * sums.size r + 2 in
    let w = turn (complex.same c complex.zero) (eqb k kinds.X) (form p) k p c flag (λ ms. behind (write_faithful flag i false end) ms) (λ id ms. write_faithful flag r id ms) identity ns in
    more_within w (size ns + (inner + 8) + rest) (size ns + (10 * sums.size (and k p i c r) + 2))
    (turn-within inner (omega arith) rest (complex.same c complex.zero) (eqb k kinds.X) (form p) k p c flag (λ ms. behind (write_faithful flag i false end) ms) (λ id ms. write_faithful flag r id ms)
    identity ns (λ ms. let w = write_faithful flag i false end in behind-within w inner (more_within w (size end + inner) inner (faithful-within flag i false end) (omega arith)) ms)
    (λ id ms. faithful-within flag r id ms))
    (omega arith)

-- a whole sum
pub size-within : (flag : Bool) (s : Sum) (ns : Nodes) → write_faithful flag s false end ≡ wrote ns → size ns ≤ 10 * sums.size s + 2
unfolding size
size-within flag s ns e = let h : Within (size end + (10 * sums.size s + 2)) (wrote ns) = subst (Within (size end + (10 * sums.size s + 2))) e (faithful-within flag s false end) in omega arith
