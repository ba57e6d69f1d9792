-- Sums of nothing but powers of x, multiplied row by row: there always is a product, and only powers come of it. Assumes nothing.
use Prim.Native.Nat.{ℕ, ◌+◌, ◌≤◌, ◌<◌}
use native.Mathlib.Omega.{arith}
use mathlib.Core.Path.{◌≡◌, refl, sym, ap, subst, ◌∙◌}
use mathlib.Core.Logic.{inl, inr}
use mathlib.Core.Bool.{Bool, true, cond}
use lib.Ieee.{Float}
use borrow.Author.Tests.{eqb-true, eq-eqb}
use Rattle.numbers.specs.Ops.{◌⊕◌}
use Rattle.numbers.specs.Signs.{zero64}
use Rattle.numbers.specs.declared.complex.Complex.{Complex}
use Rattle.numbers.specs.Complex.Arith as complex
use Rattle.cells.specs.declared.Entry.{Entry}
use Rattle.cells.specs.Contract.Book.{Book, Cell, at}
use Rattle.cells.specs.Contract.Moves.{Apart, Kept}
use Rattle.sums.specs.declared.tree.Merge.TheVariants.{Add}
use Rattle.std.specs.Prelude.{Result, Ok}
use Rattle.limits.specs.declared.Refusal.{Refusal}
use Rattle.sums.specs.Tree.Kinds.{X, Div}
use Rattle.sums.specs.Tree.Sums.{Sum, none, and, size, entry}
use Rattle.sums.specs.Tree.Map.{Outcome, and_then_sum, formed, each_into}
use Rattle.sums.specs.Contract.Lies.{Lies, Held, OfOne, Agrees}
use Rattle.sums.specs.Contract.Place.{powers, OnlyPowers}
use Rattle.sums.proofs.order.Walk.{Next}
use Rattle.sums.proofs.order.Powers.{no-inside, whole-first, formed-whole, lies_whole, whole-lies}
use Rattle.arithmetic.specs.Product.{rowable, mulable, mul_term, product}
use Rattle.arithmetic.specs.Multiply.Contract.Rows.{power_into}
use Rattle.arithmetic.proofs.add.Lying.{Clear, clear, agreed-done}
use Rattle.arithmetic.proofs.multiply.Laws.{row_of, mul-each, product-able}

-- ---- cells that are powers

-- what lies apart from the cells that may have changed still is of powers alone
pub only_kept : {b b' : Book} {i e lo hi : ℕ} → Kept b b' lo hi → Clear i e lo hi → OnlyPowers b.kinds i e → OnlyPowers b'.kinds i e
only_kept k (inl u) h j low high = ap (λ (c : Cell). c.kind) (k.below j (omega arith)) ∙ h j low high
only_kept k (inr u) h j low high = ap (λ (c : Cell). c.kind) (k.above j (omega arith)) ∙ h j low high

-- and what was read there is a power
pub power-read : (b b' : Book) {i n p : ℕ} (q : ℕ) (y : Entry) → Kept b b' p (p + 64) → Apart i n p (p + 64) → OnlyPowers b.kinds i (i + n) → y ≡ at b' q → i ≤ q → q < i + n → y.kind ≡ X
power-read b b' q y k apart only is low high = ap (λ (u : Entry). u.kind) is ∙ only_kept {b = b} {b' = b'} k (clear apart) only q low high

-- a power is one cell
pub power-cell : {b : Book} {k e left : ℕ} {s : Sum} {x : Entry} → Next b k e left s x → x.kind ≡ X → x.inside ≡ 0
unfolding size
power-cell n e = n.inside ∙ ap size (no-inside n.first.entry-good e)

-- the powers of a sum that has nothing else end where it does
pub end_known : {b : Book} (p n : ℕ) → OnlyPowers b.kinds p (p + n) → OfOne b p (p + n) 4 (λ s. p + n ≡ p + powers s)
end_known p n only s l = let ends = l.ends in let all = lies_whole l only in omega arith

-- a power was put into such a sum
pub put_only : {b : Book} (p n : ℕ) (num : Float) (c : Complex) (b' : Book) (r : Result ℕ Refusal) (k : ℕ) → Held b p (p + n) 4 → OnlyPowers b.kinds p (p + n)
    → OfOne b p (p + n) 4 (λ s. Agrees r b' p (formed Add (entry X 0 num c) none s)) → r ≡ Ok k → OnlyPowers b'.kinds p (p + k)
put_only p n num c b' r k h only call e =
    let a = agreed-done b' p k r (formed Add (entry X 0 num c) none h.0) (call h.0 h.1) e in
    whole-lies a.lies (formed-whole Add num c h.0 a.s a.is (lies_whole h.1 only))

-- ---- products

-- a row of powers
pub row-powers : (x : Entry) (f : Sum → Outcome) (s b : Sum) → x.kind ≡ X → each_into (power_into x) s b ≡ each_into (mul_term x f) s b
row-powers x f s b k =
    ap
    (λ (is : Bool).
    each_into
    (λ y v u.
    cond is (formed Add (entry X 0 (x.num ⊕ y.num) (complex.times x.coef y.coef)) none u)
    (and_then_sum (f v) (λ w. formed Add (entry Div (size w) zero64 (complex.times x.coef y.coef)) w u)))
    s b)
    (sym (eq-eqb x.kind X k))

row-able : (f : Sum → Bool) (b : Sum) → powers b ≡ size b → rowable X f b ≡ true
unfolding rowable powers size
row-able f none h = refl
row-able f (and l q j d r) h = let w = whole-first l j r h in rw (eqb-true l X w.power) (row-able f r w.rest)

-- two such sums have a product
pub mul-able : (a b : Sum) → powers a ≡ size a → powers b ≡ size b → mulable a b ≡ true
unfolding mulable powers size
mul-able none b g h = refl
mul-able (and k p i c r) b g h = let w = whole-first k i r g in rw (eqb-true k X w.power, row-able (mulable i) b h) (mul-able r b w.rest h)

-- their rows, one by one, are their product
pub rows-product : {g : Book} (i n j m : ℕ) {s v : Sum} (b : Book) (p : ℕ) (r : Result ℕ Refusal) → Lies g i (i + n) 4 s → Lies g j (j + m) 4 v
    → OnlyPowers g.kinds i (i + n) → OnlyPowers g.kinds j (j + m) → Agrees r b p (each_into (row_of v) none s) → Agrees r b p (product s v)
rows-product i n j m {s} {v} b p r ls lv os ov a =
    product-able b p s v r (mul-able s v (lies_whole ls os) (lies_whole lv ov)) (subst (λ (o : Outcome). Agrees r b p o) (sym (mul-each s v none)) a)
