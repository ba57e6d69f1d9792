-- One power of x times another: it is put into nothing. Assumes nothing.
use Prim.Native.Nat.{ℕ, ◌+◌}
use mathlib.Core.Path.{◌≡◌, refl, ap, ap₂, ◌∙◌}
use native.Mathlib.Omega.{arith}
use lib.Ieee.{Float}
use Rattle.numbers.specs.Ops.{◌⊕◌}
use Rattle.numbers.specs.declared.complex.Complex.{Complex}
use Rattle.numbers.specs.Complex.Arith as complex
use Rattle.cells.specs.declared.Entry.{Entry}
use Rattle.cells.specs.Contract.Book.{Book, at}
use Rattle.sums.specs.declared.tree.Merge.TheVariants.{Add}
use Rattle.sums.specs.Tree.Kinds.{X}
use Rattle.sums.specs.Tree.Sums.{Sum, none, and, entry}
use Rattle.sums.specs.Tree.Map.{Outcome, sum, refused, and_then_sum, formed, each_into}
use Rattle.sums.specs.Contract.Lies.{Lies}
use Rattle.sums.proofs.order.Walk.{next, empty}
use Rattle.arithmetic.specs.Product.{rowable, mulable, mul_into, product}

-- nothing comes after
then-sum : (o : Outcome) → and_then_sum o sum ≡ o
then-sum (sum s) = refl
then-sum (refused e) = refl

-- what is inside the two is of no matter
pub product-put : (a b : Float) (i j : Sum) (c d : Complex) → product (and X a i c none) (and X b j d none) ≡ formed Add (entry X 0 (a ⊕ b) (complex.times c d)) none none
unfolding product mulable rowable mul_into each_into
product-put a b i j c d = let o = formed Add (entry X 0 (a ⊕ b) (complex.times c d)) none none in ap (λ (w : Outcome). and_then_sum w sum) (then-sum o) ∙ then-sum o

-- one cell that is a power of x
pub power-alone : {b : Book} {i : ℕ} {s : Sum} (x : Entry) → x ≡ at b i → Lies b i (i + 1) 4 s → x.kind ≡ X → (j : Sum) × (s ≡ and X x.num j x.coef none)
power-alone {b} {i} {s} x ex l k =
    let m = next b i (i + 1) 4 s x ex l (omega arith) in
    let rest = m.lies-rest.ends in
    (m.inner, m.is ∙ same x.kind m.inner m.rest k (empty m.rest (omega arith)))
  where
    same : (k : ℕ) (i r : Sum) → k ≡ X → r ≡ none → and k x.num i x.coef r ≡ and X x.num i x.coef none
    same k i r e h = rw (e, h) refl

pub product-of-two : {b : Book} {i j : ℕ} {s t : Sum} (x y : Entry) → x ≡ at b i → y ≡ at b j → Lies b i (i + 1) 4 s → Lies b j (j + 1) 4 t → x.kind ≡ X → y.kind ≡ X
    → product s t ≡ formed Add (entry X 0 (x.num ⊕ y.num) (complex.times x.coef y.coef)) none none
product-of-two x y ex ey ls lt kx ky =
    let p = power-alone x ex ls kx in
    let q = power-alone y ey lt ky in
    ap₂ product p.1 q.1 ∙ product-put x.num y.num p.0 q.0 x.coef y.coef
