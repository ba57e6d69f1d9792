-- A power of x times a sum whose outermost terms are all powers of x. Assumes nothing.
use Prim.Native.Nat.{ℕ, ◌+◌, ◌≤◌, ◌<◌}
use mathlib.Core.Path.{◌≡◌, refl, sym, ap, ◌∙◌}
use mathlib.Core.Bool.{true, false}
use lib.Dec.{eqb}
use lib.Ieee.{Float}
use borrow.Author.Tests.{eq-eqb, ne_eqb}
use Rattle.numbers.specs.declared.complex.Complex.{Complex}
use Rattle.cells.specs.Contract.Book.{Book, at}
use Rattle.sums.specs.Tree.Kinds.{X}
use Rattle.sums.specs.Tree.Sums.{Sum, none, and, size}
use Rattle.sums.specs.Tree.Map.{Outcome, sum, refused, and_then_sum}
use Rattle.arithmetic.specs.Product.{rowable, mulable, mul_into, product}
use Rattle.arithmetic.specs.Quotient.{x_to}
use Rattle.arithmetic.proofs.Agree.{product_is}
use Rattle.sums.specs.Contract.Lies.{Lies}
use Rattle.sums.proofs.order.Walk.{next-at, lies-none}
use Rattle.powers.specs.Divide.Contract.Dividing.{times_x}

-- nothing left
pub x-none : (p : Float) → mulable (x_to p) none ≡ true
unfolding mulable rowable
x-none p = refl

module _ (p : Float) (l : ℕ) (q : Float) (j : Sum) (d : Complex) (s : Sum) where
  -- a power of x: the rest decides
  pub x-more : eqb l X ≡ true → mulable (x_to p) (and l q j d s) ≡ mulable (x_to p) s
  unfolding mulable rowable
  x-more e = rw e

  -- another kind has no product with one
  pub x-stop : eqb l X ≡ false → mulable (x_to p) (and l q j d s) ≡ false
  unfolding mulable rowable
  x-stop e = rw e

-- nothing more to do
pub then_same : (o : Outcome) → and_then_sum o (λ s. sum s) ≡ o
then_same (sum s) = refl
then_same (refused r) = refl

-- the product, where there is one
pub x-product : (p : Float) (t : Sum) → mulable (x_to p) t ≡ true → product (x_to p) t ≡ times_x p none t
unfolding mul_into size
x-product p t e = product_is (x_to p) t e ∙ then_same (times_x p none t)

-- ---- a walk over a sum that lies in a book: t' is left of t, and decides

pub record Powers (b : Book) (q e : ℕ) (p : Float) (t : Sum) : Type 0 where
  pub t' : Sum
  pub lies : Lies b q e 4 t'
  pub same : mulable (x_to p) t ≡ mulable (x_to p) t'

module _ {b : Book} {q e : ℕ} {p : Float} {t : Sum} (w : Powers b q e p t) where
  -- the next is a power of x
  pub power-more : q < e → (at b q).kind ≡ X → Powers b (q + 1 + (at b q).inside) e p t
  power-more h k =
      let n = next-at b q e 4 w.t' w.lies h in
      record { t' = n.rest; lies = n.lies-rest; same = w.same ∙ ap (mulable (x_to p)) n.is ∙ x-more p _ _ _ _ _ (eq-eqb _ _ k) }

  -- the next is of another kind
  pub power-other : q < e → ((at b q).kind ≡ X → ⊥) → false ≡ mulable (x_to p) t
  power-other h k =
      let n = next-at b q e 4 w.t' w.lies h in
      sym (w.same ∙ ap (mulable (x_to p)) n.is ∙ x-stop p _ _ _ _ _ (ne_eqb _ _ k))

  -- nothing is left
  pub power-end : e ≤ q → true ≡ mulable (x_to p) t
  power-end h = sym (w.same ∙ ap (mulable (x_to p)) (lies-none b q e 4 w.t' w.lies h) ∙ x-none p)
