-- A flat sum has as many outermost entries as entries, so nothing lies inside any. Its products are flat. Assumes nothing.
use native.Mathlib.Omega.{arith}
use borrow.Author.Tests.{eq-eqb}
use mathlib.Core.Path.{◌≡◌, refl, sym, subst, ◌∙◌}
use mathlib.Core.Bool.{true}
use lib.Dec.{eqb}
use Rattle.std.specs.declared.cmp.Ordering.{Ordering}
use Rattle.std.specs.declared.cmp.Ordering.TheVariants.{Less, Equal, Greater}
use Rattle.numbers.specs.Complex.Arith as complex
use Rattle.numbers.specs.Ops.{◌⊕◌}
use Rattle.cells.specs.declared.Entry.{Entry}
use Rattle.limits.specs.declared.Refusal.TheVariants.{TooComplex}
use Rattle.sums.specs.declared.tree.Merge.{Merge}
use Rattle.sums.specs.declared.tree.Merge.TheVariants.{Add}
use Rattle.sums.specs.Tree.Kinds.{X}
use Rattle.sums.specs.Tree.Sums.{Sum, none, and, size, len, entry}
use Rattle.sums.specs.Tree.Order.{cmp_term}
use Rattle.sums.specs.Tree.Good.{Good}
use Rattle.sums.specs.Tree.Map.{put_in, Outcome, sum, each_into}
use Rattle.sums.proofs.tree.Keeps.{put_by, formed-sum}
use Rattle.arithmetic.specs.Product.{mulable, mul_term, mul_into, product}
use Rattle.arithmetic.proofs.Agree.{empty-size}
use Rattle.arithmetic.proofs.Pairs.{len-most}
use Rattle.arithmetic.proofs.Steps.{sum_is, then-sum, unless-sum}

abbrev pub Flat : Sum → Type 0
Flat s = len s ≡ size s

-- a term without an inside, put in
put-flat : (m : Merge) (x : Entry) (s : Sum) → Flat s → Flat (put_in m x none s)
unfolding put_in size len
put-flat m x none h = refl
put-flat m x (and l q j d r) h = go (cmp_term x none (entry l (size j) q d) j) (put-flat m x r (omega (arith, len-most r)))
  where
    go : (o : Ordering) → Flat (put_in m x none r) → Flat (put_by m x none l q j d r o)
    go Less f = omega arith
    go Equal f = omega arith
    go Greater f = omega (arith, len-most r)

-- an X with any term
term-flat : (x : Entry) (f : Sum → Outcome) → eqb x.kind X ≡ true → (y : Entry) (v s r : Sum) → Flat s → mul_term x f y v s ≡ sum r → Flat r
term-flat x f e y v s r h o =
    let z = entry X 0 (x.num ⊕ y.num) (complex.times x.coef y.coef) in subst Flat (sym (formed-sum Add z none s r (rw e at o)).is) (put-flat Add z s h)

-- an X with each of b
row-flat : (x : Entry) (f : Sum → Outcome) → eqb x.kind X ≡ true → (b s r : Sum) → Flat s → each_into (mul_term x f) s b ≡ sum r → Flat r
unfolding each_into
row-flat x f e none s r h o = subst Flat (sum_is o) h
row-flat x f e (and l q j d b) s r h o =
    let y = entry l (size j) q d in
    let w = then-sum (mul_term x f y j s) (λ u. each_into (mul_term x f) u b) r o in
    row-flat x f e b w.0 r (term-flat x f e y j s w.0 h w.1) w.2

-- each term of a flat sum with each of b
into-flat : (a b s r : Sum) → Good 4 a → Flat a → Flat s → mul_into a b s ≡ sum r → Flat r
unfolding mul_into Good size len
into-flat none b s r g e h o = subst Flat (sum_is o) h
into-flat (and k p i c a) b s r g e h o =
    let w = then-sum (each_into (mul_term (entry k (size i) p c) (λ v. mul_into i v none)) s b) (λ u. mul_into a b u) r o in
    let nothing : size i ≡ 0 = omega (arith, len-most a) in
    let x : eqb k X ≡ true = sym g.0.inside ∙ empty-size i ∙ eq-eqb (size i) 0 nothing in
    into-flat a b w.0 r g.3 (omega (arith, len-most a)) (row-flat (entry k (size i) p c) (λ v. mul_into i v none) x b s w.0 h w.1) w.2

-- a product of a good flat sum with any other
pub flat-product : (a b r : Sum) → Good 4 a → Flat a → product a b ≡ sum r → Flat r
unfolding product size len
flat-product a b r g e h = into-flat a b none r g e refl (unless-sum (mulable a b) TooComplex (mul_into a b none) r h).1
