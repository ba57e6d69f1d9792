-- Walking down into a sum: the first entry, its inside's first entry, and so on. Assumes nothing.
use Prim.Native.Nat.{ℕ, ◌+◌, ◌-◌, ◌≤◌, ◌<◌}
use native.Mathlib.Omega.{arith}
use mathlib.Core.Path.{◌≡◌, refl, ap, subst, ◌∙◌}
use mathlib.Core.Bool.{Bool, true, false, ◌&&◌, cond}
use lib.Dec.{eqb}
use borrow.Author.Tests.{eq-eqb, ne_eqb}
use Rattle.numbers.specs.Complex.Arith as complex
use Rattle.cells.specs.declared.Entry.{Entry}
use Rattle.cells.specs.Contract.Book.{Book, at, Room, Plain}
use Rattle.sums.specs.Tree.Kinds.{X, Div}
use Rattle.sums.specs.Tree.Sums.{Sum, size}
use Rattle.sums.specs.Tree.Good.{is_empty}
use Rattle.arithmetic.specs.Power.{rootable, unit_coefs}
use Rattle.arithmetic.proofs.Agree.{empty-size, root-test, units-test}
use Rattle.sums.specs.Contract.Lies.{Lies}
use Rattle.sums.proofs.order.Walk.{Next, next, next-at, lies-none}

-- what lies from k up to e answers the test as s does
pub record Down (b : Book) (test : Sum → Bool) (k e : ℕ) (s : Sum) : Type 0 where
  pub rest : Sum
  pub left : ℕ
  pub lies : Lies b k e left rest
  pub same : test s ≡ test rest

-- at first it is s itself
pub down-start : {b : Book} {i e left : ℕ} {s : Sum} (test : Sum → Bool) → Lies b i e left s → Down b test i e s
down-start {left = left} {s} test l = record { rest = s; left = left; lies = l; same = refl }

module _ {b : Book} {test : Sum → Bool} {k e : ℕ} {s : Sum} (d : Down b test k e s) where
  -- its first cell can be read
  pub down-reads : k < e → Room b (k + 1) × Plain (at b k)
  down-reads p = let n = next-at b k e d.left d.rest d.lies p in (n.readable, n.first.plain)

  -- and is this entry
  pub down-next : {x : Entry} → x ≡ at b k → k < e → Next b k e d.left d.rest x
  down-next {x} ex p = next b k e d.left d.rest x ex d.lies p

-- ---- one term, an X or a Div of such a sum

module _ {b : Book} {k e : ℕ} {s : Sum} {x : Entry} (ex : x ≡ at b k) (d : Down b rootable k e s) (p : k < e) where
  first : Next b k e d.left d.rest x
  first = down-next d ex p

  root_is : {r : Bool} → is_empty first.rest ≡ r → rootable s ≡ r && cond (eqb x.kind X) true (eqb x.kind Div && rootable first.inner)
  root_is {r} h = d.same ∙ ap rootable first.is ∙ root-test x.kind x.num first.inner x.coef first.rest ∙ ap
      (λ (v : Bool). v && cond (eqb x.kind X) true (eqb x.kind Div && rootable first.inner)) h

  -- more terms follow
  pub root-several : (k + 1 + x.inside ≡ e → ⊥) → rootable s ≡ false
  root-several h =
      let ends = first.lies-rest.ends in
      root_is (empty-size first.rest ∙ ne_eqb (size first.rest) 0 (λ z. h (omega arith)))

  module _ (h : k + 1 + x.inside ≡ e) where
    only : is_empty first.rest ≡ true
    only = let ends = first.lies-rest.ends in empty-size first.rest ∙ eq-eqb (size first.rest) 0 (omega arith)

    pub root-x : x.kind ≡ X → rootable s ≡ true
    root-x z = root_is only ∙ rw (eq-eqb x.kind X z) refl

    pub root-other : (x.kind ≡ X → ⊥) → (x.kind ≡ Div → ⊥) → rootable s ≡ false
    root-other y z = root_is only ∙ rw (ne_eqb x.kind X y, ne_eqb x.kind Div z) refl

    pub root-div : (x.kind ≡ X → ⊥) → x.kind ≡ Div → Down b rootable (k + 1) e s
    root-div y z =
        record {
          rest = first.inner;
          left = d.left - 1;
          lies = subst (λ (u : ℕ). Lies b (k + 1) u (d.left - 1) first.inner) h first.lies-inner;
          same = root_is only ∙ rw (ne_eqb x.kind X y, eq-eqb x.kind Div z) refl;
        }

-- nothing is there
pub root_none : {b : Book} {k e : ℕ} {s : Sum} → Down b rootable k e s → e ≤ k → rootable s ≡ false
unfolding rootable
root_none {b} {k} {e} d h = d.same ∙ ap rootable (lies-none b k e d.left d.rest d.lies h)

-- ---- the coefficients

module _ {b : Book} {k e : ℕ} {s : Sum} {x : Entry} (ex : x ≡ at b k) (d : Down b unit_coefs k e s) (p : k < e) where
  units-is : unit_coefs s ≡ complex.same x.coef complex.one && unit_coefs (down-next d ex p).inner
  units-is = let n = down-next d ex p in d.same ∙ ap unit_coefs n.is ∙ units-test x.kind x.num n.inner x.coef n.rest

  pub units-stop : complex.same x.coef complex.one ≡ false → unit_coefs s ≡ false
  units-stop h = units-is ∙ rw h

  pub units-more : complex.same x.coef complex.one ≡ true → Down b unit_coefs (k + 1) (k + 1 + x.inside) s
  units-more h = let n = down-next d ex p in record { rest = n.inner; left = d.left - 1; lies = n.lies-inner; same = units-is ∙ rw h }

pub units-none : {b : Book} {k e : ℕ} {s : Sum} → Down b unit_coefs k e s → e ≤ k → unit_coefs s ≡ true
unfolding unit_coefs
units-none {b} {k} {e} d h = d.same ∙ ap unit_coefs (lies-none b k e d.left d.rest d.lies h)
