-- The definitions step by step, as a loop or a branch of the code meets them: what is left decides. And where TooComplex comes from. Assumes nothing.
use Prim.Native.Nat.{ℕ, zero, suc, ◌+◌}
use native.Mathlib.Omega.{arith}
use mathlib.Core.Path.{◌≡◌, refl, sym, ap, ap₂, ◌∙◌}
use mathlib.Core.Bool.{Bool, true, false, ◌&&◌, ◌||◌, not, cond}
use mathlib.Core.List.{List, [], ◌∷◌, ◌++◌}
use lib.Dec.{eqb}
use lib.Ieee.{Float, eq}
use borrow.Author.Tests.{eqb-true, ne_eqb}
use Rattle.numbers.specs.Ops.{◌⊕◌, ◌⊗◌}
use Rattle.numbers.specs.Signs.{zero64, one64}
use Rattle.std.specs.declared.cmp.Ordering.{Ordering}
use Rattle.std.specs.declared.cmp.Ordering.TheVariants.{Less, Equal, Greater}
use Rattle.numbers.specs.declared.complex.Complex.{Complex}
use Rattle.numbers.specs.Complex.Arith as complex
use Rattle.cells.specs.declared.Entry.{Entry}
use Rattle.sums.specs.declared.tree.Merge.{Merge}
use Rattle.sums.specs.declared.tree.Merge.TheVariants.{Add}
use Rattle.limits.specs.declared.Refusal.{Refusal}
use Rattle.limits.specs.declared.Refusal.TheVariants.{TooComplex, NotFinite, PowerNotFinite}
use Rattle.limits.specs.Refusals.{refusal_no}
use Rattle.sums.specs.Tree.Kinds.{X, Div}
use Rattle.sums.specs.Tree.Sums.{Sum, none, and, size, flat, entry}
use Rattle.sums.specs.Tree.Order.{cmp_term}
use Rattle.sums.specs.Tree.Same.{same_term}
use Rattle.sums.specs.Tree.Good.{is_empty, GoodEntry, Good}
use Rattle.sums.specs.Tree.Map.{by_order, put_in, Outcome, sum, refused, and_then_sum, unless, formed, each_into}
use Rattle.sums.proofs.tree.Keeps.{formed-sum, formed-refusal}
use Rattle.arithmetic.specs.Outcomes.{product_code, no_product, add_powers, mul_insides, quotient_code, x_by_x, x_by_div, x_by_other, alike}
use Rattle.arithmetic.specs.Singles.{is_one, single, alone, as_constant, is_complex, Expressible}
use Rattle.arithmetic.specs.Product.{pairable, rowable, mulable, mul_term, mul_into, product}
use Rattle.arithmetic.specs.Quotient.{x_to, divable, all_divable, add_times, div_term, div_by_several, quotient}
use Rattle.arithmetic.specs.Power.{raised, rootable, unit_coefs, root_of_one, rooted}
use Rattle.arithmetic.proofs.Steps.{never, differ, and_both, sum_is, then-sum, unless-sum}
use Rattle.arithmetic.proofs.Goodness.{pair-divs}

-- ---- reading off a sum

-- an empty sum has no entries
pub empty-size : (s : Sum) → is_empty s ≡ eqb (size s) 0
unfolding size
empty-size none = refl
empty-size (and k p i c r) = sym (ne_eqb (suc (size i + size r)) 0 (λ e. omega arith))

-- an X has no inside
pub x-size : (k : ℕ) (p : Float) (i : Sum) (c : Complex) → GoodEntry k p i c → eqb k X ≡ true → size i ≡ 0
x-size k p i c g h = eqb-true (size i) 0 (sym (empty-size i) ∙ g.inside ∙ h)

-- an entry that makes a sum complex
abbrev pub complex_entry : Entry → Bool
complex_entry e = eqb e.kind X && (not (eq e.num zero64) && not (eq e.num one64))

abbrev pub any_complex : List Entry → Bool
any_complex [] = false
any_complex (e ∷ es) = complex_entry e || any_complex es

or_assoc : (a b c : Bool) → (a || b) || c ≡ a || (b || c)
or_assoc true b c = refl
or_assoc false b c = refl

any_append : (a b : List Entry) → any_complex (a ++ b) ≡ any_complex a || any_complex b
any_append [] b = refl
any_append (e ∷ a) b = ap (λ (v : Bool). complex_entry e || v) (any_append a b) ∙ sym (or_assoc (complex_entry e) (any_complex a) (any_complex b))

empty-flat : (s : Sum) → is_empty s ≡ true → flat s ≡ []
unfolding flat
empty-flat none h = refl
empty-flat (and k p i c r) h = differ (sym h)

-- is_complex of a good sum: one of its entries, at whatever level, is such an X
pub complex-flat : (left : ℕ) (s : Sum) → Good left s → is_complex s ≡ any_complex (flat s)
unfolding is_complex flat Good
complex-flat left none g = refl
complex-flat zero (and k p i c r) g = absurd g
complex-flat (suc left) (and k p i c r) g =
    ap₂ ◌||◌ (go (eqb k X) refl (complex-flat left i g.1)) (complex-flat (suc left) r g.3) ∙ or_assoc (complex_entry (entry k (size i) p c)) (any_complex (flat i)) (any_complex (flat r))
    ∙ ap (λ (v : Bool). complex_entry (entry k (size i) p c) || v) (sym (any_append (flat i) (flat r)))
  where
    odd : Bool
    odd = not (eq p zero64) && not (eq p one64)

    or-false : (a : Bool) → a ≡ a || false
    or-false true = refl
    or-false false = refl

    go : (b : Bool) → eqb k X ≡ b → is_complex i ≡ any_complex (flat i) → cond b odd (is_complex i) ≡ (b && odd) || any_complex (flat i)
    go true e ih = rw (empty-flat i (g.0.inside ∙ e)) (or-false odd)
    go false e ih = ih

-- ---- whether there is a product: of two terms by the table's code, of a term and a sum, of two sums

module _ (k : ℕ) (f : Sum → Bool) where
  -- two Divs: their insides decide
  pub pair-insides : (l : ℕ) (j : Sum) → product_code k l ≡ mul_insides → pairable k f l j ≡ f j
  pair-insides l j e = rw e

  -- nothing left
  pub row-none : rowable k f none ≡ true
  unfolding rowable
  row-none = refl

-- ---- products formed: of two terms, of the terms of the first in turn, of the whole

-- of two powers
pub term-powers : (x : Entry) (f : Sum → Outcome) (y : Entry) (v s : Sum) → eqb x.kind X ≡ true
    → mul_term x f y v s ≡ formed Add (entry X 0 (x.num ⊕ y.num) (complex.times x.coef y.coef)) none s
term-powers x f y v s e = rw e

-- of two Divs where that is refused
pub term-refused : (x : Entry) (f : Sum → Outcome) (y : Entry) (v s : Sum) (n : Refusal) → eqb x.kind X ≡ false → f v ≡ refused n → mul_term x f y v s ≡ refused n
term-refused x f y v s n e h = rw (e, h)

module _ (b s : Sum) where
  module _ (k : ℕ) (p : Float) (i : Sum) (c : Complex) (r : Sum) where
    -- a row that is refused
    pub into-refused : (n : Refusal) → each_into (mul_term (entry k (size i) p c) (λ v. mul_into i v none)) s b ≡ refused n → mul_into (and k p i c r) b s ≡ refused n
    unfolding mul_into
    into-refused n h = rw h

-- where every pair has a product they are formed
pub product_is : (a b : Sum) → mulable a b ≡ true → product a b ≡ mul_into a b none
unfolding product
product_is a b e = rw e

-- else it is TooComplex
pub product-not : (a b : Sum) → mulable a b ≡ false → product a b ≡ refused TooComplex
unfolding product
product-not a b e = rw e

-- ---- quotients: whether each term has one, and what it is, by the table's code

module _ (y : Entry) (j : Sum) where
  -- nothing left
  pub all_none : all_divable y j none ≡ true
  unfolding all_divable
  all_none = refl

  -- a term that can be divided: the rest decides
  pub all_more : (k : ℕ) (p : Float) (i : Sum) (c : Complex) (r : Sum) → divable (entry k (size i) p c) i y j ≡ true → all_divable y j (and k p i c r) ≡ all_divable y j r
  unfolding all_divable
  all_more k p i c r e = rw e

  -- a term that can't
  pub all-stop : (k : ℕ) (p : Float) (i : Sum) (c : Complex) (r : Sum) → divable (entry k (size i) p c) i y j ≡ false → all_divable y j (and k p i c r) ≡ false
  unfolding all_divable
  all-stop k p i c r e = rw e

module _ (x : Entry) (i : Sum) (y : Entry) (j : Sum) where
  -- X by X
  pub able-powers : quotient_code x.kind y.kind ≡ x_by_x → divable x i y j ≡ true
  able-powers e = rw e

  -- X by Div
  pub able-div : quotient_code x.kind y.kind ≡ x_by_div → divable x i y j ≡ is_one x.kind x.num || mulable (x_to x.num) j
  able-div e = rw e

  -- X by another kind
  pub able-other : quotient_code x.kind y.kind ≡ x_by_other → divable x i y j ≡ is_one x.kind x.num
  able-other e = rw e

  -- two of one kind
  pub able-alike : quotient_code x.kind y.kind ≡ alike → divable x i y j ≡ same_term x i y j
  able-alike e = rw e

-- the coefficient of a quotient of two terms, and where the term quotient's own coefficient is 1
abbrev pub ratio : Entry → Entry → Complex
ratio x y = complex.over x.coef y.coef

abbrev pub ratio_one : Entry → Entry → Complex
ratio_one x y = complex.times (ratio x y) complex.one

module _ (x y : Entry) (j s : Sum) where
  -- any other X by Div
  pub over_div : quotient_code x.kind y.kind ≡ x_by_div → is_one x.kind x.num ≡ false → div_term y j x s ≡ and_then_sum (product (x_to x.num) j) (λ w. add_times (ratio x y) s w)
  over_div e h = rw (e, h)

  -- 1 by another kind
  pub over-other : quotient_code x.kind y.kind ≡ x_by_other
      → div_term y j x s ≡ formed Add (entry Div (size (single y.kind y.num j complex.one)) zero64 (ratio_one x y)) (single y.kind y.num j complex.one) s
  over-other e = rw e

-- by one term
pub quotient-one : (a : Sum) (l : ℕ) (q : Float) (j : Sum) (d : Complex)
    → quotient a (and l q j d none) ≡ unless (all_divable (entry l (size j) q d) j a) TooComplex (each_into (λ x i s. div_term (entry l (size j) q d) j x s) none a)
unfolding quotient
quotient-one a l q j d = refl

-- by several
pub quotient-several : (a : Sum) (l : ℕ) (q : Float) (j : Sum) (d : Complex) (r : Sum) → is_empty r ≡ false → quotient a (and l q j d r) ≡ div_by_several a (and l q j d r) (as_constant a)
unfolding quotient
quotient-several a l q j d none e = differ e
quotient-several a l q j d (and m p k f r) e = refl

-- ---- whole powers

-- no more products
pub raised-none : (acc s : Sum) → raised zero acc s ≡ sum acc
unfolding raised
raised-none acc s = refl

-- one more, which gives a sum
pub raised-sum : (n : ℕ) (acc s u : Sum) → product acc s ≡ sum u → raised (suc n) acc s ≡ raised n u s
unfolding raised
raised-sum n acc s u h = rw h

-- one more, which is refused
pub raised-refused : (n : ℕ) (acc s : Sum) (e : Refusal) → product acc s ≡ refused e → raised (suc n) acc s ≡ refused e
unfolding raised
raised-refused n acc s e h = rw h

-- ---- other powers

module _ (k : ℕ) (p : Float) (i : Sum) (c : Complex) (r : Sum) where
  -- one term, an X or a Div of what is such a term
  pub root-test : rootable (and k p i c r) ≡ is_empty r && cond (eqb k X) true (eqb k Div && rootable i)
  unfolding rootable
  root-test = go r
    where
      go : (r : Sum) → rootable (and k p i c r) ≡ is_empty r && cond (eqb k X) true (eqb k Div && rootable i)
      go none = refl
      go (and l q j d r) = refl

  -- its coefficient is 1, and so are those inside
  pub units-test : unit_coefs (and k p i c r) ≡ complex.same c complex.one && unit_coefs i
  unfolding unit_coefs
  units-test = refl

  module _ (e : Float) where
    -- a power of x
    pub rooted-x : eqb k X ≡ true → rooted e (and k p i c r) ≡ alone X (p ⊗ e) none (root_of_one c e)
    unfolding rooted
    rooted-x h = rw h

    -- a Div whose inside gives a sum
    pub rooted-sum : (w : Sum) → eqb k X ≡ false → rooted e i ≡ sum w → rooted e (and k p i c r) ≡ alone Div zero64 w (root_of_one c e)
    unfolding rooted
    rooted-sum w h o = rw (h, o)

    -- a Div whose inside is refused
    pub rooted-refused : (n : Refusal) → eqb k X ≡ false → rooted e i ≡ refused n → rooted e (and k p i c r) ≡ refused n
    unfolding rooted
    rooted-refused n h o = rw (h, o)

-- ---- where TooComplex comes from

-- two steps
pub then-fine : (o : Outcome) (f : Sum → Outcome) → Expressible o → ((u : Sum) → Expressible (f u)) → Expressible (and_then_sum o f)
then-fine (sum u) f n m h = m u h
then-fine (refused e) f n m h = n h

-- an entry formed
pub formed-fine : (m : Merge) (x : Entry) (t s : Sum) → Expressible (formed m x t s)
formed-fine m x t s h = formed-refusal (λ q. refusal_no q ≡ 7 → ⊥) m x t s (λ f. number (eqb x.kind X)) (λ e. omega arith) (λ e. omega arith) (λ e. omega arith) TooComplex h refl
  where
    number : (b : Bool) → refusal_no (cond b PowerNotFinite NotFinite) ≡ 7 → ⊥
    number true e = omega arith
    number false e = omega arith

-- a step for each entry
pub each-fine : (f : Entry → Sum → Sum → Outcome) → ((x : Entry) (j s : Sum) → Expressible (f x j s)) → (t s : Sum) → Expressible (each_into f s t)
unfolding each_into
each-fine f g none s h = never (sym h)
each-fine f g (and l q j d t) s h = then-fine (f (entry l (size j) q d) j s) (λ (u : Sum). each_into f u t) (g (entry l (size j) q d) j s) (λ u. each-fine f g t u) h

-- forming the products never gives it
pub into-fine : (a b s : Sum) → Expressible (mul_into a b s)
unfolding mul_into
into-fine none b s h = never (sym h)
into-fine (and k p i c a) b s h =
    then-fine (each_into (mul_term (entry k (size i) p c) (λ v. mul_into i v none)) s b) (λ u. mul_into a b u)
    (each-fine (mul_term (entry k (size i) p c) (λ v. mul_into i v none)) (λ y v s. term (eqb k X) y v s (into-fine i v none)) b s) (λ u. into-fine a b u) h
  where
    term : (x : Bool) (y : Entry) (v s : Sum) → Expressible (mul_into i v none)
        → Expressible (cond x (formed Add (entry X 0 (p ⊕ y.num) (complex.times c y.coef)) none s)
        (and_then_sum (mul_into i v none) (λ w. formed Add (entry Div (size w) zero64 (complex.times c y.coef)) w s)))
    term true y v s n = formed-fine Add (entry X 0 (p ⊕ y.num) (complex.times c y.coef)) none s
    term false y v s n = then-fine (mul_into i v none) (λ w. formed Add (entry Div (size w) zero64 (complex.times c y.coef)) w s) n
        (λ w. formed-fine Add (entry Div (size w) zero64 (complex.times c y.coef)) w s)

-- so where there is a product TooComplex isn't given
pub product-fine : (a b : Sum) → mulable a b ≡ true → Expressible (product a b)
product-fine a b e h = into-fine a b none (sym (product_is a b e) ∙ h)

-- ---- what has a product with a sum stays so when it is multiplied by what has one too

-- of a row of powers' products only the kind decides
row-x : (k : ℕ) (f g : Sum → Bool) (c : Sum) → eqb k X ≡ true → rowable k f c ≡ true → rowable X g c ≡ true
unfolding rowable
row-x k f g none e h = refl
row-x k f g (and l q j d c) e h =
    let m = and_both (pairable k f l j) (rowable k f c) h in
    rw (row-x k f g c e m.1) (go (eqb l X) (rw (eqb-true k X e) at m.0))
  where
    go : (a : Bool) → cond (eqb (cond a add_powers no_product) add_powers) true (cond (eqb (cond a add_powers no_product) mul_insides) (f j) false) ≡ true
        → cond (eqb (cond a add_powers no_product) add_powers) true (cond (eqb (cond a add_powers no_product) mul_insides) (g j) false) && true ≡ true
    go true h = refl
    go false h = differ (sym h)

-- what has a product with a Div
pair-div : (l : ℕ) (g : Sum → Bool) (u : Sum) → pairable l g Div u ≡ true → g u ≡ true
pair-div l g u h = go (eqb l X) (eqb l Div) h
  where
    go : (a b : Bool)
        → (let code = cond (a && false) add_powers (cond (b && true) mul_insides no_product) in cond (eqb code add_powers) true (cond (eqb code mul_insides) (g u) false)) ≡ true
        → g u ≡ true
    go true true h = h
    go true false h = differ (sym h)
    go false true h = h
    go false false h = differ (sym h)

-- a row of Divs' products, where two such rows give a third
row-div : (k l : ℕ) (f g h : Sum → Bool) → ((u : Sum) → f u ≡ true → g u ≡ true → h u ≡ true) → eqb k X ≡ false → (c : Sum) → rowable k f c ≡ true → rowable l g c ≡ true → rowable Div h c ≡ true
unfolding rowable
row-div k l f g h ih e none a b = refl
row-div k l f g h ih e (and n q u d c) a b =
    let x = and_both (pairable k f n u) (rowable k f c) a in
    let y = and_both (pairable l g n u) (rowable l g c) b in
    let z = pair-divs k f n u x.0 e in
    rw (z.0, ih u z.1 (pair-div l g u (rw z.0 at y.0))) (row-div k l f g h ih e c x.1 y.1)

-- a term put in
put-mulable : (m : Merge) (x : Entry) (t s c : Sum) → rowable x.kind (λ v. mulable t v) c ≡ true → mulable s c ≡ true → mulable (put_in m x t s) c ≡ true
unfolding put_in mulable
put-mulable m x t none c h e = rw h
put-mulable m x t (and l q j d s) c h e = go (cmp_term x t (entry l (size j) q d) j) _ _ _ (rw h e) e (rw f.0 (put-mulable m x t s c h f.1))
  where
    f : (rowable l (λ v. mulable j v) c ≡ true) × (mulable s c ≡ true)
    f = and_both (rowable l (λ v. mulable j v) c) (mulable s c) e

    go : (o : Ordering) (a b w : Sum) → mulable a c ≡ true → mulable b c ≡ true → mulable w c ≡ true → mulable (by_order o a b w) c ≡ true
    go Less a b w f g h = f
    go Equal a b w f g h = g
    go Greater a b w f g h = h

formed-mulable : (m : Merge) (x : Entry) (t s r c : Sum) → rowable x.kind (λ v. mulable t v) c ≡ true → mulable s c ≡ true → formed m x t s ≡ sum r → mulable r c ≡ true
formed-mulable m x t s r c h e f = rw (formed-sum m x t s r f).is (put-mulable m x t s c h e)

-- a row of products formed
row_kept : (k : ℕ) (p : Float) (i : Sum) (d : Complex) (g : Sum → Outcome) (c : Sum) → rowable k (λ v. mulable i v) c ≡ true
    → ((v w u : Sum) → mulable i u ≡ true → mulable v u ≡ true → g v ≡ sum w → mulable w u ≡ true)
    → (b s r : Sum) → mulable b c ≡ true → mulable s c ≡ true → each_into (mul_term (entry k (size i) p d) g) s b ≡ sum r → mulable r c ≡ true
unfolding each_into mulable
row_kept k p i d g c m ih none s r e f h = rw (← (sum_is h)) f
row_kept k p i d g c m ih (and l q j a b) s r e f h =
    let w = then-sum (mul_term (entry k (size i) p d) g (entry l (size j) q a) j s) (λ (u : Sum). each_into (mul_term (entry k (size i) p d) g) u b) r h in
    let n = and_both (rowable l (λ v. mulable j v) c) (mulable b c) e in
    row_kept k p i d g c m ih b w.0 r n.1 (term (eqb k X) refl w.0 n.0 w.1) w.2
  where
    term : (x : Bool) → eqb k X ≡ x → (u : Sum) → rowable l (λ v. mulable j v) c ≡ true
        → cond x (formed Add (entry X 0 (p ⊕ q) (complex.times d a)) none s) (and_then_sum (g j) (λ w. formed Add (entry Div (size w) zero64 (complex.times d a)) w s)) ≡ sum u → mulable u c ≡ true
    term true z u n h = formed-mulable Add (entry X 0 (p ⊕ q) (complex.times d a)) none s u c (row-x k (λ v. mulable i v) (λ v. mulable none v) c z m) f h
    term false z u n h =
        let w = then-sum (g j) (λ w. formed Add (entry Div (size w) zero64 (complex.times d a)) w s) u h in
        formed-mulable Add (entry Div (size w.0) zero64 (complex.times d a)) w.0 s u c
        (row-div k l (λ v. mulable i v) (λ v. mulable j v) (λ v. mulable w.0 v) (λ o a b. ih j w.0 o a b w.1) z c m n) f w.2

into-kept : (a b s r c : Sum) → mulable a c ≡ true → mulable b c ≡ true → mulable s c ≡ true → mul_into a b s ≡ sum r → mulable r c ≡ true
unfolding mul_into mulable
into-kept none b s r c e f g h = rw (← (sum_is h)) g
into-kept (and k p i d a) b s r c e f g h =
    let w = then-sum (each_into (mul_term (entry k (size i) p d) (λ v. mul_into i v none)) s b) (λ u. mul_into a b u) r h in
    let n = and_both (rowable k (λ v. mulable i v) c) (mulable a c) e in
    into-kept a b w.0 r c n.1 f (row_kept k p i d (λ v. mul_into i v none) c n.0 (λ v y u o m x. into-kept i v none y u o m refl x) b s w.0 f g w.1) w.2

-- a product has a product with what both its factors have one with
pub mulable-kept : (a b r c : Sum) → mulable a c ≡ true → mulable b c ≡ true → product a b ≡ sum r → mulable r c ≡ true
unfolding product mulable
mulable-kept a b r c e f h = into-kept a b none r c e f refl (unless-sum (mulable a b) TooComplex (mul_into a b none) r h).1

-- so in a whole power TooComplex can come from the first product alone
pub raised-fine : (n : ℕ) (acc s : Sum) → mulable s s ≡ true → mulable acc s ≡ true → Expressible (raised n acc s)
unfolding raised
raised-fine zero acc s e f h = never (sym h)
raised-fine (suc n) acc s e f h = go (product acc s) refl h (λ u. raised-fine n u s e)
  where
    go : (o : Outcome) → product acc s ≡ o → and_then_sum o (λ u. raised n u s) ≡ refused TooComplex → ((u : Sum) → mulable u s ≡ true → Expressible (raised n u s)) → ⊥
    go (sum u) o h ih = ih u (mulable-kept acc s u s f e o) h
    go (refused v) o h ih = product-fine acc s f (o ∙ h)
