-- Every sum that the arithmetic of sums answers is a good one. Assumes nothing.
use Prim.Native.Nat.{ℕ, zero, suc, ◌≤◌}
use native.Mathlib.Omega.{arith}
use mathlib.Core.Path.{◌≡◌, refl, sym, subst, ◌∙◌}
use mathlib.Core.Bool.{Bool, true, false, ◌&&◌, ◌||◌, cond}
use lib.Dec.{T, eqb}
use lib.Ieee.{Float, binary64, fits, neg, of_bits, le}
use lib.Ieee.Bits.{of_bits-fits}
use lib.Ieee.Fits.{and_i, and_l, and_r, add-fits, sub-fits, mul-fits, neg-fits, cond-fits}
use lib.Ieee.Scale.{finite}
use borrow.Author.Tests.{eqb-true}
use Rattle.std.specs.Prelude.{Option, Some, None}
use Rattle.numbers.specs.Constants.{euler}
use Rattle.numbers.specs.Numbers.{is_whole, small_whole}
use Rattle.numbers.specs.Ops.{◌⊕◌, ◌⊖◌, ◌⊗◌}
use Rattle.numbers.specs.Signs.{zero64, one64}
use Rattle.std.specs.declared.cmp.Ordering.{Ordering}
use Rattle.std.specs.declared.cmp.Ordering.TheVariants.{Less, Equal, Greater}
use Rattle.numbers.proofs.Finite.{neg-finite}
use Rattle.numbers.proofs.Values.{bits-0}
use Rattle.numbers.specs.declared.complex.Complex.{Complex}
use Rattle.numbers.specs.Complex.Arith as complex
use Rattle.cells.specs.declared.Entry.{Entry}
use Rattle.sums.specs.declared.tree.Merge.{Merge}
use Rattle.sums.specs.declared.tree.Merge.TheVariants.{Add, Store}
use Rattle.limits.specs.declared.Refusal.TheVariants.{TooComplex, NeedsMath, BigPower}
use Rattle.sums.specs.Tree.Kinds.{X, Div, Log, Exp, has_number}
use Rattle.sums.specs.Tree.Sums.{Sum, none, and, size, len, levels, entry}
use Rattle.sums.specs.Tree.Order.{cmp_term}
use Rattle.sums.specs.Tree.Good.{is_number, is_empty, GoodEntry, Before, Good}
use Rattle.sums.specs.Tree.Map.{by_order, put_in, Outcome, sum, refused, Found, at, absent, and_then_sum, unless, formed, each_into}
use Rattle.sums.proofs.tree.Keeps.{Fits, GoodHead, formed-good, formed-sum, good-head, good_more}
use Rattle.arithmetic.specs.Outcomes.{add_powers, mul_insides, x_by_x, x_by_div, x_by_other}
use Rattle.arithmetic.specs.Singles.{GoodSum, is_one, single, alone, constant, as_constant, is_x, with_coef}
use Rattle.arithmetic.specs.Adding.{neg_sum, add_sums, sub_sums}
use Rattle.arithmetic.specs.Product.{pairable, rowable, mulable, mul_term, mul_into, product}
use Rattle.arithmetic.specs.Quotient.{x_to, all_divable, add_times, div_term, div_by_several, quotient}
use Rattle.arithmetic.specs.Power.{raised, whole_power, rootable, unit_coefs, root_of_one, rooted, power, by_real, is_euler, pow, log, number, sqrt, exp, exp2, exp10, ln, log2, log10, reciprocal, not_sum, complex_of, complex_sum}
use Rattle.arithmetic.proofs.Steps.{never, differ, and_both, sum_is, then-sum, unless-sum, either}

-- ---- coefficients that fit

-- a product
pub fits-times : (a b : Complex) → Fits (complex.times a b)
fits-times a b = record { re = sub-fits binary64 _ _; im = add-fits binary64 _ _ }

-- a sum
pub fits-plus : (a b : Complex) → Fits (complex.plus a b)
fits-plus a b = record { re = add-fits binary64 _ _; im = add-fits binary64 _ _ }

-- a number negated
pub fits-negated : {c : Complex} → Fits c → Fits (complex.negated c)
fits-negated h = record { re = neg-fits binary64 _ h.re; im = neg-fits binary64 _ h.im }

-- a real number given by its bits
pub fits_bits : (n : ℕ) → Fits (complex.real (of_bits binary64 n))
fits_bits n = record { re = of_bits-fits binary64 n; im = of_bits-fits binary64 0 }

-- ---- heads that are put in

-- an X
pub x-head : (n : ℕ) (p : Float) (c : Complex) → T (fits binary64 p) → Fits c → GoodHead (entry X n p c) none
x-head n p c f g = record { least = omega arith; most = omega arith; number = f; none_else = λ e. differ e; coef = g; inside = refl }

no_number : (k : ℕ) → has_number k ≡ false → eqb k X ≡ false
no_number k h = go (eqb k X) h
  where
    go : (b : Bool) → b || eqb k Log ≡ false → b ≡ false
    go true h = differ h
    go false h = refl

-- a kind without a number
pub over-head : (k n : ℕ) (t : Sum) (c : Complex) → 1 ≤ k → k ≤ 8 → has_number k ≡ false → is_empty t ≡ false → Fits c → GoodHead (entry k n zero64 c) t
over-head k n t c a b h e f = record { least = a; most = b; number = of_bits-fits binary64 0; none_else = λ z. bits-0; coef = f; inside = e ∙ sym (no_number k h) }

-- another coefficient
pub head-with : (x : Entry) (t : Sum) (c : Complex) → GoodHead x t → Fits c → GoodHead (with_coef x c) t
head-with x t c g f = record { least = g.least; most = g.most; number = g.number; none_else = g.none_else; coef = f; inside = g.inside }

-- ---- entries formed

put_some : (m : Merge) (x : Entry) (t s : Sum) → is_empty (put_in m x t s) ≡ false
unfolding put_in
put_some m x t none = refl
put_some m x t (and l q j d r) = go (cmp_term x t (entry l (size j) q d) j) _ _ _ refl refl refl
  where
    go : (o : Ordering) (a b c : Sum) → is_empty a ≡ false → is_empty b ≡ false → is_empty c ≡ false → is_empty (by_order o a b c) ≡ false
    go Less a b c f g h = f
    go Equal a b c f g h = g
    go Greater a b c f g h = h

-- an entry formed in a good sum leaves a good sum with an entry
pub good-formed : (m : Merge) (x : Entry) (t s r : Sum) → GoodHead x t → Good 4 t → Good 4 s → formed m x t s ≡ sum r → GoodSum r
good-formed m x t s r g ht hs h =
    let f = formed-sum m x t s r h in
    record { good = formed-good m x t s r g ht hs h; room = f.room; some = rw f.is (put_some m x t s) }

-- a good entry, with an inside of at most 3 levels
abbrev pub GoodTerm : ℕ → Float → Sum → Complex → Type 0
GoodTerm l q j d = GoodEntry l q j d × Good 3 j

-- each outermost entry
abbrev pub Every : (ℕ → Float → Sum → Complex → Type 0) → Sum → Type 0
Every P none = Unit {0}
Every P (and l q j d r) = P l q j d × Every P r

-- the entries of a good sum
pub good-every : (s : Sum) → Good 4 s → Every GoodTerm s
unfolding Good
good-every none h = tt
good-every (and l q j d r) h = ((h.0, h.1), good-every r h.3)

module _ (f : Entry → Sum → Sum → Outcome) (P : ℕ → Float → Sum → Complex → Type 0)
    (step : (l : ℕ) (q : Float) (j : Sum) (d : Complex) (s r : Sum) → P l q j d → Good 4 s → f (entry l (size j) q d) j s ≡ sum r → GoodSum r) where
  -- where each step leaves a good sum, so does the whole
  pub each-good : (t s r : Sum) → Every P t → Good 4 s → (is_empty t ≡ true → GoodSum s) → each_into f s t ≡ sum r → GoodSum r
  unfolding each_into
  each-good none s r e g n h = subst GoodSum (sum_is h) (n refl)
  each-good (and l q j d t) s r e g n h =
      let w = then-sum (f (entry l (size j) q d) j s) (λ (u : Sum). each_into f u t) r h in
      let v = step l q j d s w.0 e.0 g w.1 in
      each-good t w.0 r e.1 v.good (λ z. v) w.2

-- ---- sums added and taken away

module _ (g : Complex → Complex) (fits-g : (c : Complex) → Fits c → Fits (g c)) where
  good-each : (t s r : Sum) → Every GoodTerm t → Good 4 s → (is_empty t ≡ true → GoodSum s) → each_into (λ x u v. formed Add (with_coef x (g x.coef)) u v) s t ≡ sum r → GoodSum r
  good-each = each-good (λ x u v. formed Add (with_coef x (g x.coef)) u v) GoodTerm
      (λ l q j d s r e h o.
      let x = good-head l (size j) q j d e.0 in
      good-formed Add (entry l (size j) q (g d)) j s r (head-with (entry l (size j) q d) j (g d) x (fits-g d x.coef)) (good_more 3 j e.1) h o)

-- a sum of two good sums
pub good-add : {s t r : Sum} → GoodSum s → GoodSum t → add_sums s t ≡ sum r → GoodSum r
good-add {s} {t} {r} a b h = good-each (λ c. c) (λ c f. f) t s r (good-every t b.good) a.good (λ e. a) h

-- a difference
pub good-sub : {s t r : Sum} → GoodSum s → GoodSum t → sub_sums s t ≡ sum r → GoodSum r
good-sub {s} {t} {r} a b h = good-each complex.negated (λ c f. fits-negated f) t s r (good-every t b.good) a.good (λ e. a) h

-- ---- a sum negated

neg-before : (k : ℕ) (p : Float) (i s : Sum) → Before k p i s → Before k p i (neg_sum s)
unfolding neg_sum
neg-before k p i none h = tt
neg-before k p i (and l q j d r) h = h

neg-number : (x : Float) → T (is_number x) → T (is_number (neg x))
neg-number x h = and_i (finite (neg x)) (fits binary64 (neg x)) (rw (neg-finite x) (and_l (finite x) (fits binary64 x) h)) (neg-fits binary64 x (and_r (finite x) (fits binary64 x) h))

-- it stays good, at as many levels
pub neg-good : (left : ℕ) (s : Sum) → Good left s → Good left (neg_sum s)
unfolding Good neg_sum
neg-good left none h = tt
neg-good zero (and k p i c r) h = absurd h
neg-good (suc left) (and k p i c r) h =
    let e = h.0 in
    let n : GoodEntry k p i (complex.negated c) = record {
      least = e.least;
      most = e.most;
      number = e.number;
      none_else = e.none_else;
      re = neg-number c.re e.re;
      im = neg-number
          c.im e.im;
      inside = e.inside;
    } in
    (n, h.1, neg-before k p i r h.2, neg-good (suc left) r h.3)

-- with as many entries
pub neg-size : (s : Sum) → size (neg_sum s) ≡ size s
unfolding size neg_sum
neg-size none = refl
neg-size (and k p i c r) = omega (arith, neg-size r)

-- with as many outermost entries
pub neg-len : (s : Sum) → len (neg_sum s) ≡ len s
unfolding len neg_sum
neg-len none = refl
neg-len (and k p i c r) = omega (arith, neg-len r)

-- and as many levels
pub neg-levels : (s : Sum) → levels (neg_sum s) ≡ levels s
unfolding levels neg_sum
neg-levels none = refl
neg-levels (and k p i c r) = omega (arith, neg-levels r)

neg-some : (s : Sum) → is_empty (neg_sum s) ≡ is_empty s
unfolding neg_sum
neg-some none = refl
neg-some (and k p i c r) = refl

-- so a good sum negated is one
pub good-neg : {s : Sum} → GoodSum s → GoodSum (neg_sum s)
good-neg {s} h = record { good = neg-good 4 s h.good; room = omega (arith, neg-size s, h.room); some = neg-some s ∙ h.some }

-- ---- one term

-- a map that starts empty
pub none-good : Good 4 none
unfolding Good
none-good = tt

-- one term formed as a sum of its own
pub good-alone : {k : ℕ} {p : Float} {i : Sum} {c : Complex} {r : Sum} → GoodHead (entry k (size i) p c) i → Good 4 i → alone k p i c ≡ sum r → GoodSum r
good-alone {k} {p} {i} {c} {r} g e h = good-formed Store (entry k (size i) p c) i none r g e none-good h

-- a function of a good sum
pub good-over : (k : ℕ) {s : Sum} (c : Complex) {r : Sum} → 1 ≤ k → k ≤ 8 → has_number k ≡ false → Fits c → GoodSum s → alone k zero64 s c ≡ sum r → GoodSum r
good-over k {s} c a b n f g h = good-alone (over-head k (size s) s c a b n g.some f) g.good h

-- one good term is a good sum
pub good-single : (k : ℕ) (p : Float) (i : Sum) (c : Complex) → GoodEntry k p i c → Good 3 i → size i ≤ 63 → GoodSum (single k p i c)
unfolding Good size
good-single k p i c e g n = record { good = (e, g, tt, tt); room = omega arith; some = refl }

-- a power of x
pub good-x_to : (p : Float) (c : Complex) → T (is_number p) → T (is_number c.re) → T (is_number c.im) → GoodSum (single X p none c)
unfolding Good size
good-x_to p c n a b = good-single X p none c (record { least = omega arith; most = omega arith; number = n; none_else = λ e. differ e; re = a; im = b; inside = refl }) tt (omega arith)

-- a number given by its bits, where they are of a finite one
bits-number : (n : ℕ) → T (finite (of_bits binary64 n)) → T (is_number (of_bits binary64 n))
bits-number n h = and_i (finite (of_bits binary64 n)) (fits binary64 (of_bits binary64 n)) h (of_bits-fits binary64 n)

zero_number : T (is_number zero64)
unfolding of_bits
zero_number = bits-number 0 tt

one_number : T (is_number one64)
unfolding of_bits
one_number = bits-number 0x3ff0000000000000 tt

-- a constant
pub good-constant : (c : Complex) → T (is_number c.re) → T (is_number c.im) → GoodSum (constant c)
good-constant c a b = good-x_to zero64 c zero_number a b

good-bits : (n : ℕ) → T (finite (of_bits binary64 n)) → GoodSum (constant (complex.real (of_bits binary64 n)))
good-bits n h = good-constant (complex.real (of_bits binary64 n)) (bits-number n h) zero_number

-- constant 0
pub good-zero : GoodSum (constant complex.zero)
good-zero = good-constant complex.zero zero_number zero_number

-- constant 1
pub good-one : GoodSum (constant complex.one)
good-one = good-constant complex.one one_number zero_number

-- constant i
pub good-imaginary : GoodSum (constant complex.imaginary)
good-imaginary = good-constant complex.imaginary zero_number one_number

-- constant 0.5
pub good-half : GoodSum (number 0x3fe0000000000000)
unfolding of_bits
good-half = good-bits 0x3fe0000000000000 tt

-- constant 2
pub good-two : GoodSum (number 0x4000000000000000)
unfolding of_bits
good-two = good-bits 0x4000000000000000 tt

-- constant 10
pub good-ten : GoodSum (number 0x4024000000000000)
unfolding of_bits
good-ten = good-bits 0x4024000000000000 tt

-- constant E
pub good-euler : GoodSum (constant (complex.real euler))
unfolding of_bits
good-euler = good-bits 0x4005bf0a8b145769 tt

-- ---- products

-- terms that have a product and aren't X are two Divs, whose insides have one
pub pair-divs : (k : ℕ) (f : Sum → Bool) (l : ℕ) (j : Sum) → pairable k f l j ≡ true → eqb k X ≡ false → (l ≡ Div) × (f j ≡ true)
pair-divs k f l j h e = go (eqb k Div) (eqb l Div) refl (rw e at h)
  where
    go : (a b : Bool) → eqb l Div ≡ b → cond (eqb (cond (a && b) mul_insides 0) add_powers) true (cond (eqb (cond (a && b) mul_insides 0) mul_insides) (f j) false) ≡ true → (l ≡ Div) × (f j ≡ true)
    go true true n h = (eqb-true l Div n, h)
    go true false n h = differ (sym h)
    go false b n h = differ (sym h)

-- the entries of a sum that has a row of products
row-every : (k : ℕ) (f : Sum → Bool) (t : Sum) → Good 4 t → rowable k f t ≡ true → Every (λ l q j d. GoodTerm l q j d × (pairable k f l j ≡ true)) t
unfolding Good rowable
row-every k f none g h = tt
row-every k f (and l q j d r) g h = (((g.0, g.1), (and_both (pairable k f l j) (rowable k f r) h).0), row-every k f r g.3 (and_both (pairable k f l j) (rowable k f r) h).1)

-- one term times each of a sum
row-good : (k : ℕ) (p : Float) (i : Sum) (c : Complex) (f : Sum → Bool) (g : Sum → Outcome)
    → (eqb k X ≡ false → (v w : Sum) → Good 4 v → is_empty v ≡ false → f v ≡ true → g v ≡ sum w → GoodSum w)
    → (t s r : Sum) → Good 4 t → rowable k f t ≡ true → Good 4 s → (is_empty t ≡ true → GoodSum s) → each_into (mul_term (entry k (size i) p c) g) s t ≡ sum r → GoodSum r
row-good k p i c f g ih t s r gt m gs n h =
    each-good (mul_term (entry k (size i) p c) g) (λ l q j d. GoodTerm l q j d × (pairable k f l j ≡ true)) step t s r (row-every k f t gt m) gs n h
  where
    step : (l : ℕ) (q : Float) (j : Sum) (d : Complex) (s r : Sum) → GoodTerm l q j d × (pairable k f l j ≡ true) → Good 4 s
        → mul_term (entry k (size i) p c) g (entry l (size j) q d) j s ≡ sum r → GoodSum r
    step l q j d s r e gs h = go (eqb k X) refl h
      where
        go : (b : Bool) → eqb k X ≡ b
            → cond b (formed Add (entry X 0 (p ⊕ q) (complex.times c d)) none s) (and_then_sum (g j) (λ w. formed Add (entry Div (size w) zero64 (complex.times c d)) w s)) ≡ sum r → GoodSum r
        go true z h = good-formed Add (entry X 0 (p ⊕ q) (complex.times c d)) none s r (x-head 0 (p ⊕ q) (complex.times c d) (add-fits binary64 p q) (fits-times c d)) none-good gs h
        go false z h =
            let w = then-sum (g j) (λ w. formed Add (entry Div (size w) zero64 (complex.times c d)) w s) r h in
            let v = pair-divs k f l j e.1 z in
            let u = ih z j w.0 (good_more 3 j e.0.1) (e.0.0.inside ∙ rw v.0) v.1 w.1 in
            good-formed Add (entry Div (size w.0) zero64 (complex.times c d)) w.0 s r
            (over-head Div (size w.0) w.0 (complex.times c d) (omega arith) (omega arith) refl u.some (fits-times c d)) u.good gs w.2

mul-good : (a b s r : Sum) → Good 4 a → Good 4 b → is_empty b ≡ false → mulable a b ≡ true → Good 4 s → (is_empty a ≡ true → GoodSum s) → mul_into a b s ≡ sum r → GoodSum r
unfolding mul_into mulable Good
mul-good none b s r ga gb nb m gs n h = subst GoodSum (sum_is h) (n refl)
mul-good (and k p i c a) b s r ga gb nb m gs n h =
    let w = then-sum (each_into (mul_term (entry k (size i) p c) (λ v. mul_into i v none)) s b) (λ u. mul_into a b u) r h in
    let e = and_both (rowable k (λ v. mulable i v) b) (mulable a b) m in
    let u = row-good k p i c (λ v. mulable i v) (λ v. mul_into i v none)
    (λ x v y gv nv mv o. mul-good i v none y (good_more 3 i ga.1) gv nv mv none-good (λ z. differ (sym z ∙ ga.0.inside ∙ x)) o) b s w.0 gb e.0 gs (λ z. differ (sym z ∙ nb)) w.1 in
    mul-good a b w.0 r ga.3 gb nb e.1 u.good (λ z. u) w.2

-- a product of two good sums
pub good-product : {s t r : Sum} → GoodSum s → GoodSum t → product s t ≡ sum r → GoodSum r
unfolding product
good-product {s} {t} {r} a b h =
    let m = unless-sum (mulable s t) TooComplex (mul_into s t none) r h in
    mul-good s t none r a.good b.good b.some m.0 none-good (λ z. differ (sym z ∙ a.some)) m.1

-- ---- quotients

over-fits : (a b : Complex) → Fits (complex.times (complex.over a b) complex.one)
over-fits a b = fits-times (complex.over a b) complex.one

-- a good sum, times a number, is added into a good one
add-times-good : (c : Complex) (s w r : Sum) → Good 4 w → is_empty w ≡ false → Good 4 s → add_times c s w ≡ sum r → GoodSum r
add-times-good c s w r gw n gs h = good-each (complex.times c) (λ d f. fits-times c d) w s r (good-every w gw) gs (λ z. differ (sym z ∙ n)) h

module _ (l : ℕ) (q : Float) (j : Sum) (d : Complex) (g : GoodSum (single l q j d)) where
  div-good : (k : ℕ) (p : Float) (i : Sum) (c : Complex) (s r : Sum) → GoodTerm k p i c → Good 4 s → div_term (entry l (size j) q d) j (entry k (size i) p c) s ≡ sum r → GoodSum r
  unfolding Good size
  div-good k p i c s r e gs h = go (eqb k X) (eqb l X) (eqb l Div) (eqb k l) refl refl h
    where
      n : Complex
      n = complex.times (complex.over c d) complex.one

      x-good : (w : Float) → T (fits binary64 w) → formed Add (entry X 0 w n) none s ≡ sum r → GoodSum r
      x-good w f h = good-formed Add (entry X 0 w n) none s r (x-head 0 w n f (over-fits c d)) none-good gs h

      xs : (b : Bool) → formed Add (entry X 0 (cond b (neg q) (p ⊖ q)) n) none s ≡ sum r → GoodSum r
      xs true h = x-good (neg q) (neg-fits binary64 q (and_r (finite q) (fits binary64 q) g.good.0.number)) h
      xs false h = x-good (p ⊖ q) (sub-fits binary64 p q) h

      divs : eqb l X ≡ false → eqb k X ≡ true → cond (is_one k p) (add_times (complex.over c d) s j) (and_then_sum (product (x_to p) j) (λ w. add_times (complex.over c d) s w)) ≡ sum r → GoodSum r
      divs z y h =
          let some : is_empty j ≡ false = g.good.0.inside ∙ z in
          let inner : GoodSum j = record { good = good_more 3 j g.good.1; room = omega (arith, g.room); some = some } in
          either GoodSum (is_one k p) (add_times (complex.over c d) s j) (and_then_sum (product (x_to p) j) (λ w. add_times (complex.over c d) s w)) r
          (add-times-good (complex.over c d) s j r inner.good some gs)
          (λ h. let w = then-sum (product (x_to p) j) (λ w. add_times (complex.over c d) s w) r h in
          let v = good-product (good-x_to p complex.one e.0.number one_number zero_number) inner w.1 in
          add-times-good (complex.over c d) s w.0 r v.good v.some gs w.2)
          h

      others : formed Add (entry Div (size (single l q j complex.one)) zero64 n) (single l q j complex.one) s ≡ sum r → GoodSum r
      others h =
          let f = g.good.0 in
          let one : GoodEntry l q j complex.one = record { least = f.least; most = f.most; number = f.number; none_else = f.none_else; re = one_number; im = zero_number; inside = f.inside } in
          good-formed Add (entry Div (size (single l q j complex.one)) zero64 n) (single l q j complex.one) s r
          (over-head Div (size (single l q j complex.one)) (single l q j complex.one) n (omega arith) (omega arith) refl refl (over-fits c d)) (one, g.good.1, tt, tt) gs h

      go : (a b v u : Bool) → eqb k X ≡ a → eqb l X ≡ b
          → (let code = cond a (cond b x_by_x (cond v x_by_div x_by_other)) (cond u 4 0) in
          cond (eqb code x_by_x) (formed Add (entry X 0 (cond (is_one k p) (neg q) (p ⊖ q)) n) none s)
          (cond (eqb code x_by_div) (cond (is_one k p) (add_times (complex.over c d) s j) (and_then_sum (product (x_to p) j) (λ w. add_times (complex.over c d) s w)))
          (cond (eqb code x_by_other) (formed Add (entry Div (size (single l q j complex.one)) zero64 n) (single l q j complex.one) s)
          (formed Add (entry X 0 one64 n) none s)))) ≡ sum r → GoodSum r
      go true true v u x y h = xs (is_one k p) h
      go true false true u x y h = divs y x h
      go true false false u x y h = others h
      go false b v true x y h = x-good one64 (of_bits-fits binary64 0x3ff0000000000000) h
      go false b v false x y h = x-good one64 (of_bits-fits binary64 0x3ff0000000000000) h

several-good : (a b r : Sum) → GoodSum a → GoodSum b → (f : Found) → div_by_several a b f ≡ sum r → GoodSum r
several-good a b r ga gb absent h = never h
several-good a b r ga gb (at c) h =
    either GoodSum (complex.same c complex.zero) (sum a) (cond (complex.same c complex.one) (alone Div zero64 b complex.one) (refused TooComplex)) r
    (λ e. subst GoodSum (sum_is e) ga)
    (either GoodSum (complex.same c complex.one) (alone Div zero64 b complex.one) (refused TooComplex) r
    (good-over Div complex.one (omega arith) (omega arith) refl (fits_bits 0x3ff0000000000000) gb) (λ e. never e))
    h

-- a quotient of two good sums
pub good-quotient : {s t r : Sum} → GoodSum s → GoodSum t → quotient s t ≡ sum r → GoodSum r
unfolding quotient
good-quotient {s} {t} {r} a b h = go t b h
  where
    go : (t : Sum) → GoodSum t → quotient s t ≡ sum r → GoodSum r
    go none b h = several-good s none r a b (as_constant s) h
    go (and l q j d none) b h =
        each-good (λ x i s. div_term (entry l (size j) q d) j x s) GoodTerm (div-good l q j d b) s none r (good-every s a.good) none-good (λ z. differ (sym z ∙ a.some))
        (unless-sum (all_divable (entry l (size j) q d) j s) TooComplex (each_into (λ x i s. div_term (entry l (size j) q d) j x s) none s) r h).1
    go (and l q j d (and m p k f u)) b h = several-good s (and l q j d (and m p k f u)) r a b (as_constant s) h

-- ---- powers and logarithms

raised-good : (n : ℕ) {acc s r : Sum} → GoodSum acc → GoodSum s → raised n acc s ≡ sum r → GoodSum r
unfolding raised
raised-good zero a b h = subst GoodSum (sum_is h) a
raised-good (suc n) {acc} {s} {r} a b h =
    let w = then-sum (product acc s) (λ acc'. raised n acc' s) r h in
    raised-good n (good-product a b w.1) b w.2

whole-good : (s r : Sum) (n : Option ℕ) → GoodSum s → whole_power s n ≡ sum r → GoodSum r
whole-good s r (Some zero) g h = subst GoodSum (sum_is h) good-zero
whole-good s r (Some (suc n)) g h = raised-good n g g h
whole-good s r None g h = never (unless-sum (mulable s s) TooComplex (refused BigPower) r h).1

root-fits : (c : Complex) (e : Float) → Fits (root_of_one c e)
root-fits c e = record { re = of_bits-fits binary64 _; im = cond-fits binary64 (is_whole e) zero64 (c.im ⊗ e) (of_bits-fits binary64 0) (mul-fits binary64 c.im e) }

rooted-good : (e : Float) (s r : Sum) → Good 4 s → is_empty s ≡ false → rooted e s ≡ sum r → GoodSum r
unfolding rooted Good
rooted-good e none r g n h = differ n
rooted-good e (and k p i c s) r g n h = go (eqb k X) refl h (rooted-good e i)
  where
    go : (b : Bool) → eqb k X ≡ b
        → cond b (alone X (p ⊗ e) none (root_of_one c e)) (and_then_sum (rooted e i) (λ w. alone Div zero64 w (root_of_one c e))) ≡ sum r
        → ((w : Sum) → Good 4 i → is_empty i ≡ false → rooted e i ≡ sum w → GoodSum w) → GoodSum r
    go true z h ih = good-alone (x-head (size none) (p ⊗ e) (root_of_one c e) (mul-fits binary64 p e) (root-fits c e)) none-good h
    go false z h ih =
        let w = then-sum (rooted e i) (λ w. alone Div zero64 w (root_of_one c e)) r h in
        good-over Div (root_of_one c e) (omega arith) (omega arith) refl (root-fits c e) (ih w.0 (good_more 3 i g.1) (g.0.inside ∙ z) w.1) w.2

-- a good sum to the power of a number
pub good-power : {s r : Sum} (e : Float) → GoodSum s → power s e ≡ sum r → GoodSum r
good-power {s} {r} e g h =
    either GoodSum (is_whole e && le zero64 e) (whole_power s (small_whole e)) (unless (rootable s) TooComplex (unless (unit_coefs s) NeedsMath (rooted e s))) r
    (whole-good s r (small_whole e) g)
    (λ h. rooted-good e s r g.good g.some (unless-sum (unit_coefs s) NeedsMath (rooted e s) r (unless-sum (rootable s) TooComplex (unless (unit_coefs s) NeedsMath (rooted e s)) r h).1).1)
    h

by-real : (f : Float → Outcome) (v : Found) (r : Sum) → ((c : Complex) → v ≡ at c → f c.re ≡ sum r → GoodSum r) → by_real v f ≡ sum r → GoodSum r
by-real f absent r k h = never h
by-real f (at c) r k h = k c refl (unless-sum (complex.is_real c) TooComplex (f c.re) r h).1

-- a good sum to the power of another
pub good-pow : {s t r : Sum} → GoodSum s → GoodSum t → pow s t ≡ sum r → GoodSum r
unfolding pow
good-pow {s} {t} {r} a b h =
    either GoodSum (is_euler (as_constant s) && is_x t) (alone Exp zero64 t complex.one) (by_real (as_constant t) (power s)) r
    (good-over Exp complex.one (omega arith) (omega arith) refl (fits_bits 0x3ff0000000000000) b)
    (by-real (power s) (as_constant t) r (λ c e h. good-power c.re a h))
    h

-- the number of a good constant fits
pub constant-fits : (s : Sum) (c : Complex) → Good 4 s → as_constant s ≡ at c → Fits c
unfolding as_constant Good
constant-fits none c g h = absurd (let z : ◌≡◌ {A = ℕ} 0 1 = cc in omega arith)
constant-fits (and k p i d none) c g h = go (is_one k p) h
  where
    go : (b : Bool) → cond b (at d) absent ≡ at c → Fits c
    go true h = subst Fits (cc) (good-head k 0 p i d g.0).coef
    go false h = absurd (let z : ◌≡◌ {A = ℕ} 0 1 = cc in omega arith)
constant-fits (and k p i d (and l q j f r)) c g h = absurd (let z : ◌≡◌ {A = ℕ} 0 1 = cc in omega arith)

-- a logarithm
pub good-log : {s t r : Sum} → GoodSum s → GoodSum t → log s t ≡ sum r → GoodSum r
unfolding log
good-log {s} {t} {r} a b h =
    by-real (λ base. alone Log base s complex.one) (as_constant t) r
    (λ c e h. good-alone (record {
      least = omega arith;
      most = omega arith;
      number = (constant-fits t c b.good e).re;
      none_else = λ z. differ z;
      coef = fits_bits 0x3ff0000000000000;
      inside = a.some;
    }) a.good h)
    h

-- ---- the primitives made of them

-- the square root
pub good-sqrt : {s r : Sum} → GoodSum s → sqrt s ≡ sum r → GoodSum r
good-sqrt g h = good-pow g good-half h

-- E to the power of a sum
pub good-exp : {s r : Sum} → GoodSum s → exp s ≡ sum r → GoodSum r
good-exp g h = good-pow good-euler g h

-- 2 to the power of a sum
pub good-exp2 : {s r : Sum} → GoodSum s → exp2 s ≡ sum r → GoodSum r
good-exp2 g h = good-pow good-two g h

-- 10 to the power of a sum
pub good-exp10 : {s r : Sum} → GoodSum s → exp10 s ≡ sum r → GoodSum r
good-exp10 g h = good-pow good-ten g h

-- the logarithm to the base E
pub good-ln : {s r : Sum} → GoodSum s → ln s ≡ sum r → GoodSum r
good-ln g h = good-log g good-euler h

-- the logarithm to the base 2
pub good-log2 : {s r : Sum} → GoodSum s → log2 s ≡ sum r → GoodSum r
good-log2 g h = good-log g good-two h

-- the logarithm to the base 10
pub good-log10 : {s r : Sum} → GoodSum s → log10 s ≡ sum r → GoodSum r
good-log10 g h = good-log g good-ten h

-- 1 divided by a sum
pub good-reciprocal : {s r : Sum} → GoodSum s → reciprocal s ≡ sum r → GoodSum r
good-reciprocal g h = good-quotient good-one g h

-- 1 minus a sum
pub good-not : {s r : Sum} → GoodSum s → not_sum s ≡ sum r → GoodSum r
good-not g h = good-sub good-one g h

-- b + a·i
pub good-complex : {s t r : Sum} → GoodSum s → GoodSum t → complex_sum s t ≡ sum r → GoodSum r
good-complex {s} {t} {r} a b h = go (as_constant s) (as_constant t) h
  where
    by_product : and_then_sum (product s (constant complex.imaginary)) (λ w. add_sums t w) ≡ sum r → GoodSum r
    by_product h = let w = then-sum (product s (constant complex.imaginary)) (λ w. add_sums t w) r h in good-add b (good-product a good-imaginary w.1) w.2

    go : (f g : Found) → complex_of s t f g ≡ sum r → GoodSum r
    go (at c) (at d) h = good-alone (x-head (size none) zero64 (complex.plus (complex.times c complex.imaginary) d) (of_bits-fits binary64 0)
        (fits-plus (complex.times c complex.imaginary) d)) none-good h
    go (at c) absent h = by_product h
    go absent d h = by_product h
