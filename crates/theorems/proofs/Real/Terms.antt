-- Every sum that the arithmetic of sums answers of real sums is real. Assumes nothing.
use Prim.Native.Nat.{ℕ, zero, suc}
use mathlib.Core.Path.{◌≡◌, subst}
use mathlib.Core.Bool.{◌&&◌, cond}
use lib.Dec.{T, eqb}
use lib.Ieee.{Float, le, neg}
use Rattle.std.specs.Prelude.{Option, Some, None}
use Rattle.numbers.specs.Numbers.{is_whole, small_whole}
use Rattle.numbers.specs.Ops.{◌⊕◌, ◌⊖◌, ◌⊗◌}
use Rattle.numbers.specs.Signs.{zero64, one64}
use Rattle.std.specs.declared.cmp.Ordering.{Ordering}
use Rattle.std.specs.declared.cmp.Ordering.TheVariants.{Less, Equal, Greater}
use Rattle.numbers.proofs.Bools.{T_of}
use Rattle.numbers.specs.declared.complex.Complex.{Complex}
use Rattle.numbers.specs.Complex.Arith as complex
use Rattle.numbers.specs.Complex.Contract.Real.{Real}
use Rattle.numbers.proofs.complex.Real.{real-negated}
use Rattle.cells.specs.declared.Entry.{Entry}
use Rattle.sums.specs.declared.tree.Merge.{Merge}
use Rattle.sums.specs.declared.tree.Merge.TheVariants.{Add, Store}
use Rattle.limits.specs.declared.Refusal.TheVariants.{TooComplex, NeedsMath, BigPower}
use Rattle.sums.specs.Tree.Kinds.{X, Div, Log, Exp}
use Rattle.sums.specs.Tree.Sums.{Sum, none, and, size, entry}
use Rattle.sums.specs.Tree.Order.{cmp_term}
use Rattle.sums.specs.Tree.Map.{by_order, merged, coef_in, put_in, Outcome, sum, refused, Found, at, absent, and_then_sum, unless, formed, each_into}
use Rattle.sums.proofs.tree.Keeps.{put_by, formed-sum}
use Rattle.arithmetic.specs.Outcomes.{quotient_code, x_by_x, x_by_div, x_by_other}
use Rattle.arithmetic.specs.Singles.{is_one, single, alone, constant, as_constant, is_x, with_coef}
use Rattle.arithmetic.specs.Adding.{neg_sum, add_sums, sub_sums}
use Rattle.arithmetic.specs.Product.{mulable, mul_term, mul_into, product}
use Rattle.arithmetic.specs.Quotient.{x_to, all_divable, add_times, div_term, div_by_several, quotient}
use Rattle.arithmetic.specs.Power.{raised, whole_power, rootable, unit_coefs, root_of_one, rooted, power, by_real, is_euler, pow, log}
use Rattle.arithmetic.proofs.Steps.{never, sum_is, then-sum, unless-sum, either}
use Rattle.theorems.specs.Reals.{RealSum}
use Rattle.theorems.proofs.Real.Coefs.{RealOnce, real-is, negated-real, times-real, over-real, merged-real, root-real}

-- ---- entries formed

-- a map that starts empty
pub none-real : RealSum none
unfolding RealSum
none-real = tt

-- one real term
pub single-real : (k : ℕ) (p : Float) (i : Sum) (c : Complex) → Real c → RealSum i → RealSum (single k p i c)
unfolding RealSum
single-real k p i c h hi = (h, hi, tt)

-- a constant by its real part alone
pub constant_real : (x : Float) → RealSum (constant (complex.real x))
constant_real x = single-real X zero64 none (complex.real x) (real-is x) none-real

put-real : (m : Merge) (x : Entry) (t s : Sum) → RealOnce x.coef → RealSum t → RealSum s → T (complex.all_finite (coef_in m x t s)) → RealSum (put_in m x t s)
unfolding put_in coef_in RealSum
put-real m x t none p ht hs f = (merged-real m complex.zero x.coef (λ z. real-is zero64) p f, ht, tt)
put-real m x t (and l q j d r) p ht hs f = go (cmp_term x t (entry l (size j) q d) j) f (put-real m x t r p ht hs.2)
  where
    go : (o : Ordering) → T (complex.all_finite (by_order o (merged m complex.zero x.coef) (merged m d x.coef) (coef_in m x t r)))
        → (T (complex.all_finite (coef_in m x t r)) → RealSum (put_in m x t r)) → RealSum (put_by m x t l q j d r o)
    go Less f k = (merged-real m complex.zero x.coef (λ z. real-is zero64) p f, ht, hs)
    go Equal f k = (merged-real m d x.coef (λ z. hs.0) p f, hs.1, hs.2)
    go Greater f k = (hs.0, hs.1, k f)

-- an entry formed in a real sum, with a coefficient that is real if it is finite
pub formed-real : (m : Merge) (x : Entry) (t s r : Sum) → RealOnce x.coef → RealSum t → RealSum s → formed m x t s ≡ sum r → RealSum r
formed-real m x t s r p ht hs h = let f = formed-sum m x t s r h in rw f.is (put-real m x t s p ht hs (T_of f.coef))

-- one term formed as a sum of its own
pub alone-real : (k : ℕ) (p : Float) (i : Sum) (c : Complex) (r : Sum) → RealOnce c → RealSum i → alone k p i c ≡ sum r → RealSum r
alone-real k p i c r h hi e = formed-real Store (entry k (size i) p c) i none r h hi none-real e

-- a step for one real entry that leaves a real sum
abbrev pub StepReal : (Entry → Sum → Sum → Outcome) → Type 0
StepReal f = (l : ℕ) (q : Float) (j : Sum) (d : Complex) (s r : Sum) → Real d → RealSum j → RealSum s → f (entry l (size j) q d) j s ≡ sum r → RealSum r

-- where each step leaves a real sum, so does the whole
pub each-real : (f : Entry → Sum → Sum → Outcome) → StepReal f → (t s r : Sum) → RealSum t → RealSum s → each_into f s t ≡ sum r → RealSum r
unfolding each_into RealSum
each-real f step none s r ht hs h = subst RealSum (sum_is h) hs
each-real f step (and l q j d t) s r ht hs h =
    let w = then-sum (f (entry l (size j) q d) j s) (λ (u : Sum). each_into f u t) r h in
    each-real f step t w.0 r ht.2 (step l q j d s w.0 ht.0 ht.1 hs w.1) w.2

-- ---- sums negated, added and taken away

-- a sum negated
pub neg-real : (s : Sum) → RealSum s → RealSum (neg_sum s)
unfolding neg_sum RealSum
neg-real none h = tt
neg-real (and k p i c r) h = (real-negated c h.0, h.1, neg-real r h.2)

module _ (g : Complex → Complex) (real-g : (c : Complex) → Real c → RealOnce (g c)) where
  changed-real : (t s r : Sum) → RealSum t → RealSum s → each_into (λ x u v. formed Add (with_coef x (g x.coef)) u v) s t ≡ sum r → RealSum r
  changed-real = each-real (λ x u v. formed Add (with_coef x (g x.coef)) u v) (λ l q j d s r h hj hs o. formed-real Add (entry l (size j) q (g d)) j s r (real-g d h) hj hs o)

-- a sum of two real sums
pub add-real : (s t r : Sum) → RealSum s → RealSum t → add_sums s t ≡ sum r → RealSum r
add-real s t r hs ht h = changed-real (λ c. c) (λ c p f. p) t s r ht hs h

-- a difference
pub sub-real : (s t r : Sum) → RealSum s → RealSum t → sub_sums s t ≡ sum r → RealSum r
sub-real s t r hs ht h = changed-real complex.negated (λ c p. negated-real c (λ f. p)) t s r ht hs h

-- ---- products

-- one term times each of a sum, where g gives products with its inside
row-real : (x : Entry) (g : Sum → Outcome) → Real x.coef → ((v w : Sum) → RealSum v → g v ≡ sum w → RealSum w)
    → (t s r : Sum) → RealSum t → RealSum s → each_into (mul_term x g) s t ≡ sum r → RealSum r
row-real x g p ih = each-real (mul_term x g) step
  where
    step : StepReal (mul_term x g)
    step l q j d s r h hj hs e =
        let c = complex.times x.coef d in
        let real = times-real x.coef d (λ f. p) (λ f. h) in
        either RealSum (eqb x.kind X) (formed Add (entry X 0 (x.num ⊕ q) c) none s) (and_then_sum (g j) (λ w. formed Add (entry Div (size w) zero64 c) w s)) r
        (formed-real Add (entry X 0 (x.num ⊕ q) c) none s r real none-real hs)
        (λ o. let w = then-sum (g j) (λ w. formed Add (entry Div (size w) zero64 c) w s) r o in
        formed-real Add (entry Div (size w.0) zero64 c) w.0 s r real (ih j w.0 hj w.1) hs w.2)
        e

mul-real : (a b s r : Sum) → RealSum a → RealSum b → RealSum s → mul_into a b s ≡ sum r → RealSum r
unfolding mul_into RealSum
mul-real none b s r ha hb hs h = subst RealSum (sum_is h) hs
mul-real (and k p i c a) b s r ha hb hs h =
    let w = then-sum (each_into (mul_term (entry k (size i) p c) (λ v. mul_into i v none)) s b) (λ u. mul_into a b u) r h in
    let u = row-real (entry k (size i) p c) (λ v. mul_into i v none) ha.0 (λ v y hv o. mul-real i v none y ha.1 hv none-real o) b s w.0 hb hs w.1 in
    mul-real a b w.0 r ha.2 hb u w.2

-- a product of two real sums
pub product-real : (s t r : Sum) → RealSum s → RealSum t → product s t ≡ sum r → RealSum r
unfolding product
product-real s t r hs ht h = mul-real s t none r hs ht none-real (unless-sum (mulable s t) TooComplex (mul_into s t none) r h).1

-- ---- quotients

module _ (l : ℕ) (q : Float) (j : Sum) (d : Complex) (hd : Real d) (hj : RealSum j) where
  -- one term divided by a real one
  div-real : StepReal (λ x i s. div_term (entry l (size j) q d) j x s)
  div-real k p i c s r h hi hs e =
      either RealSum (eqb code x_by_x) (formed Add (entry X 0 (cond (is_one k p) (neg q) (p ⊖ q)) n) none s) o3 r
      (formed-real Add (entry X 0 (cond (is_one k p) (neg q) (p ⊖ q)) n) none s r real none-real hs)
      (either RealSum (eqb code x_by_div) o2 o1 r divs
      (either RealSum (eqb code x_by_other) (formed Add (entry Div (size unit) zero64 n) unit s) (formed Add (entry X 0 one64 n) none s) r
      (formed-real Add (entry Div (size unit) zero64 n) unit s r real (single-real l q j complex.one (real-is one64) hj) hs)
      (formed-real Add (entry X 0 one64 n) none s r real none-real hs)))
      e
    where
      code : ℕ
      code = quotient_code k l

      n : Complex
      n = complex.times (complex.over c d) complex.one

      unit : Sum
      unit = single l q j complex.one

      ratio : RealOnce (complex.over c d)
      ratio = over-real c d (λ f. h) (λ f. hd)

      real : RealOnce n
      real = times-real (complex.over c d) complex.one ratio (λ f. real-is one64)

      o1 : Outcome
      o1 = cond (eqb code x_by_other) (formed Add (entry Div (size unit) zero64 n) unit s) (formed Add (entry X 0 one64 n) none s)

      o2 : Outcome
      o2 = cond (is_one k p) (add_times (complex.over c d) s j) (and_then_sum (product (x_to p) j) (λ w. add_times (complex.over c d) s w))

      o3 : Outcome
      o3 = cond (eqb code x_by_div) o2 o1

      -- a real sum times the ratio is added
      added : (w : Sum) → RealSum w → add_times (complex.over c d) s w ≡ sum r → RealSum r
      added w hw o = changed-real (complex.times (complex.over c d)) (λ b hb. times-real (complex.over c d) b ratio (λ f. hb)) w s r hw hs o

      divs : o2 ≡ sum r → RealSum r
      divs o =
          either RealSum (is_one k p) (add_times (complex.over c d) s j) (and_then_sum (product (x_to p) j) (λ w. add_times (complex.over c d) s w)) r
          (added j hj)
          (λ o. let w = then-sum (product (x_to p) j) (λ w. add_times (complex.over c d) s w) r o in
          added w.0 (product-real (x_to p) j w.0 (single-real X p none complex.one (real-is one64) none-real) hj w.1) w.2)
          o

several-real : (a b r : Sum) → RealSum a → RealSum b → (f : Found) → div_by_several a b f ≡ sum r → RealSum r
several-real a b r ha hb absent h = never h
several-real a b r ha hb (at c) h =
    either RealSum (complex.same c complex.zero) (sum a) (cond (complex.same c complex.one) (alone Div zero64 b complex.one) (refused TooComplex)) r
    (λ e. subst RealSum (sum_is e) ha)
    (either RealSum (complex.same c complex.one) (alone Div zero64 b complex.one) (refused TooComplex) r (alone-real Div zero64 b complex.one r (λ f. real-is one64) hb) (λ e. never e))
    h

-- a quotient of two real sums
pub quotient-real : (s t r : Sum) → RealSum s → RealSum t → quotient s t ≡ sum r → RealSum r
unfolding quotient RealSum
quotient-real s none r hs ht h = several-real s none r hs ht (as_constant s) h
quotient-real s (and l q j d none) r hs ht h =
    each-real (λ x i s. div_term (entry l (size j) q d) j x s) (div-real l q j d ht.0 ht.1) s none r hs none-real
    (unless-sum (all_divable (entry l (size j) q d) j s) TooComplex (each_into (λ x i s. div_term (entry l (size j) q d) j x s) none s) r h).1
quotient-real s (and l q j d (and m p k f u)) r hs ht h = several-real s (and l q j d (and m p k f u)) r hs ht (as_constant s) h

-- ---- powers and logarithms

raised-real : (n : ℕ) (acc s r : Sum) → RealSum acc → RealSum s → raised n acc s ≡ sum r → RealSum r
unfolding raised
raised-real zero acc s r ha hs h = subst RealSum (sum_is h) ha
raised-real (suc n) acc s r ha hs h =
    let w = then-sum (product acc s) (λ acc'. raised n acc' s) r h in
    raised-real n w.0 s r (product-real acc s w.0 ha hs w.1) hs w.2

whole-real : (s r : Sum) (n : Option ℕ) → RealSum s → whole_power s n ≡ sum r → RealSum r
whole-real s r (Some zero) hs h = subst RealSum (sum_is h) (constant_real zero64)
whole-real s r (Some (suc n)) hs h = raised-real n s s r hs hs h
whole-real s r None hs h = never (unless-sum (mulable s s) TooComplex (refused BigPower) r h).1

rooted-real : (e : Float) (s r : Sum) → RealSum s → rooted e s ≡ sum r → RealSum r
unfolding rooted RealSum
rooted-real e none r hs h = subst RealSum (sum_is h) tt
rooted-real e (and k p i c s) r hs h =
    either RealSum (eqb k X) (alone X (p ⊗ e) none (root_of_one c e)) (and_then_sum (rooted e i) (λ w. alone Div zero64 w (root_of_one c e))) r
    (alone-real X (p ⊗ e) none (root_of_one c e) r (root-real c e hs.0) none-real)
    (λ o. let w = then-sum (rooted e i) (λ w. alone Div zero64 w (root_of_one c e)) r o in
    alone-real Div zero64 w.0 (root_of_one c e) r (root-real c e hs.0) (rooted-real e i w.0 hs.1 w.1) w.2)
    h

-- a real sum to the power of a number
pub power-real : (s r : Sum) (e : Float) → RealSum s → power s e ≡ sum r → RealSum r
power-real s r e hs h =
    either RealSum (is_whole e && le zero64 e) (whole_power s (small_whole e)) (unless (rootable s) TooComplex (unless (unit_coefs s) NeedsMath (rooted e s))) r
    (whole-real s r (small_whole e) hs)
    (λ h. rooted-real e s r hs (unless-sum (unit_coefs s) NeedsMath (rooted e s) r (unless-sum (rootable s) TooComplex (unless (unit_coefs s) NeedsMath (rooted e s)) r h).1).1)
    h

by-real : (f : Float → Outcome) (v : Found) (r : Sum) → ((x : Float) → f x ≡ sum r → RealSum r) → by_real v f ≡ sum r → RealSum r
by-real f absent r k h = never h
by-real f (at c) r k h = k c.re (unless-sum (complex.is_real c) TooComplex (f c.re) r h).1

-- a real sum to the power of another
pub pow-real : (s t r : Sum) → RealSum s → RealSum t → pow s t ≡ sum r → RealSum r
unfolding pow
pow-real s t r hs ht h =
    either RealSum (is_euler (as_constant s) && is_x t) (alone Exp zero64 t complex.one) (by_real (as_constant t) (power s)) r
    (alone-real Exp zero64 t complex.one r (λ f. real-is one64) ht)
    (by-real (power s) (as_constant t) r (λ x o. power-real s r x hs o))
    h

-- a logarithm
pub log-real : (s t r : Sum) → RealSum s → log s t ≡ sum r → RealSum r
unfolding log
log-real s t r hs h = by-real (λ base. alone Log base s complex.one) (as_constant t) r (λ x o. alone-real Log x s complex.one r (λ f. real-is one64) hs o) h
