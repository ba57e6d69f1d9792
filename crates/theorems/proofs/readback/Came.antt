-- The sum so far, and the next term added to it: its power is above all that came, and below, at or above that of 0·x, if that is there. Assumes nothing.
use Prim.Native.Nat.{ℕ, suc, ◌+◌, ◌≤◌}
use mathlib.Core.Path.{◌≡◌, refl, sym, ap, ◌∙◌, subst}
use mathlib.Core.Bool.{Bool, true, false, not, ◌&&◌, ◌||◌, cond, true≢false}
use mathlib.Core.List.{List, [], ◌∷◌, ◌++◌}
use mathlib.Core.Logic.{◌⊎◌, inl, inr}
use native.Mathlib.Omega.{arith}
use borrow.Author.Tests.{le-leb}
use lib.Dec.{T}
use lib.ListN.{length, length-append}
use lib.Ieee.{Float, binary64, of_bits, eq, lt, add}
use lib.Ieee.Bits.{of_bits-fits}
use lib.Ieee.Scale.{finite}
use Rattle.numbers.specs.Signs.{zero64, one64, Zero}
use Rattle.numbers.specs.Order.{cmp_num}
use Rattle.std.specs.declared.cmp.Ordering.TheVariants.{Less, Equal, Greater}
use Rattle.numbers.proofs.Bools.{T_of, and-false}
use Rattle.numbers.proofs.Zeros.{eq_self, zero_test}
use Rattle.numbers.proofs.Finite.{zero-is-finite}
use Rattle.numbers.proofs.Order.{eq-same, OneOf, first, second, third, lt-irreflexive, lt-transitive, lt-total, lt-eq-left, lt-eq-right, eq-symmetric, cmp-less, cmp-greater, cmp-self}
use Rattle.numbers.specs.declared.complex.Complex.{Complex}
use Rattle.numbers.specs.Complex.Arith as complex
use Rattle.sums.specs.declared.tree.Merge.TheVariants.{Add}
use Rattle.sums.specs.Tree.Kinds.{X}
use Rattle.sums.specs.Tree.Order.{cmp_each}
use Rattle.sums.specs.Tree.Sums.{Sum, none, and, size, len, levels, entry}
use Rattle.sums.specs.Tree.Good.{is_number}
use Rattle.sums.specs.Tree.Map.{sum, coef_in, put_in, formed, each_into}
use Rattle.arithmetic.specs.Singles.{single}
use Rattle.arithmetic.specs.Adding.{add_sums}
use Rattle.theorems.proofs.Speed.Steps.{number-finite}
use Rattle.theorems.specs.Readback.Terms.{Term, term, has_power, nought_x}
use Rattle.theorems.specs.Readback.ReadBack.{SameTerm}
use Rattle.theorems.proofs.readback.Powers.{one-finite}
use Rattle.theorems.proofs.readback.Steps.{or-false, number_fits}
use Rattle.theorems.proofs.readback.Pieces.{Like, Fair, like-plus, like-finite, TermMade, of-constant, of-power, zero-below-one}

-- ---- powers that are all below, or all above, another

-- q is above them all
unfoldable pub Over : Float → List Term → Type 0
Over q [] = Unit {0}
Over q (t ∷ ts) = (lt t.power q ≡ true) × Over q ts

-- q is below them all
unfoldable pub Below : Float → List Term → Type 0
Below q [] = Unit {0}
Below q (t ∷ ts) = (lt q t.power ≡ true) × Below q ts

unfoldable pub Finite : List Term → Type 0
Finite [] = Unit {0}
Finite (t ∷ ts) = T (finite t.power) × Finite ts

pub over-next : (q : Float) (ts : List Term) (t : Term) → Over q ts → lt t.power q ≡ true → Over q (ts ++ t ∷ [])
unfolding Over
over-next q [] t o l = (l, tt)
over-next q (s ∷ ts) t o l = (o.0, over-next q ts t o.1 l)

below_next : (q : Float) (ts : List Term) (t : Term) → Below q ts → lt q t.power ≡ true → Below q (ts ++ t ∷ [])
unfolding Below
below_next q [] t o l = (l, tt)
below_next q (s ∷ ts) t o l = (o.0, below_next q ts t o.1 l)

pub finite-next : (ts : List Term) (t : Term) → Finite ts → T (finite t.power) → Finite (ts ++ t ∷ [])
unfolding Finite
finite-next [] t o l = (l, tt)
finite-next (s ∷ ts) t o l = (o.0, finite-next ts t o.1 l)

over-up : (p q : Float) (ts : List Term) → Over p ts → lt p q ≡ true → Over q ts
unfolding Over
over-up p q [] o l = tt
over-up p q (t ∷ ts) o l = (lt-transitive t.power p q o.0 l, over-up p q ts o.1 l)

over-same : (p q : Float) (ts : List Term) → T (finite p) → T (finite q) → Finite ts → Over p ts → eq p q ≡ true → Over q ts
unfolding Over Finite
over-same p q [] fp fq f o e = tt
over-same p q (t ∷ ts) fp fq f o e = (sym (lt-eq-right t.power p q f.0 fp fq e) ∙ o.0, over-same p q ts fp fq f.1 o.1 e)

not_same : (p q : Float) → T (finite p) → T (finite q) → lt p q ≡ true → eq p q ≡ false
not_same p q fp fq l = go (eq p q) refl
  where
    go : (b : Bool) → eq p q ≡ b → b ≡ false
    go true e = sym l ∙ lt-eq-left p q q fp fq fq e ∙ lt-irreflexive q
    go false e = refl

-- x to the q isn't among them
no_power : (q : Float) (ts : List Term) → T (finite q) → Finite ts → Over q ts → has_power q ts ≡ false
unfolding Over Finite has_power
no_power q [] fq f o = refl
no_power q (t ∷ ts) fq f o = rw (not_same t.power q f.0 fq o.0) (no_power q ts fq f.1 o.1)

or-true : (b : Bool) → (b || true) ≡ true
or-true true = refl
or-true false = refl

power-next : (q : Float) (ts : List Term) (t : Term) → has_power q (ts ++ t ∷ []) ≡ has_power q ts || eq t.power q
unfolding has_power
power-next q [] t = or-false (eq t.power q)
power-next q (s ∷ ts) t = ap (λ (b : Bool). eq s.power q || b) (power-next q ts t) ∙ or-join (eq s.power q) (has_power q ts) (eq t.power q)
  where
    or-join : (a b c : Bool) → (a || (b || c)) ≡ ((a || b) || c)
    or-join true b c = refl
    or-join false b c = refl

-- ---- the sum so far

-- an entry of it is a term read back
pub record Kept (t : Term) (p : Float) (d : Complex) : Type 0 where
  pub same : SameTerm t (term p d)
  pub here : T (finite p)
  pub there : T (finite t.power)

-- the terms came, in order; the Bool says whether 0·x is among them
pub data Came : Bool → List Term → Sum → Type 0 where
  nothing : Came false [] none
  next : {e : Bool} {t : Term} {ts : List Term} {p : Float} {d : Complex} {u : Sum} → Kept t p d → Came e ts u → Came e (t ∷ ts) (and X p none d u)
  extra : {ts : List Term} {u : Sum} → Below one64 ts → Came false ts u → Came true ts (and X one64 none complex.zero u)

pub came-size : {e : Bool} {ts : List Term} {u : Sum} → Came e ts u → size u ≡ length ts + cond e 1 0
unfolding size
came-size nothing = refl
came-size (next k c) = let h = came-size c in omega arith
came-size (extra b c) = let h = came-size c in omega arith

-- ---- one entry put in

module _ (n : ℕ) (p : Float) (d : Complex) (q : Float) (c : Complex) (u : Sum) where
  record Here (k : Complex) (v : Sum) : Type 0 where
    coef : coef_in Add (entry X n p d) none (and X q none c u) ≡ k
    put : put_in Add (entry X n p d) none (and X q none c u) ≡ v

  put-greater : cmp_num p q ≡ Greater → Here (coef_in Add (entry X n p d) none u) (and X q none c (put_in Add (entry X n p d) none u))
  unfolding coef_in put_in cmp_each len
  put-greater e = record { coef = rw e; put = rw e }

  put-less : cmp_num p q ≡ Less → Here (complex.plus complex.zero d) (and X p none (complex.plus complex.zero d) (and X q none c u))
  unfolding coef_in put_in cmp_each len
  put-less e = record { coef = rw e; put = rw e }

  put-equal : cmp_num p q ≡ Equal → Here (complex.plus c d) (and X q none (complex.plus c d) u)
  unfolding coef_in put_in cmp_each len
  put-equal e = record { coef = rw e; put = rw e }

-- the entry x put into u has the coefficient k, and what came then is this
record Put (p : Float) (d : Complex) (u : Sum) (k : Complex) (e : Bool) (ts : List Term) : Type 0 where
  coef : coef_in Add (entry X 0 p d) none u ≡ k
  came : Came e ts (put_in Add (entry X 0 p d) none u)

-- past an entry below it
past : {b : Bool} {t : Term} {us : List Term} {p q : Float} {c d k : Complex} {u : Sum} → Kept t q c → T (finite p) → lt t.power p ≡ true → Put p d u k b us
    → Put p d (and X q none c u) k b (t ∷ us)
past {b = b} {t = t} {us = us} {p = p} {q = q} {c = c} {d = d} {u = u} g fp l h =
    let low : lt q p ≡ true = lt-eq-left q t.power p g.here g.there fp g.same.power ∙ l in
    let z = put-greater 0 p d q c u ((cmp-greater p q).1 low) in
    record { coef = z.coef ∙ h.coef; came = subst (λ (v : Sum). Came b (t ∷ us) v) (sym z.put) (next g h.came) }

-- no power lies both above 1 and below one that isn't above 1
none_between : {A : Type 0} (p : Float) (t : Term) → lt one64 t.power ≡ true → lt t.power p ≡ true → lt one64 p ≡ false → A
none_between p t a b c = absurd (true≢false (sym (lt-transitive one64 t.power p a b) ∙ c))

module _ (t : Term) (p : Float) (d : Complex) (g : Kept t p (complex.plus complex.zero d)) where
  -- a new key: before 0·x, or last
  put-new : {e : Bool} {ts : List Term} {u : Sum} → Came e ts u → Over p ts → (e ≡ true → eq p one64 ≡ false) → Put p d u (complex.plus complex.zero d) e (ts ++ t ∷ [])
  unfolding Over Below coef_in put_in
  put-new nothing o n = record { coef = refl; came = next g nothing }
  put-new (next k c) o n = past k g.here o.0 (put-new c o.1 n)
  put-new {ts = ts} (extra {u = u} b c) o n = go (lt p one64) (eq p one64) (lt one64 p) (lt-total p one64 g.here (T_of one-finite)) refl refl refl (put-new c o (λ f. absurd (true≢false (sym f))))
    where
      go : (l e m : Bool) → OneOf l e m → lt p one64 ≡ l → eq p one64 ≡ e → lt one64 p ≡ m → Put p d u (complex.plus complex.zero d) false (ts ++ t ∷ [])
          → Put p d (and X one64 none complex.zero u) (complex.plus complex.zero d) true (ts ++ t ∷ [])
      go true false false first l e m h = before ts b c o
        where
          before : (ts : List Term) → Below one64 ts → Came false ts u → Over p ts → Put p d (and X one64 none complex.zero u) (complex.plus complex.zero d) true (ts ++ t ∷ [])
          before [] b c o =
              let z = put-less 0 p d one64 complex.zero u ((cmp-less p one64).1 l) in
              record { coef = z.coef; came = subst (λ (v : Sum). Came true (t ∷ []) v) (sym z.put) (next g (extra b c)) }
          before (s ∷ ts) b c o = none_between p s b.0 o.0 m
      go false true false second l e m h = absurd (true≢false (sym e ∙ n refl))
      go false false true third l e m h =
          let z = put-greater 0 p d one64 complex.zero u ((cmp-greater p one64).1 m) in
          let above : lt one64 t.power ≡ true = sym (lt-eq-right one64 p t.power (T_of one-finite) g.here g.there g.same.power) ∙ m in
          record { coef = z.coef ∙ h.coef; came = subst (λ (v : Sum). Came true (ts ++ t ∷ []) v) (sym z.put) (extra (below_next one64 ts t b above) h.came) }
      go false false false x18 l e m h = elim x18 [ ]
      go false true true x19 l e m h = elim x19 [ ]
      go true false true x19 l e m h = elim x19 [ ]
      go true true _ x15 l e m h = elim x15 [ ]

-- x itself, where 0·x is there
put-x : (t : Term) (d : Complex) → Kept t one64 (complex.plus complex.zero d) → {ts : List Term} {u : Sum} → Came true ts u → Over one64 ts
    → Put one64 d u (complex.plus complex.zero d) false (ts ++ t ∷ [])
unfolding Over Below
put-x t d g (next k c) o = past k g.here o.0 (put-x t d g c o.1)
put-x t d g {ts} (extra {u = u} b c) o = at ts b c o
  where
    at : (ts : List Term) → Below one64 ts → Came false ts u → Over one64 ts → Put one64 d (and X one64 none complex.zero u) (complex.plus complex.zero d) false (ts ++ t ∷ [])
    at [] b c o =
        let z = put-equal 0 one64 d one64 complex.zero u (cmp-self one64) in
        record { coef = z.coef; came = subst (λ (v : Sum). Came false (t ∷ []) v) (sym z.put) (next g c) }
    at (s ∷ ts) b c o = none_between one64 s b.0 o.0 (lt-irreflexive one64)

zero-and-zero : complex.plus complex.zero complex.zero ≡ complex.zero
unfolding of_bits add
zero-and-zero = refl

-- 0·x, last
put-extra : {ts : List Term} {u : Sum} → Came false ts u → Over one64 ts → Put one64 complex.zero u complex.zero true ts
unfolding Over Below coef_in put_in
put-extra nothing o = record { coef = zero-and-zero; came = rw zero-and-zero (extra tt nothing) }
put-extra (next k c) o = past k (T_of one-finite) o.0 (put-extra c o.1)

-- ---- formed

entry-formed : {e : Bool} {ts : List Term} {p : Float} {d k : Complex} {u : Sum} → finite p ≡ true → complex.all_finite k ≡ true → length ts ≤ 63 → Put p d u k e ts
    → formed Add (entry X 0 p d) none u ≡ sum (put_in Add (entry X 0 p d) none u)
unfolding formed levels
entry-formed {e} {ts} {p} {d} {k} {u} fp fk few h = rw (fp, h.coef, fk, le-leb (size (put_in Add (entry X 0 p d) none u)) 64 (most e (came-size h.came)))
  where
    most : (b : Bool) {n : ℕ} → n ≡ length ts + cond b 1 0 → n ≤ 64
    most true s = omega arith
    most false s = omega arith

-- ---- added

-- whether 0·x is there once these came
abbrev pub extra_in : List Term → Bool
extra_in ts = has_power zero64 ts && not (has_power one64 ts)

pub record Added (u v : Sum) (ts : List Term) : Type 0 where
  pub to : Sum
  pub is : add_sums u v ≡ sum to
  pub came : Came (extra_in ts) ts to

pub same-term : (t : Term) (d : Complex) → T (finite t.power) → Like t.coef d → SameTerm t (term t.power d)
same-term t d f l = record { power = eq_self t.power f; exact = λ n. refl; re = l.re; im = l.im }

pub same-constant : (t : Term) (d : Complex) → eq t.power zero64 ≡ true → Like t.coef d → SameTerm t (term zero64 d)
same-constant t d e l = record { power = eq-symmetric zero64 t.power ∙ e; exact = λ n. absurd (true≢false (sym e ∙ n)); re = l.re; im = l.im }

module _ (t : Term) (num : T (is_number t.power)) (g : Fair t.coef) (ts : List Term) (fs : Finite ts) (o : Over t.power ts) (few : suc (length ts) ≤ 63) (u : Sum) where
  f : T (finite t.power)
  f = T_of (number-finite t.power num)

  few-next : length (ts ++ t ∷ []) ≤ 63
  few-next = omega (arith, length-append ts (t ∷ []))

  -- one entry
  added-one : {p : Float} {d k : Complex} → finite p ≡ true → complex.all_finite k ≡ true → Put p d u k (extra_in (ts ++ t ∷ [])) (ts ++ t ∷ []) → Added u (single X p none d) (ts ++ t ∷ [])
  unfolding each_into size
  added-one {p} {d} fp fk h = record { to = put_in Add (entry X 0 p d) none u; is = rw (entry-formed fp fk few-next h); came = h.came }

  added-power : {d : Complex} → eq t.power zero64 ≡ false → Like t.coef d → Came (extra_in ts) ts u → Added u (single X t.power none d) (ts ++ t ∷ [])
  added-power {d} n l c = go (eq t.power one64) refl
    where
      like : Like t.coef (complex.plus complex.zero d)
      like = like-plus t.coef g l

      kept : Kept t t.power (complex.plus complex.zero d)
      kept = record { same = same-term t (complex.plus complex.zero d) f like; here = f; there = f }

      put : {e : Bool} → Put t.power d u (complex.plus complex.zero d) e (ts ++ t ∷ []) → e ≡ extra_in (ts ++ t ∷ []) → Added u (single X t.power none d) (ts ++ t ∷ [])
      put h e = added-one (number-finite t.power num) (like-finite t.coef g like) (subst (λ (b : Bool). Put t.power d u (complex.plus complex.zero d) b (ts ++ t ∷ [])) e h)

      go : (b : Bool) → eq t.power one64 ≡ b → Added u (single X t.power none d) (ts ++ t ∷ [])
      go false e = put (put-new t t.power d kept c o (λ z. e)) (rw (power-next zero64 ts t, power-next one64 ts t, n, e, or-false (has_power zero64 ts), or-false (has_power one64 ts)))
      go true e = by (extra_in ts) c
        where
          is_one : t.power ≡ one64
          is_one = by-same (eq-same binary64 t.power one64 (number_fits t.power num) (of_bits-fits binary64 0x3ff0000000000000) e)
            where
              by-same : (t.power ≡ one64) ⊎ (Zero t.power × Zero one64) → t.power ≡ one64
              by-same (inl e) = e
              by-same (inr e) = absurd (true≢false (sym ((zero_test t.power).1 e.0) ∙ n))

          ends-false : false ≡ extra_in (ts ++ t ∷ [])
          ends-false = rw (power-next one64 ts t, e, or-true (has_power one64 ts), and-false (has_power zero64 (ts ++ t ∷ [])))

          by : (b : Bool) → Came b ts u → Added u (single X t.power none d) (ts ++ t ∷ [])
          by true c =
              put (subst (λ (q : Float). Put q d u (complex.plus complex.zero d) false (ts ++ t ∷ [])) (sym is_one)
              (put-x t d (subst (λ (q : Float). Kept t q (complex.plus complex.zero d)) is_one kept) c (subst (λ (q : Float). Over q ts) is_one o)))
              ends-false
          by false c = put (put-new t t.power d kept c o (λ z. absurd (true≢false (sym z)))) ends-false

  -- a constant, and 0·x with it
  added-constant : {d : Complex} → eq t.power zero64 ≡ true → Like t.coef d → Came (extra_in ts) ts u → Added u (and X zero64 none d nought_x) (ts ++ t ∷ [])
  unfolding each_into size
  added-constant {d} z l c = record {
    to = put_in Add (entry X 0 one64 complex.zero) none v;
    is = rw (entry-formed zero-is-finite (like-finite t.coef g like) few-next h, entry-formed one-finite zeros-finite few-next k);
    came = subst (λ (b : Bool). Came b (ts ++ t ∷ []) (put_in Add (entry X 0 one64 complex.zero) none v)) there k.came;
  }
    where
      zero-fin : T (finite zero64)
      zero-fin = T_of zero-is-finite

      like : Like t.coef (complex.plus complex.zero d)
      like = like-plus t.coef g l

      zeros-finite : complex.all_finite complex.zero ≡ true
      zeros-finite = rw zero-is-finite

      over_zero : Over zero64 ts
      over_zero = over-same t.power zero64 ts f zero-fin fs o z

      below_one : lt t.power one64 ≡ true
      below_one = lt-eq-left t.power zero64 one64 f zero-fin (T_of one-finite) z ∙ zero-below-one

      over-one : Over one64 ts
      over-one = over-up zero64 one64 ts over_zero zero-below-one

      no_zero : has_power zero64 ts ≡ false
      no_zero = no_power zero64 ts zero-fin fs over_zero

      v : Sum
      v = put_in Add (entry X 0 zero64 d) none u

      h : Put zero64 d u (complex.plus complex.zero d) false (ts ++ t ∷ [])
      h =
          put-new t zero64 d (record { same = same-constant t (complex.plus complex.zero d) z like; here = zero-fin; there = f }) (subst (λ (b : Bool). Came b ts u) (rw no_zero) c) over_zero
          (λ e. absurd (true≢false (sym e)))

      k : Put one64 complex.zero v complex.zero true (ts ++ t ∷ [])
      k = put-extra h.came (over-next one64 ts t over-one below_one)

      there : true ≡ extra_in (ts ++ t ∷ [])
      there =
          rw (power-next zero64 ts t, power-next one64 ts t, z, or-true (has_power zero64 ts), no_power one64 ts (T_of one-finite) fs over-one, not_same t.power one64 f (T_of one-finite) below_one)

  -- what its records make is added to what came
  pub added : {v : Sum} → TermMade t v → Came (extra_in ts) ts u → Added u v (ts ++ t ∷ [])
  added (of-constant z l) c = added-constant z l c
  added (of-power n l) c = added-power n l c

-- the first term
pub first-came : (t : Term) (v : Sum) → T (finite t.power) → TermMade t v → Came (extra_in (t ∷ [])) (t ∷ []) v
unfolding has_power Below
first-came t v f (of-constant z l) =
    let fz = T_of zero-is-finite in
    let low : lt t.power one64 ≡ true = lt-eq-left t.power zero64 one64 f fz (T_of one-finite) z ∙ zero-below-one in
    rw (z, not_same t.power one64 f (T_of one-finite) low) (next (record { same = same-constant t _ z l; here = fz; there = f }) (extra tt nothing))
first-came t v f (of-power n l) = rw n (next (record { same = same-term t _ f l; here = f; there = f }) nothing)
