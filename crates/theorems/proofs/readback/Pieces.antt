-- The records of one term, read on x: the term comes of them, and beside a constant 0·x. Assumes nothing.
use mathlib.Core.Path.{◌≡◌, refl, sym, ap, ◌∙◌}
use mathlib.Core.Bool.{Bool, true, false, not, ◌&&◌, ◌||◌, true≢false}
use mathlib.Core.List.{[], ◌∷◌}
use mathlib.Core.Logic.{◌⊎◌, inl, inr}
use native.Mathlib.Omega.{arith}
use lib.Dec.{T}
use lib.Ieee.{Float, binary64, fits, of_bits, eq, lt, le, add, mul, sub}
use lib.Ieee.Bits.{is_true, of_bits-fits}
use lib.Ieee.Fits.{and_l}
use lib.Ieee.Scale.{finite}
use Rattle.numbers.specs.Constants.{half64, two64}
use Rattle.numbers.specs.Signs.{zero64, one64, Zero, ±0}
use Rattle.numbers.specs.Ops.{◌⊕◌}
use Rattle.numbers.specs.Numbers.{is_whole}
use Rattle.numbers.proofs.Bools.{T_of, and-true, and-false}
use Rattle.numbers.proofs.Finite.{zero-is-finite}
use Rattle.numbers.proofs.Order.{eq-same}
use Rattle.numbers.proofs.Units.{1-times}
use Rattle.numbers.proofs.Zeros.{zero_of, zero_test, zero-finite, add-zeros, 0-plus, plus-0}
use Rattle.numbers.specs.declared.complex.Complex.{Complex}
use Rattle.numbers.specs.Complex.Arith as complex
use Rattle.numbers.proofs.complex.Real.{real-times, times-re}
use Rattle.sums.specs.Tree.Kinds.{X}
use Rattle.sums.specs.Tree.Order.{cmp_each}
use Rattle.sums.specs.Tree.Sums.{Sum, none, and, size, len, levels}
use Rattle.sums.specs.Tree.Map.{sum, coef_in, put_in, formed, each_into}
use Rattle.sums.specs.Tree.Good.{is_number}
use Rattle.arithmetic.specs.Singles.{single, constant}
use Rattle.arithmetic.specs.Adding.{add_sums}
use Rattle.arithmetic.specs.Product.{product}
use Rattle.arithmetic.specs.Power.{root_of_one, pow}
use Rattle.formats.specs.declared.record.Record.{Record}
use Rattle.formats.specs.declared.record.Primitive.TheVariants as prim
use Rattle.formats.specs.Names.{choose}
use Rattle.formats.specs.Tree.{Nodes, end}
use Rattle.writing.specs.Draft.Writing.{push, does, append, one, two, number_record}
use Rattle.writing.specs.ToNodes.{Form, form}
use Rattle.theorems.proofs.Speed.Steps.{number-finite}
use Rattle.theorems.proofs.Speed.Terms.{zero_number}
use Rattle.theorems.specs.Readback.Terms.{Term, term, highest64, nought_x}
use Rattle.theorems.proofs.readback.Written.{tail, piece}
use Rattle.theorems.proofs.readback.Steps.{x, or-false, number_fits, Makes, makes-more, makes_both, makes-nothing, makes-beside, makes-mul, makes-add, makes-pow, makes-sqrt, makes-dup, makes-push, makes-pair}
use Rattle.theorems.proofs.readback.Powers.{x_to, product-terms, product-x, zero-is-zero, one-finite, unit-im, pow-other, pow-whole}

-- ---- coefficients

-- d is c read back
pub record Like (c d : Complex) : Type 0 where
  pub re : d.re ≡ c.re
  pub im : Zero d.im

zero-zero : Zero zero64
zero-zero = (zero_test zero64).0 zero-is-zero

-- what a coefficient of the formula is: numbers, the imaginary part zero, the real part not
pub record Fair (c : Complex) : Type 0 where
  pub re : T (is_number c.re)
  pub im : T (is_number c.im)
  pub real : Zero c.im
  pub some : Zero c.re → ⊥

module _ (c : Complex) (g : Fair c) where
  pub like-finite : {d : Complex} → Like c d → complex.all_finite d ≡ true
  like-finite {d} l = rw (l.re, number-finite c.re g.re, is_true (finite d.im) (zero-finite d.im l.im))

  -- a key that is put in starts from +0
  pub like-plus : {d : Complex} → Like c d → Like c (complex.plus complex.zero d)
  like-plus {d} l = record {
    re = ap (λ (v : Float). zero64 ⊕ v) l.re ∙ 0-plus c.re (number_fits c.re g.re) (λ e. g.some (zero_of c.re true e));
    im = add-zeros binary64 zero64 d.im zero-zero l.im;
  }

  -- 1 times it
  like-times : (y z : Float) → Zero y → Zero z → Like c (complex.times (complex.complex one64 z) (complex.complex c.re y))
  like-times y z zy zz =
      let a = complex.complex one64 z in
      let b = complex.complex c.re y in
      let same = 1-times c.re (number_fits c.re g.re) in
      let fa = T_of one-finite in
      let fb = T_of (number-finite c.re g.re) in
      record { re = times-re a b fa fb zz zy (λ h. g.some (rw same at h)) ∙ same; im = real-times a b fa fb zz zy }

-- what is pushed for it
abbrev pushed : Bool → Complex → Complex
pushed true c = c
pushed false c = complex.real c.re

makes-number : (flag : Bool) (c : Complex) → Fair c → Makes (one (number_record flag c)) [] (constant (pushed flag c) ∷ []) 1 flag
makes-number true c g = makes-pair c g.re g.im
makes-number false c g = makes-push c.re g.re

-- ---- the coefficient's records

-- a number isn't -0 where it isn't zero
not-minus : (p : Float) → eq p zero64 ≡ false → p ≡ ±0 true → ⊥
not-minus p z e = absurd (true≢false (sym ((zero_test p).1 (zero_of p true e)) ∙ z))

-- c times x to the p, of 1 times x to the p
record Multiplied (flag : Bool) (p : Float) (c : Complex) (unit : Bool) (z : Float) : Type 0 where
  coef : Complex
  like : Like c coef
  reads : Makes (tail unit (number_record flag c)) (single X p none (complex.complex one64 z) ∷ []) (single X p none coef ∷ []) 3 (flag && not unit)

module _ (flag : Bool) (p : Float) (c : Complex) (t : T (is_number p)) (n : eq p zero64 ≡ false) (g : Fair c) where
  times-pushed : (y z : Float) → Zero y → Zero z
      → product (single X p none (complex.complex one64 z)) (constant (complex.complex c.re y))
      ≡ sum (single X p none (complex.plus complex.zero (complex.times (complex.complex one64 z) (complex.complex c.re y))))
  times-pushed y z zy zz =
      let d = complex.times (complex.complex one64 z) (complex.complex c.re y) in
      let e : p ⊕ zero64 ≡ p = plus-0 p (number_fits p t) (not-minus p n) in
      product-terms p zero64 (complex.complex one64 z) (complex.complex c.re y) (ap finite e ∙ number-finite p t) (like-finite c g (like-plus c g (like-times c g y z zy zz)))
      ∙ ap (λ (q : Float). sum (single X q none (complex.plus complex.zero d))) e

  pushed-im : Zero (pushed flag c).im
  pushed-im = go flag
    where
      go : (b : Bool) → Zero (pushed b c).im
      go true = g.real
      go false = zero-zero

  pushed-is : pushed flag c ≡ complex.complex c.re (pushed flag c).im
  pushed-is = go flag
    where
      go : (b : Bool) → pushed b c ≡ complex.complex c.re (pushed b c).im
      go true = refl
      go false = refl

  multiplied : (unit : Bool) (z : Float) → complex.same c complex.one ≡ unit → Zero z → Multiplied flag p c unit z
  unfolding append size
  multiplied true z e zz = record {
    coef = complex.complex one64 z;
    like = record { re = one-re; im = zz };
    reads = rw (and-false flag) (makes-nothing (single X p none (complex.complex one64 z) ∷ []) 3);
  }
    where
      one-re : one64 ≡ c.re
      one-re =
          by (eq-same binary64 c.re one64 (number_fits c.re g.re) (of_bits-fits binary64 0x3ff0000000000000)
          (is_true (eq c.re one64) (and_l (eq c.re one64) (eq c.im zero64) (T_of e))))
        where
          by : (c.re ≡ one64) ⊎ (Zero c.re × Zero one64) → one64 ≡ c.re
          by (inl e) = sym e
          by (inr e) = absurd (g.some e.0)
  multiplied false z e zz =
      let y = (pushed flag c).im in
      let a = single X p none (complex.complex one64 z) in
      let d = complex.plus complex.zero (complex.times (complex.complex one64 z) (complex.complex c.re y)) in
      let f = times-pushed y z pushed-im zz in
      record {
        coef = d;
        like = like-plus c g (like-times c g y z pushed-im zz);
        reads = rw (and-true flag) (rw (or-false flag) at (makes_both (makes-more 3 (omega arith) (makes-beside a (makes-number flag c g)))
            (makes-more 3 (omega arith) (makes-mul (constant (pushed flag c)) a (single X p none d) (ap (λ (w : Complex). product a (constant w)) pushed-is ∙ f)))));
      }

-- ---- a term

-- what comes of the records of a term, read on x
pub data TermMade (t : Term) : Sum → Type 0 where
  of-constant : {d : Complex} → eq t.power zero64 ≡ true → Like t.coef d → TermMade t (and X zero64 none d nought_x)
  of-power : {d : Complex} → eq t.power zero64 ≡ false → Like t.coef d → TermMade t (single X t.power none d)

pub record Piece (m : Form) (flag : Bool) (p : Float) (c : Complex) : Type 0 where
  pub made : Sum
  pub is : TermMade (term p c) made
  pub reads : Makes (piece m p (number_record flag c) (complex.same c complex.one)) (x ∷ []) (made ∷ []) 4 (flag && (eq p zero64 || not (complex.same c complex.one)))

pub zero-below-one : lt zero64 one64 ≡ true
unfolding lt of_bits
zero-below-one = refl

-- x times 0
nought-is : product x (constant complex.zero) ≡ sum nought_x
unfolding of_bits add mul sub
nought-is = product-terms one64 zero64 complex.one complex.zero refl refl

pub makes-nought : Makes (two (push zero64) (does prim.Mul)) (x ∷ []) (nought_x ∷ []) 3 false
unfolding append size
makes-nought =
    makes_both (makes-more 3 (omega arith) (makes-beside x (makes-push zero64 zero_number))) (makes-more 3 (omega arith) (makes-mul (constant complex.zero) x nought_x nought-is))

-- a constant put before 0·x
constant-before : (w : Complex) → complex.all_finite (complex.plus complex.zero w) ≡ true → add_sums nought_x (constant w) ≡ sum (and X zero64 none (complex.plus complex.zero w) nought_x)
unfolding each_into formed coef_in put_in cmp_each len levels size
constant-before w e = rw (zero-is-finite, zero-below-one, e)

half-number : T (is_number half64)
unfolding of_bits fits
half-number = tt

half-not-whole : is_whole half64 ≡ false
unfolding of_bits
half-not-whole = refl

one-and-one : one64 ⊕ one64 ≡ two64
unfolding of_bits add
one-and-one = refl

two-finite : finite two64 ≡ true
unfolding of_bits
two-finite = refl

module _ (flag : Bool) (p : Float) (c : Complex) (t : T (is_number p)) (g : Fair c) where
  -- a power that isn't 0: what raises x, then the coefficient's records
  raised-piece : (A : Nodes) (z : Float) (q : Bool) → eq p zero64 ≡ false → complex.same c complex.one ≡ q → Zero z → Makes A (x ∷ []) (single X p none (complex.complex one64 z) ∷ []) 4 false
      → (v : Sum) × TermMade (term p c) v × Makes (append A (tail q (number_record flag c))) (x ∷ []) (v ∷ []) 4 (flag && not q)
  raised-piece A z q n e zz a =
      let m = multiplied flag p c t n g q z e zz in
      (single X p none m.coef, of-power n m.like, makes_both a (makes-more 4 (omega arith) m.reads))

  constant-piece : eq p zero64 ≡ true → Piece Form.constant flag p c
  unfolding append size
  constant-piece e =
      let w = pushed flag c in
      let l : Like c (complex.plus complex.zero w) = like-plus c g (pushed-like flag) in
      let v : Sum = and X zero64 none (complex.plus complex.zero w) nought_x in
      let pushes = makes-more 4 (omega arith) (makes-beside nought_x (makes-number flag c g)) in
      let adds = makes-more 4 (omega arith) (makes-add (constant w) nought_x v (constant-before w (like-finite c g l))) in
      record {
        made = v;
        is = of-constant e l;
        reads = rw (e, and-true flag) (rw (or-false flag) at (makes_both (makes-more 4 (omega arith) makes-nought) (makes_both pushes adds)));
      }
    where
      pushed-like : (b : Bool) → Like c (pushed b c)
      pushed-like true = record { re = refl; im = g.real }
      pushed-like false = record { re = refl; im = zero-zero }

  module _ (n : eq p zero64 ≡ false) where
    -- a power that is as a number, is it
    power-is : (q : Float) → T (fits binary64 q) → eq p q ≡ true → p ≡ q
    power-is q f e = by (eq-same binary64 p q (number_fits p t) f e)
      where
        by : (p ≡ q) ⊎ (Zero p × Zero q) → p ≡ q
        by (inl e) = e
        by (inr e) = absurd (true≢false (sym ((zero_test p).1 e.0) ∙ n))

    -- what raises x to the power p gives 1 times it
    record Raises (A : Nodes) : Type 0 where
      z : Float
      zero : Zero z
      reads : Makes A (x ∷ []) (single X p none (complex.complex one64 z) ∷ []) 4 false

    root-raises : p ≡ half64 → Raises (one (does prim.Sqrt))
    unfolding size
    root-raises e = record {
      z = (root_of_one complex.one p).im;
      zero = unit-im p (T_of (number-finite p t));
      reads = makes-more 4 (omega arith) (makes-sqrt x (single X p none (root_of_one complex.one p))
          (ap (λ (q : Float). pow x (constant (complex.real q))) (sym e) ∙ pow-other p t (ap (λ (q : Float). is_whole q && le zero64 q) e ∙ ap (λ (b : Bool). b && le zero64 half64) half-not-whole)));
    }

    bare-raises : p ≡ one64 → Raises end
    bare-raises e = record { z = zero64; zero = zero-zero; reads = rw e (makes-nothing (x ∷ []) 4) }

    square-raises : p ≡ two64 → Raises (two (does prim.Dup) (does prim.Mul))
    unfolding append size
    square-raises e = record {
      z = zero64;
      zero = zero-zero;
      reads = makes_both (makes-more 4 (omega arith) (makes-dup x)) (makes-more 4 (omega arith) (makes-mul x x (x_to p)
          (product-x one64 (ap finite one-and-one ∙ two-finite) ∙ ap (λ (q : Float). sum (x_to q)) (one-and-one ∙ sym e))));
    }

    power-raises : (is_whole p && lt highest64 p) ≡ false → Raises (two (push p) (does prim.Pow))
    unfolding append size
    power-raises small = go (is_whole p && le zero64 p) refl
      where
        reads_as : (d : Complex) → pow x (constant (complex.real p)) ≡ sum (single X p none d) → Makes (two (push p) (does prim.Pow)) (x ∷ []) (single X p none d ∷ []) 4 false
        reads_as d e = makes_both (makes-more 4 (omega arith) (makes-beside x (makes-push p t))) (makes-more 4 (omega arith) (makes-pow (constant (complex.real p)) x (single X p none d) e))

        go : (b : Bool) → (is_whole p && le zero64 p) ≡ b → Raises (two (push p) (does prim.Pow))
        go true e = record { z = zero64; zero = zero-zero; reads = reads_as complex.one (pow-whole p t e small n) }
        go false e = record { z = (root_of_one complex.one p).im; zero = unit-im p (T_of (number-finite p t)); reads = reads_as (root_of_one complex.one p) (pow-other p t e) }

    of-raises : (A : Nodes) (m : Form) → ((r : Record) (b : Bool) → piece m p r b ≡ append A (tail b r)) → Raises A → Piece m flag p c
    of-raises A m same a =
        let v = raised-piece A a.z (complex.same c complex.one) n refl a.zero a.reads in
        record { made = v.0; is = v.1; reads = rw (n, same (number_record flag c) (complex.same c complex.one)) v.2 }

  -- the records of every term, read on x, make it
  pub piece-reads : (is_whole p && lt highest64 p) ≡ false → Piece (form p) flag p c
  unfolding form append
  piece-reads small = go (eq p zero64) (eq p half64) (eq p one64) (eq p two64) refl refl refl refl
    where
      go : (a b d e : Bool) → eq p zero64 ≡ a → eq p half64 ≡ b → eq p one64 ≡ d → eq p two64 ≡ e
          → Piece (choose a Form.constant (choose b Form.root (choose d Form.bare (choose e Form.square Form.power)))) flag p c
      go true b d e n h o w = constant-piece n
      go false true d e n h o w = of-raises n (one (does prim.Sqrt)) Form.root (λ r b. refl) (root-raises n (power-is n half64 (of_bits-fits binary64 0x3fe0000000000000) h))
      go false false true e n h o w = of-raises n end Form.bare (λ r b. refl) (bare-raises n (power-is n one64 (of_bits-fits binary64 0x3ff0000000000000) o))
      go false false false true n h o w = of-raises n (two (does prim.Dup) (does prim.Mul)) Form.square (λ r b. refl) (square-raises n (power-is n two64 (of_bits-fits binary64 0x4000000000000000) w))
      go false false false false n h o w = of-raises n (two (push p) (does prim.Pow)) Form.power (λ r b. refl) (power-raises n small)
