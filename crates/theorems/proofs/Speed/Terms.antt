-- What is written for a term, how many records that is, and what it yields. Assumes nothing.
use Prim.Native.Nat.{ℕ, zero, suc, ◌+◌, ◌≤◌, max}
use mathlib.Core.Path.{◌≡◌, refl, sym, ap, ◌∙◌}
use mathlib.Core.Bool.{Bool, true, false, not, ◌&&◌, ◌||◌, cond}
use mathlib.Core.List.{◌∷◌}
use mathlib.Core.Option.{Option, none}
use native.Mathlib.Omega.{arith}
use borrow.Author.Tests.{ne_eqb}
use lib.Dec.{T, eqb, eqb→eq}
use lib.ListN.{length}
use lib.IntN.{pos, nat_abs}
use lib.Ieee.{Float, binary64, eq, lt, of_bits, fits}
use lib.Ieee.Bits.{is_true}
use lib.Ieee.Fits.{and_r, eq→eqb}
use lib.Ieee.Scale.{finite}
use Rattle.numbers.specs.Constants.{half64, two64}
use Rattle.numbers.specs.Signs.{zero64, one64}
use Rattle.numbers.specs.Ops.{◌⊕◌, ◌⊗◌}
use Rattle.numbers.specs.Wholes.{Means}
use Rattle.numbers.proofs.Bools.{bool-ext, T_of, and-false}
use Rattle.numbers.proofs.Order.{eq-symmetric, eq-transitive}
use Rattle.numbers.proofs.Wholes.{means-eq, means-fin, means-1, means-whole, eq-means, small-whole}
use Rattle.numbers.specs.Radical.Root.{root}
use Rattle.numbers.specs.declared.complex.Complex.{Complex}
use Rattle.numbers.specs.Complex.Arith as complex
use Rattle.sums.specs.Tree.Kinds as kinds
use Rattle.sums.specs.Tree.Good.{is_number}
use Rattle.sums.specs.Tree.Sums.{Sum, and}
use Rattle.formats.specs.declared.record.Primitive.TheVariants as prim
use Rattle.formats.specs.Names.{choose}
use Rattle.formats.specs.Tree.{Nodes, end, size}
use Rattle.writing.specs.Draft.Writing.{push, does, append, one, two, Written, and_then, can_write}
use Rattle.writing.proofs.draft.Laws.{append-end, append-join, size-append}
use Rattle.writing.proofs.draft.Fine.{Fine, fine_more, fine_end, fine-append, fine-one, fine-two, plain-does, plain_push}
use Rattle.writing.specs.ToNodes.{Form, form, is_bare, is_constant, is_empty, before, plus, write_power, times_coef, write}
use Rattle.writing.specs.Count.{cost}
use Rattle.running.specs.Primitives.{times}
use Rattle.values.specs.Value.{Exponent, whole, half, is_one, term_value, times_unless}
use Rattle.theorems.specs.Terms.{IsWholeOrHalf}
use Rattle.theorems.specs.Records.{form_of, cost_of}
use Rattle.theorems.specs.Places.{formed_unless, in_term, unless_finite, first_not_finite}
use Rattle.theorems.proofs.Speed.Steps.{Stop, state, out, or, or-none, fifteen, bad, unless_below, number-finite, adds, multiplies, raises}
use Rattle.theorems.proofs.Speed.Peaks.{light}
use Rattle.theorems.proofs.Speed.Pieces.{Yields, end-yields, then-yields, square-yields, root-yields}

-- ---- the records of a term

-- x to the power n + 1
abbrev base : Float → ℕ → Nodes
base p zero = end
base p (suc zero) = two (does prim.Dup) (does prim.Mul)
base p (suc (suc n)) = two (push p) (does prim.Pow)

abbrev tail : Bool → Complex → Nodes
tail true c = end
tail false c = two (push c.re) (does prim.Mul)

abbrev pub piece : Float → Exponent → Complex → Nodes
piece p (whole zero) c = append (two (push zero64) (does prim.Mul)) (two (push c.re) (does prim.Add))
piece p (whole (suc n)) c = append (base p n) (tail (is_one c) c)
piece p half c = append (one (does prim.Sqrt)) (tail (is_one c) c)

tail-size : (b : Bool) (c : Complex) → size (tail b c) ≡ cond b 0 2
unfolding size
tail-size true c = refl
tail-size false c = refl

with_tail : (A : Nodes) (n : ℕ) (b : Bool) (c : Complex) → size A ≡ n → size (append A (tail b c)) ≡ cond b n (n + 2)
with_tail A n b c e = size-append A (tail b c) ∙ ap (λ (m : ℕ). m + size (tail b c)) e ∙ ap (λ (m : ℕ). n + m) (tail-size b c) ∙ more b
  where
    more : (b : Bool) → n + cond b 0 2 ≡ cond b n (n + 2)
    more true = omega arith
    more false = refl

pub piece-size : (p : Float) (c : Complex) (k : Exponent) → size (piece p k c) ≡ cost_of k c
unfolding size append cost
piece-size p c (whole zero) = refl
piece-size p c half = with_tail (one (does prim.Sqrt)) 1 (is_one c) c refl
piece-size p c (whole (suc zero)) = tail-size (is_one c) c
piece-size p c (whole (suc (suc zero))) = with_tail (two (does prim.Dup) (does prim.Mul)) 2 (is_one c) c refl
piece-size p c (whole (suc (suc (suc n)))) = with_tail (two (push p) (does prim.Pow)) 2 (is_one c) c refl

-- ---- they keep the rules of lists

number_fits : (v : Float) → T (is_number v) → T (fits binary64 v)
number_fits v t = and_r (finite v) (fits binary64 v) t

base-fine : (p : Float) (n : ℕ) → T (is_number p) → Fine 2 1 (base p n)
base-fine p zero fp = fine_more 2 1 (fine_end 1) (omega arith) (omega arith)
base-fine p (suc zero) fp = fine-two 1 (does prim.Dup) (does prim.Mul) (omega arith) (plain-does prim.Dup) (plain-does prim.Mul)
base-fine p (suc (suc n)) fp = fine-two 1 (push p) (does prim.Pow) (omega arith) (plain_push p (number_fits p fp)) (plain-does prim.Pow)

tail-fine : (b : Bool) (c : Complex) → T (is_number c.re) → Fine 2 1 (tail b c)
tail-fine true c fc = fine_more 2 1 (fine_end 1) (omega arith) (omega arith)
tail-fine false c fc = fine-two 1 (push c.re) (does prim.Mul) (omega arith) (plain_push c.re (number_fits c.re fc)) (plain-does prim.Mul)

pub zero_number : T (is_number zero64)
unfolding of_bits fits
zero_number = tt

pub zero-fine : Fine 2 1 (two (push zero64) (does prim.Mul))
zero-fine = fine-two 1 (push zero64) (does prim.Mul) (omega arith) (plain_push zero64 (number_fits zero64 zero_number)) (plain-does prim.Mul)

pub piece-fine : (p : Float) (c : Complex) (k : Exponent) → T (is_number p) → T (is_number c.re) → Fine 4 1 (piece p k c)
piece-fine p c half fp fc =
    fine-append (one (does prim.Sqrt)) (tail (is_one c) c)
    (fine_more 2 1 (fine-one 1 (does prim.Sqrt) (omega arith) (plain-does prim.Sqrt)) (omega arith) (omega arith)) (tail-fine (is_one c) c fc)
piece-fine p c (whole zero) fp fc =
    fine-append (two (push zero64) (does prim.Mul)) (two (push c.re) (does prim.Add)) zero-fine
    (fine-two 1 (push c.re) (does prim.Add) (omega arith) (plain_push c.re (number_fits c.re fc)) (plain-does prim.Add))
piece-fine p c (whole (suc n)) fp fc = fine-append (base p n) (tail (is_one c) c) (base-fine p n fp) (tail-fine (is_one c) c fc)

-- ---- what they yield

-- 15 at a place, or at a later one
pub or-fifteen : (b : Bool) (at : ℕ) (o : Option ℕ) → or (fifteen (unless_finite b at none)) (fifteen o) ≡ fifteen (unless_finite b at o)
or-fifteen true at o = refl
or-fifteen false at o = refl

or-below : (b : Bool) (at : ℕ) (o p : Option Stop) → or (unless_below b at o) p ≡ unless_below b at (or o p)
or-below true at o p = refl
or-below false at o p = refl

pub reyield : {N : Nodes} {x r : Float} {q : ℕ} (b d : ℕ → Option Stop) → ((at : ℕ) → b at ≡ d at) → Yields N x r q b → Yields N x r q d
reyield {N} {x} {r} {q} b d e g = record {
  run = λ s at h n p room i. g.run s at h n p room i ∙ ap (λ (a : Option Stop). out a (state (r ∷ s) (n + size N) (max p (q + (length s + h))))) (e at);
}

cond_same : (b : Bool) (n : ℕ) → cond b n n ≡ n
cond_same true n = refl
cond_same false n = refl

-- what refuses a term whose first record has the place
abbrev pub stop_term : ℕ → Float → Exponent → Complex → Option Stop
stop_term at x (whole k) c = fifteen (first_not_finite (in_term at x (whole k) c))
stop_term at x half c = unless_below (lt x zero64) at (fifteen (first_not_finite (in_term at x half c)))

module _ (c : Complex) (fc : T (is_number c.re)) where
  tail-yields : (b : Bool) {A : Nodes} {x v : Float} {q : ℕ} {d : ℕ → Option Stop} → 1 ≤ q → q ≤ 2 → Yields A x v q d
      → Yields (append A (tail b c)) x (times_unless b v c.re) (cond b q 2) (λ at. or (d at) (fifteen (first_not_finite (formed_unless b (at + size A + 1) (v ⊗ c.re)))))
  unfolding first_not_finite
  tail-yields true {A} {x} {v} {q} {d} low high g = rw (append-end A) (reyield d _ (λ at. sym (or-none (d at))) g)
  tail-yields false {A} {x} {v} {q} {d} low high g = then-yields (does prim.Mul) low high g fc (multiplies v c.re)

  pub piece-yields : (x p : Float) (k : Exponent) → T (is_number p) → IsWholeOrHalf p k → Yields (piece p k c) x (term_value x k c) (cond (light k c) 1 2) (λ at. stop_term at x k c)
  unfolding term_value in_term first_not_finite times append size
  piece-yields x p (whole zero) fp w =
      let e : (at : ℕ) → at + 0 + 1 ≡ at + 1 = λ at. omega arith in
      let e₂ : (at : ℕ) → at + 2 + 1 ≡ at + 3 = λ at. omega arith in
      reyield _ _ (λ at. rw (e at, e₂ at) (or-fifteen (finite (x ⊗ zero64)) (at + 1) (unless_finite (finite (x ⊗ zero64 ⊕ c.re)) (at + 3) none)))
      (then-yields (does prim.Add) (omega arith) (omega arith)
      (then-yields (does prim.Mul) (omega arith) (omega arith) (end-yields x) zero_number (multiplies x zero64)) fc (adds (x ⊗ zero64) c.re))
  piece-yields x p half fp w =
      let rest : ℕ → Option ℕ = λ n. first_not_finite (formed_unless (is_one c) n (root x ⊗ c.re)) in
      let e : (at : ℕ) → at + 1 + 1 ≡ at + 2 = λ at. omega arith in
      reyield _ _ (λ at. or-below (lt x zero64) at (bad (root x) at) (fifteen (rest (at + 1 + 1)))
      ∙ ap (unless_below (lt x zero64) at) (or-fifteen (finite (root x)) at (rest (at + 1 + 1)) ∙ rw (e at)))
      (tail-yields (is_one c) (omega arith) (omega arith) (root-yields x))
  piece-yields x p (whole (suc zero)) fp w =
      let e : (at : ℕ) → at + 0 + 1 ≡ at + 1 = λ at. omega arith in
      reyield _ _ (λ at. ap (λ (m : ℕ). fifteen (first_not_finite (formed_unless (is_one c) m (x ⊗ c.re)))) (e at)) (tail-yields (is_one c) (omega arith) (omega arith) (end-yields x))
  piece-yields x p (whole (suc (suc zero))) fp w =
      let e : (at : ℕ) → at + 2 + 1 ≡ at + 3 = λ at. omega arith in
      reyield _ _ (λ at. or-fifteen (finite (x ⊗ x)) (at + 1) (first_not_finite (formed_unless (is_one c) (at + 2 + 1) (x ⊗ x ⊗ c.re))) ∙ rw (e at))
      (rw (cond_same (is_one c) 2) at (tail-yields (is_one c) (omega arith) (omega arith) (square-yields x)))
  piece-yields x p (whole (suc (suc (suc n)))) fp w =
      let v = times (suc (suc n)) x x in
      let e : (at : ℕ) → at + 0 + 1 ≡ at + 1 = λ at. omega arith in
      let e₂ : (at : ℕ) → at + 2 + 1 ≡ at + 3 = λ at. omega arith in
      reyield _ _ (λ at. rw (e at, e₂ at) (or-fifteen (finite v) (at + 1) (first_not_finite (formed_unless (is_one c) (at + 3) (v ⊗ c.re)))))
      (rw (cond_same (is_one c) 2) at (tail-yields (is_one c) (omega arith) (omega arith)
      (then-yields (does prim.Pow) (omega arith) (omega arith) (end-yields x) fp (raises x p (suc (suc n)) w))))

-- ---- the arm of the match that a power takes

means-2 : Means two64 (pos 2)
unfolding of_bits
means-2 = means-fin false 1 1

pub means-0 : Means zero64 (pos 0)
unfolding of_bits
means-0 = means-fin false 0 0

eq-whole : (p y : Float) (k j : ℕ) → Means p (pos k) → Means y (pos j) → eq p y ≡ eqb k j
eq-whole p y k j m n =
    bool-ext (eq p y) (eqb k j) (λ t. eq→eqb (ap nat_abs ((means-eq m n).0 (is_true (eq p y) t)))) (λ t. T_of ((means-eq m n).1 (ap pos (eqb→eq k j t))))

not-half : (p : Float) (k : ℕ) → Means p (pos k) → eq p half64 ≡ false
unfolding of_bits
not-half p k m = go (eq p half64) refl
  where
    go : (b : Bool) → eq p half64 ≡ b → b ≡ false
    go true e = sym (means-whole (eq-means half64 p (eq-symmetric half64 p ∙ e) m))
    go false e = refl

form-by : (k : ℕ) → choose (eqb k 0) Form.constant (choose false Form.root (choose (eqb k 1) Form.bare (choose (eqb k 2) Form.square Form.power))) ≡ form_of (whole k)
form-by zero = refl
form-by (suc zero) = refl
form-by (suc (suc zero)) = refl
form-by (suc (suc (suc n))) = rw (ne_eqb (suc (suc (suc n))) 0 (λ e. omega arith), ne_eqb (suc (suc (suc n))) 1 (λ e. omega arith), ne_eqb (suc (suc (suc n))) 2 (λ e. omega arith))

-- a half isn't 0
pub half-finite : T (finite half64)
unfolding of_bits
half-finite = tt

half-not-0 : eq half64 zero64 ≡ false
unfolding eq of_bits
half-not-0 = refl

pub form-is : (p : Float) (k : Exponent) → T (is_number p) → IsWholeOrHalf p k → form p ≡ form_of k
unfolding form
form-is p half fp w =
    let z = eq-transitive p half64 zero64 (T_of (number-finite p fp)) half-finite (T_of (number-finite zero64 zero_number)) w ∙ half-not-0 in
    rw (z, w)
form-is p (whole k) fp w =
    let m = ((small-whole p k).0 w).1 in
    rw (eq-whole p zero64 k 0 m means-0, not-half p k m, eq-whole p one64 k 1 m means-1, eq-whole p two64 k 2 m means-2) (form-by k)

-- ---- what is written

pub can-write : (c : Complex) → T (is_number c.re) → complex.is_real c ≡ true → can_write false c ≡ true
can-write c f r = rw (r, number-finite c.re f)

module _ (c : Complex) (f : Nodes → Written) (e : can_write false c ≡ true) where
  tail-is : (b : Bool) (ns : Nodes) → and_then (times_coef (not b && true) false c ns) f ≡ f (append ns (tail b c))
  unfolding append
  tail-is true ns = rw (append-end ns)
  tail-is false ns = rw (e, append-join ns)

  piece_is : (k : Exponent) (p : Float) (ns : Nodes)
      → and_then (write_power (form_of k) p false c ns) (λ ms. and_then (times_coef (not (is_one c) && not (is_constant (form_of k))) false c ms) f) ≡ f (append ns (piece p k c))
  unfolding append
  piece_is half p ns = rw (← append-join ns) (tail-is (is_one c) (append ns (one (does prim.Sqrt))))
  piece_is (whole zero) p ns = rw (e, and-false (not (is_one c)), append-join ns, append-join ns)
  piece_is (whole (suc zero)) p ns = tail-is (is_one c) ns
  piece_is (whole (suc (suc zero))) p ns = rw (← append-join ns) (tail-is (is_one c) (append ns (two (does prim.Dup) (does prim.Mul))))
  piece_is (whole (suc (suc (suc k)))) p ns = rw (← append-join ns) (tail-is (is_one c) (append ns (two (push p) (does prim.Pow))))

module _ (p : Float) (i : Sum) (c : Complex) (r : Sum) (id : Bool) (ns : Nodes) where
  pub write-zero : (k : ℕ) → complex.same c complex.zero ≡ true → write false (and k p i c r) id ns ≡ write false r id ns
  unfolding write
  write-zero k e = rw e

  pub write-term : (k : Exponent) → complex.same c complex.zero ≡ false → T (is_number p) → T (is_number c.re) → complex.is_real c ≡ true → IsWholeOrHalf p k
      → write false (and kinds.X p i c r) id ns
      ≡ write false r (id || is_bare (form_of k)) (plus (not id && is_empty ns) (append (before (not id && is_empty ns) ns) (piece p k c)))
  unfolding write
  write-term k z m n re w =
      rw (z, form-is p k m w)
      (piece_is c (λ m. write false r (id || is_bare (form_of k)) (plus (not id && is_empty ns) m)) (can-write c n re) k p (before (not id && is_empty ns) ns))
