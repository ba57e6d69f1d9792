-- A whole sum: what is written for it, and how that runs. Assumes nothing.
use Prim.Native.Nat.{ℕ, zero, suc, ◌+◌, ◌-◌, ◌*◌, ◌≤◌, max}
use mathlib.Core.Path.{◌≡◌, refl, sym, ap, ◌∙◌}
use mathlib.Core.Bool.{Bool, true, false, not, ◌||◌, cond}
use mathlib.Core.List.{List, [], ◌∷◌}
use mathlib.Core.Option.{Option, none}
use native.Mathlib.Omega.{arith}
use lib.Dec.{T}
use lib.ListN.{length}
use lib.Ieee.{Float}
use lib.Ieee.Scale.{finite}
use Rattle.numbers.specs.Signs.{zero64}
use Rattle.numbers.specs.Ops.{◌⊕◌, ◌⊗◌}
use Rattle.numbers.proofs.Bools.{and-false}
use Rattle.numbers.specs.declared.complex.Complex.{Complex}
use Rattle.sums.specs.Tree.Kinds as kinds
use Rattle.sums.specs.Tree.Sums.{Sum, and, size as entries, entry}
use Rattle.sums.specs.Tree.Good.{is_number, Good}
use Rattle.sums.proofs.order.Walk.{GoodFirst, good-and}
use Rattle.formats.specs.declared.record.Record.{Record}
use Rattle.formats.specs.declared.record.Primitive.TheVariants as prim
use Rattle.formats.specs.Tree.{Nodes, end, rec, size}
use Rattle.writing.specs.Draft.Writing.{push, does, on, body, append, one, two, wrote}
use Rattle.writing.proofs.draft.Laws.{size-append}
use Rattle.writing.proofs.draft.Fine.{Fine, fine_more}
use Rattle.writing.specs.ToNodes.{is_bare, write}
use Rattle.writing.specs.Count.{cost}
use Rattle.running.specs.Primitives.{times}
use Rattle.running.specs.Running.{runs}
use Rattle.values.specs.Value.{Exponent, whole, half, Power, power, is_one, term_value, plus_terms, value}
use Rattle.theorems.specs.Terms.{IsWholeOrHalf, twice, Rising}
use Rattle.theorems.specs.Records.{form_of, cost_of, is_x, peak_of, root_first, exact_peak}
use Rattle.theorems.specs.Places.{in_term, first_not_finite}
use Rattle.theorems.proofs.Speed.Listed.{Listed, nothing, zero_term, term}
use Rattle.theorems.proofs.Speed.Steps.{Stop, state, out, or, or-none, bad}
use Rattle.theorems.proofs.Speed.Terms.{piece, piece-size, stop_term, write-zero, write-term}
use Rattle.theorems.proofs.Speed.Peaks.{light, peak-low, peak-high, not-bare, peak_after, peak-after, peak-some, first-peak}
use Rattle.theorems.proofs.Speed.Building.{stop_sum, same-places, Built, rebuild, built-zero, built-x, built-term, built-join, built-dup}

-- ---- after the first term

-- the list that is written from here on
record More (s : Sum) (id : Bool) (ns : Nodes) (n d : ℕ) (r : Float → Float) (q : ℕ) (b : Float → ℕ → Option Stop) : Type 0 where
  list : Nodes
  written : write false s id ns ≡ wrote list
  built : Built list n d r q b

joined-size : (N P : Nodes) → size (rec (on (size N + 1)) (rec (body (size N)) N end) (append P (one (does prim.Add)))) ≡ size N + size P + 3
unfolding size
joined-size N P = omega (arith, size-append P (one (does prim.Add)))

dup-size : (P : Nodes) → size (rec (does prim.Dup) end (append P (one (does prim.Add)))) ≡ size P + 2
unfolding size
dup-size P = omega (arith, size-append P (one (does prim.Add)))

-- the peak where the first term is bare x
abbrev only_peak : List Power → ℕ
only_peak [] = 1
only_peak (t ∷ ts) = 3 + length ts

module _ (left : ℕ) where
  first_good : (l : ℕ) (q : Float) (j : Sum) (d : Complex) (r : Sum) → Good left (and l q j d r) → GoodFirst left (entry l (entries j) q d) j r
  first_good l q j d r g = good-and left (entry l (entries j) q d) j r g

  -- something is written
  more : {s : Sum} {ts : List Power} → Good left s → Listed s ts → (id : Bool) (a : Record) (i m : Nodes) (n d : ℕ) (r : Float → Float) (k : ℕ) (b : Float → ℕ → Option Stop)
      → n + 7 * length ts ≤ 2048 → 1 ≤ k → Built (rec a i m) n d r k b
      → More s id (rec a i m) (n + 7 * length ts) (d + 2 * length ts) (λ x. plus_terms x (r x) ts) (peak_after k ts)
      (λ x at. or (b x (at + 2 * length ts)) (stop_sum (at + 2 * length ts + size (rec a i m)) x (r x) ts))
  unfolding write plus_terms append stop_sum peak_after
  more g nothing id a i m n d r k b few K y =
      let e : (at : ℕ) → at ≡ at + 2 * 0 = λ at. omega arith in
      record {
        list = rec a i m;
        written = refl;
        built = rebuild _ _ _ _ (omega arith) (omega arith) refl (λ x at. ap (b x) (e at) ∙ sym (or-none (b x (at + 2 * 0)))) y;
      }
  more g (zero_term {k = l} {p} {j} {c} {r = s} z t) id a i m n d r k b few K y =
      let h = more (first_good l p j c s g).rest t id a i m n d r k b few K y in
      record { list = h.list; written = write-zero p j c s id (rec a i m) l z ∙ h.written; built = h.built }
  more g (term {p} {k = l} {j} {c} {r = s} {ts} z re w t) id a i m n d r k b few K y =
      let f = first_good kinds.X p j c s g in
      let N = rec a i m in
      let P = piece p l c in
      let v : Float → Float = λ x. r x ⊕ term_value x l c in
      let h = more f.rest t (id || is_bare (form_of l)) (on (size N + 1)) (rec (body (size N)) N end) (append P (one (does prim.Add))) (n + 7) (d + 2) v (suc (max k (cond (light l c) 1 2)))
      (λ x at. or (or (b x (at + 2)) (stop_term (at + (size N + 2)) x l c)) (bad (v x) (at + (size N + 2) + size P))) (omega arith) (omega arith)
      (built-join (built-term p c l f.entry-good.number f.entry-good.re w) (omega arith) K (peak-low (light l c)) y) in
      let e : (at : ℕ) → at + 2 * length ts + 2 ≡ at + 2 * suc (length ts) = λ at. omega arith in
      record {
        list = h.list;
        written = (rw (and-false (not id)) at (write-term p j c s id N l z f.entry-good.number f.entry-good.re re w)) ∙ h.written;
        built = rebuild _ _ _ _ (omega arith) (omega arith) refl
            (λ x at. same-places x (r x) l c ts {a = at + 2 * suc (length ts) + size N} (ap (b x) (e at))
            (omega arith) (omega (arith, piece-size p c l)) (omega (arith, piece-size p c l, joined-size N P)))
            h.built;
      }

  -- only x was met, and nothing is written yet
  only : {s : Sum} {ts : List Power} → Good left s → Listed s ts → Rising 3 ts → length ts ≤ 64
      → More s true end (1 + 7 * length ts) (1 + 2 * length ts) (λ x. plus_terms x x ts) (only_peak ts) (λ x at. stop_sum (at + (2 * length ts - 1)) x x ts)
  unfolding write plus_terms append stop_sum
  only g nothing up few = record { list = one (does prim.Identity); written = refl; built = rebuild _ _ _ _ (omega arith) (omega arith) refl (λ x at. refl) built-x }
  only g (zero_term {k = l} {p} {j} {c} {r = s} z t) up few =
      let h = only (first_good l p j c s g).rest t up few in
      record { list = h.list; written = write-zero p j c s true end l z ∙ h.written; built = h.built }
  only g (term {p} {k = l} {j} {c} {r = s} {ts} z re w t) up few =
      let f = first_good kinds.X p j c s g in
      let P = piece p l c in
      let v : Float → Float = λ x. x ⊕ term_value x l c in
      let h = more f.rest t true (does prim.Dup) end (append P (one (does prim.Add))) 7 1 v 3
      (λ x at. or (stop_term (at + 1) x l c) (bad (v x) (at + 1 + size P))) (omega arith) (omega arith)
      (built-dup (built-term p c l f.entry-good.number f.entry-good.re w) (rw (not-bare l c up.0))) in
      record {
        list = h.list;
        written = write-term p j c s true end l z f.entry-good.number f.entry-good.re re w ∙ h.written;
        built = rebuild _ _ _ _ (omega arith) (omega arith) (peak-after 3 ts (omega arith))
            (λ x at. same-places x x l c ts {o = none} {o' = none} {a = at + (2 * suc (length ts) - 1)} refl
            (omega arith) (omega (arith, piece-size p c l)) (omega (arith, piece-size p c l, dup-size P)))
            h.built;
      }

-- ---- the whole list

-- what refuses the run of the whole list
unfoldable pub stop_all : Float → List Power → Option Stop
stop_all x [] = bad (x ⊗ zero64) 1
stop_all x (power k c ∷ ts) =
    let at = 2 * length ts - cond (is_x k c) 1 0 in
    or (stop_term at x k c) (stop_sum (at + cost_of k c) x (term_value x k c) ts)

-- the list that is written, and its run from its first record on
pub record Whole (s : Sum) (id : Bool) (ns : Nodes) (ts : List Power) : Type 0 where
  pub list : Nodes
  pub fine : Fine 2048 129 list
  pub written : write false s id ns ≡ wrote list
  pub run : (x : Float) → T (finite x) → runs list 0 0 (state (x ∷ []) 0 1) ≡ out (stop_all x ts) (state (value x ts ∷ []) (size list) (exact_peak ts))

whole_of : {s : Sum} {id : Bool} {ns : Nodes} {ts : List Power} {n d : ℕ} {r : Float → Float} {q : ℕ} {b : Float → ℕ → Option Stop} → More s id ns n d r q b → n ≤ 2048 → d ≤ 129
    → ((x : Float) → r x ≡ value x ts) → ((x : Float) → b x 0 ≡ stop_all x ts) → q ≡ exact_peak ts → 1 ≤ q → q ≤ 256 → Whole s id ns ts
whole_of {ts = ts} {q = q} h few deep er eb eq low high =
    let en : 0 + size h.list ≡ size h.list = omega arith in
    let ep : max 1 (q + (0 + 0)) ≡ exact_peak ts = omega arith in
    record {
      list = h.list;
      fine = fine_more 2048 129 h.built.fine few deep;
      written = h.written;
      run = λ x fx. (h.built.yields x fx).run [] 0 0 0 1 (omega arith) (omega arith) ∙ (λ i. out (eb x i) (state (er x i ∷ []) (en i) (ep i)));
    }

stop-all : (x : Float) (k : Exponent) (c : Complex) (ts : List Power) {a b : ℕ} → a ≡ 2 * length ts - cond (is_x k c) 1 0 → b ≡ a + cost_of k c
    → or (stop_term a x k c) (stop_sum b x (term_value x k c) ts) ≡ stop_all x (power k c ∷ ts)
unfolding stop_all
stop-all x k c ts {a} ea eb =
    let A = 2 * length ts - cond (is_x k c) 1 0 in
    let ec : _ ≡ A + cost_of k c = eb ∙ ap (λ (n : ℕ). n + cost_of k c) ea in
    λ i. or (stop_term (ea i) x k c) (stop_sum (ec i) x (term_value x k c) ts)

module _ (left : ℕ) where
  -- something is written for it
  first : {s : Sum} {ts : List Power} (p : Float) (c : Complex) (k : Exponent) (a : Record) (i m : Nodes) → T (is_number p) → T (is_number c.re) → IsWholeOrHalf p k
      → is_x k c ≡ false → piece p k c ≡ rec a i m → Good left s → Listed s ts → Rising (suc (twice k)) ts → length ts ≤ 64
      → Whole s (is_bare (form_of k)) (piece p k c) (power k c ∷ ts)
  unfolding value
  first {s} {ts} p c k a i m fp fc w n e g d up few =
      let q = first-peak k c ts n up in
      let u = peak-some (cond (light k c) 1 2) ts (peak-low (light k c)) in
      let v = peak-high (light k c) in
      let h = more left g d (is_bare (form_of k)) a i m 4 1 (λ x. term_value x k c) (cond (light k c) 1 2)
      (λ x at. stop_term at x k c) (omega arith) (peak-low (light k c)) (rw e at (built-term p c k fp fc w)) in
      let z : size (rec a i m) ≡ cost_of k c = ap size (sym e) ∙ piece-size p c k in
      rw e (whole_of h (omega arith) (omega arith) (λ x. refl) (λ x. stop-all x k c ts (rw n (omega arith)) (omega (arith, z))) q (omega arith) (omega arith))

  -- bare x
  first-bare : {s : Sum} {ts : List Power} (c : Complex) → is_one c ≡ true → Good left s → Listed s ts → Rising 3 ts → length ts ≤ 64 → Whole s true end (power (whole 1) c ∷ ts)
  unfolding value term_value times in_term first_not_finite cost peak_of root_first
  first-bare {ts = ts} c e g d up few =
      whole_of (only left g d up few) (omega arith) (omega arith) (λ x. rw e) (λ x. places x) (peaks ts) (low ts) (high ts few)
    where
      places : (x : Float) → stop_sum (0 + (2 * length ts - 1)) x x ts ≡ stop_all x (power (whole 1) c ∷ ts)
      places x = rw e at (stop-all x (whole 1) c ts {a = 2 * length ts - 1} {b = 0 + (2 * length ts - 1)} (rw e) (rw e (omega arith)))

      peaks : (us : List Power) → only_peak us ≡ exact_peak (power (whole 1) c ∷ us)
      peaks [] = rw e
      peaks (power k d ∷ us) = omega arith

      low : (us : List Power) → 1 ≤ only_peak us
      low [] = omega arith
      low (u ∷ us) = omega arith

      high : (us : List Power) → length us ≤ 64 → only_peak us ≤ 256
      high [] h = omega arith
      high (u ∷ us) h = omega arith

  first-term : {s : Sum} {ts : List Power} (p : Float) (c : Complex) (k : Exponent) → T (is_number p) → T (is_number c.re) → IsWholeOrHalf p k
      → Good left s → Listed s ts → Rising (suc (twice k)) ts → length ts ≤ 64 → Whole s (is_bare (form_of k)) (piece p k c) (power k c ∷ ts)
  unfolding append
  first-term p c (whole zero) fp fc w g d up few = first p c (whole 0) _ _ _ fp fc w refl refl g d up few
  first-term p c half fp fc w g d up few = first p c half _ _ _ fp fc w refl refl g d up few
  first-term {s} {ts} p c (whole (suc zero)) fp fc w g d up few = go (is_one c) refl
    where
      go : (b : Bool) → is_one c ≡ b → Whole s true (piece p (whole 1) c) (power (whole 1) c ∷ ts)
      go true e = let z : piece p (whole 1) c ≡ end = rw e in rw z (first-bare c e g d up few)
      go false e = first p c (whole 1) (push c.re) end (one (does prim.Mul)) fp fc w e (rw e) g d up few
  first-term p c (whole (suc (suc zero))) fp fc w g d up few = first p c (whole 2) _ _ _ fp fc w refl refl g d up few
  first-term p c (whole (suc (suc (suc n)))) fp fc w g d up few = first p c (whole (suc (suc (suc n)))) _ _ _ fp fc w refl refl g d up few

  pub whole-list : {s : Sum} {ts : List Power} → Good left s → Listed s ts → Rising 0 ts → length ts ≤ 64 → Whole s false end ts
  unfolding write append size stop_all value peak_of root_first
  whole-list g nothing up few = record {
    list = two (push zero64) (does prim.Mul);
    fine = fine_more 2048 129 built-zero.fine (omega arith) (omega arith);
    written = refl;
    run = λ x fx. (built-zero.yields x fx).run [] 0 0 0 1 (omega arith) (omega arith);
  }
  whole-list g (zero_term {k = l} {p} {j} {c} {r = s} z t) up few =
      let h = whole-list (first_good left l p j c s g).rest t up few in
      record { list = h.list; fine = h.fine; written = write-zero p j c s false end l z ∙ h.written; run = h.run }
  whole-list g (term {p} {k = l} {j} {c} {r = s} {ts} z re w t) up few =
      let f = first_good left kinds.X p j c s g in
      let h = first-term p c l f.entry-good.number f.entry-good.re w f.rest t up.1 (omega arith) in
      record { list = h.list; fine = h.fine; written = write-term p j c s false end l z f.entry-good.number f.entry-good.re re w ∙ h.written; run = h.run }
