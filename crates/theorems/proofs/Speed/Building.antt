-- A list so far and the next term: it keeps the rules of lists, and runs as its value says. Assumes nothing.
use Prim.Native.Nat.{ℕ, suc, ◌+◌, ◌≤◌, max}
use mathlib.Core.Path.{◌≡◌, ◌∙◌, subst}
use mathlib.Core.Bool.{cond}
use mathlib.Core.List.{List, [], ◌∷◌}
use mathlib.Core.Option.{Option, none}
use native.Mathlib.Omega.{arith}
use lib.Dec.{T}
use lib.ListN.{length}
use lib.Ieee.{Float}
use lib.Ieee.Scale.{finite}
use Rattle.numbers.specs.Signs.{zero64}
use Rattle.numbers.specs.Ops.{◌⊕◌, ◌⊗◌}
use Rattle.numbers.specs.declared.complex.Complex.{Complex}
use Rattle.sums.specs.Tree.Good.{is_number}
use Rattle.formats.specs.declared.record.Primitive.TheVariants as prim
use Rattle.formats.specs.Tree.{Nodes, size}
use Rattle.writing.specs.Draft.Writing.{push, does, append, one, two, wrapped}
use Rattle.writing.proofs.draft.Fine.{Fine, fine_more, fine-one, fine-append, fine-say, fine-wrapped, plain-does}
use Rattle.values.specs.Value.{Exponent, Power, power, term_value}
use Rattle.theorems.specs.Terms.{IsWholeOrHalf}
use Rattle.theorems.specs.Records.{cost_of}
use Rattle.theorems.proofs.Speed.Steps.{Stop, or, or-join, bad, restate, identity-out, multiplies}
use Rattle.theorems.proofs.Speed.Peaks.{light}
use Rattle.theorems.proofs.Speed.Pieces.{Yields, end-yields, then-yields, join-yields, dup-yields}
use Rattle.theorems.proofs.Speed.Terms.{piece, stop_term, piece-yields, piece-fine, zero_number, zero-fine, reyield}

-- ---- what refuses a list

-- each term and its Add, from a place on, to the sum so far
unfoldable pub stop_sum : ℕ → Float → Float → List Power → Option Stop
stop_sum at x r [] = none
stop_sum at x r (power k c ∷ ts) =
    or (stop_term at x k c) (or (bad (r ⊕ term_value x k c) (at + cost_of k c)) (stop_sum (at + cost_of k c + 1) x (r ⊕ term_value x k c) ts))

-- the same places, counted in two ways
pub same-places : (x r : Float) (k : Exponent) (c : Complex) (ts : List Power) {o o' : Option Stop} {a b d e : ℕ} → o ≡ o' → b ≡ a → d ≡ a + cost_of k c → e ≡ a + cost_of k c + 1
    → or (or (or o (stop_term b x k c)) (bad (r ⊕ term_value x k c) d)) (stop_sum e x (r ⊕ term_value x k c) ts) ≡ or o' (stop_sum a x r (power k c ∷ ts))
unfolding stop_sum
same-places x r k c ts {o' = o} {a} eo eb ed ee =
    let t : ℕ → Option Stop = λ n. stop_term n x k c in
    let v : Float = r ⊕ term_value x k c in
    let w : ℕ → Option Stop = λ n. stop_sum n x v ts in
    (λ i. or (or (or (eo i) (t (eb i))) (bad v (ed i))) (w (ee i)))
    ∙ or-join (or o (t a)) (bad v (a + cost_of k c)) (w (a + cost_of k c + 1))
    ∙ or-join o (t a) (or (bad v (a + cost_of k c)) (w (a + cost_of k c + 1)))

-- ---- lists

-- the list has at most n records and d levels, and leaves r of x, with a peak of q where x counts as 1, or is refused as b says
pub record Built (N : Nodes) (n d : ℕ) (r : Float → Float) (q : ℕ) (b : Float → ℕ → Option Stop) : Type 0 where
  pub fine : Fine n d N
  pub yields : (x : Float) → T (finite x) → Yields N x (r x) q (b x)

pub rebuild : {N : Nodes} {n d : ℕ} {r : Float → Float} {q : ℕ} {b : Float → ℕ → Option Stop} (m e p : ℕ) (c : Float → ℕ → Option Stop) → n ≤ m → d ≤ e → q ≡ p
    → ((x : Float) (at : ℕ) → b x at ≡ c x at) → Built N n d r q b → Built N m e r p c
rebuild {N} {r = r} {b = b} m e p c few deep same places g = record {
  fine = fine_more m e g.fine few deep;
  yields = λ x fx. subst (λ (k : ℕ). Yields N x (r x) k (c x)) same (reyield (b x) (c x) (places x) (g.yields x fx));
}

-- nothing: x times 0
pub built-zero : Built (two (push zero64) (does prim.Mul)) 2 1 (λ x. x ⊗ zero64) 2 (λ x at. or none (bad (x ⊗ zero64) (at + 0 + 1)))
unfolding append size
built-zero = record { fine = zero-fine; yields = λ x fx. then-yields (does prim.Mul) (omega arith) (omega arith) (end-yields x) zero_number (multiplies x zero64) }

-- bare x
pub built-x : Built (one (does prim.Identity)) 1 1 (λ x. x) 1 (λ x at. none)
unfolding size
built-x = record {
  fine = fine-one 1 (does prim.Identity) (omega arith) (plain-does prim.Identity);
  yields = λ x fx. record {
    run = λ s at h n p room i. restate none (x ∷ s) {n = n + 1} {p = max p (suc (length s) + h)} (omega arith) (omega arith) (identity-out x s at h n p fx (omega arith));
  };
}

pub built-term : (p : Float) (c : Complex) (k : Exponent) → T (is_number p) → T (is_number c.re) → IsWholeOrHalf p k
    → Built (piece p k c) 4 1 (λ x. term_value x k c) (cond (light k c) 1 2) (λ x at. stop_term at x k c)
built-term p c k fp fc w = record { fine = piece-fine p c k fp fc; yields = λ x fx. piece-yields c fc x p k fp w }

module _ {P : Nodes} {t : Float → Float} {q : ℕ} {e : Float → ℕ → Option Stop} (f : Built P 4 1 t q e) where
  -- the term P after what came before, and its Add
  pub built-join : {N : Nodes} {n d : ℕ} {r : Float → Float} {k : ℕ} {b : Float → ℕ → Option Stop} → n ≤ 2048 → 1 ≤ k → 1 ≤ q → Built N n d r k b
      → Built (append (append (wrapped N) P) (one (does prim.Add))) (n + 7) (d + 2) (λ x. r x ⊕ t x) (suc (max k q))
      (λ x at. or (or (b x (at + 2)) (e x (at + (size N + 2)))) (bad (r x ⊕ t x) (at + (size N + 2) + size P)))
  built-join {N} {n} {d} few K low g = record {
    fine = fine_more (n + 7) (d + 2)
        (fine-say (append (wrapped N) P) (does prim.Add)
        (fine-append (wrapped N) P (fine-wrapped N (omega arith) g.fine) (fine_more 4 (d + 2) f.fine (omega arith) (omega arith)))
        (omega arith) (plain-does prim.Add)) (omega arith) (omega arith);
    yields = λ x fx. join-yields K low (g.yields x fx) (f.yields x fx);
  }

  -- the same where only x came before
  pub built-dup : q ≡ 2
      → Built (append (append (one (does prim.Dup)) P) (one (does prim.Add))) 7 1 (λ x. x ⊕ t x) 3 (λ x at. or (e x (at + 1)) (bad (x ⊕ t x) (at + 1 + size P)))
  built-dup two' = record {
    fine = fine_more 7 1
        (fine-say (append (one (does prim.Dup)) P) (does prim.Add)
        (fine-append (one (does prim.Dup)) P (fine-one 1 (does prim.Dup) (omega arith) (plain-does prim.Dup)) f.fine) (omega arith) (plain-does prim.Add)) (omega arith) (omega arith);
    yields = λ x fx. dup-yields (subst (λ (k : ℕ). Yields P x (t x) k (e x)) two' (f.yields x fx));
  }
