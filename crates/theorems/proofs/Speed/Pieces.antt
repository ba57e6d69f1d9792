-- How the records of one term run, and how a term is added to what came before it. Assumes nothing.
use Prim.Native.Nat.{ℕ, suc, ◌+◌, ◌≤◌, max}
use mathlib.Core.Path.{◌≡◌, refl, subst}
use mathlib.Core.List.{List, ◌∷◌}
use mathlib.Core.Option.{Option, none}
use native.Mathlib.Omega.{arith}
use borrow.Author.Tests.{le-leb}
use lib.Dec.{T}
use lib.ListN.{length}
use lib.Ieee.{Float, lt}
use Rattle.numbers.specs.Signs.{zero64}
use Rattle.numbers.specs.Ops.{◌⊕◌, ◌⊗◌}
use Rattle.numbers.specs.Radical.Root.{root}
use Rattle.sums.specs.Tree.Good.{is_number}
use Rattle.formats.specs.declared.record.Record.{Record}
use Rattle.formats.specs.declared.record.Primitive.TheVariants as prim
use Rattle.formats.specs.Names.{kind_of}
use Rattle.formats.specs.Tree.{Nodes, end, size, count}
use Rattle.writing.specs.Draft.Writing.{push, does, append, one, two, wrapped}
use Rattle.writing.proofs.draft.Laws.{size-append, size-one, size-wrapped}
use Rattle.running.specs.Running.{runs}
use Rattle.theorems.proofs.Speed.Steps.{Stop, state, out, or, bad, unless_below, restate, both, then-done, push-out, dup-out, sqrt-out, Forms, adds, multiplies}

-- The list, run where x is on top, leaves r in its place, in as many steps as it has records, with a peak of q where x counts as 1;
-- or it is refused, as b says for the place of its first record.
pub record Yields (N : Nodes) (x r : Float) (q : ℕ) (b : ℕ → Option Stop) : Type 0 where
  pub run : (s : List Float) (at h n p : ℕ) → q + (length s + h) ≤ 256 → 1 + (length s + h) ≤ p
      → runs N at h (state (x ∷ s) n p) ≡ out (b at) (state (r ∷ s) (n + size N) (max p (q + (length s + h))))

-- ---- one term

-- nothing: x stays
pub end-yields : (x : Float) → Yields end x x 1 (λ at. none)
unfolding runs size
end-yields x = record { run = λ s at h n p b i. restate none (x ∷ s) (omega arith) (omega arith) refl }

-- a number pushed, and a record that forms a value of it
pub then-yields : {A : Nodes} {x r t v : Float} {q : ℕ} {b : ℕ → Option Stop} (op : Record) → 1 ≤ q → q ≤ 2 → Yields A x r q b → T (is_number t) → Forms op r t v
    → Yields (append A (two (push t) op)) x v 2 (λ at. or (b at) (bad v (at + size A + 1)))
unfolding size append
then-yields {A} {x} {r} {t} {v} {q} {b} op low high g k f = record {
  run = λ s at h n p room i.
      let p₁ = max p (q + (length s + h)) in
      let p₂ = max p₁ (suc (suc (length s)) + h) in
      restate (or (b at) (bad v (at + size A + 1))) (v ∷ s) {n = n + size A + 1 + 1} {p = max p₂ (suc (length s) + h)} (omega (arith, size-append A (two (push t) op))) (omega arith)
      (both A (two (push t) op) at h (b at) (bad v (at + size A + 1)) (state (x ∷ s) n p) (state (r ∷ s) (n + size A) p₁) (state (v ∷ s) (n + size A + 1 + 1) (max p₂ (suc (length s) + h)))
      (g.run s at h n p (omega arith) i)
      (both (one (push t)) (one op) (at + size A) h none (bad v (at + size A + 1))
      (state (r ∷ s) (n + size A) p₁) (state (t ∷ r ∷ s) (n + size A + 1) p₂) (state (v ∷ s) (n + size A + 1 + 1) (max p₂ (suc (length s) + h)))
      (push-out t (r ∷ s) (at + size A) h (n + size A) p₁ k (omega arith))
      (f.run s (at + size A + 1) h (n + size A + 1) p₂ (omega arith))));
}

-- Dup, Mul
pub square-yields : (x : Float) → Yields (two (does prim.Dup) (does prim.Mul)) x (x ⊗ x) 2 (λ at. bad (x ⊗ x) (at + 1))
unfolding size append
square-yields x = record {
  run = λ s at h n p room i.
      let p₁ = max p (suc (suc (length s)) + h) in
      restate (bad (x ⊗ x) (at + 1)) ((x ⊗ x) ∷ s) {n = n + 1 + 1} {p = max p₁ (suc (length s) + h)} (omega arith) (omega arith)
      (both (one (does prim.Dup)) (one (does prim.Mul)) at h none (bad (x ⊗ x) (at + 1))
      (state (x ∷ s) n p) (state (x ∷ x ∷ s) (n + 1) p₁) (state ((x ⊗ x) ∷ s) (n + 1 + 1) (max p₁ (suc (length s) + h)))
      (dup-out x s at h n p (omega arith))
      ((multiplies x x).run s (at + 1) h (n + 1) p₁ (omega arith)));
}

-- Sqrt
pub root-yields : (x : Float) → Yields (one (does prim.Sqrt)) x (root x) 1 (λ at. unless_below (lt x zero64) at (bad (root x) at))
unfolding size
root-yields x = record {
  run = λ s at h n p room i.
      restate (unless_below (lt x zero64) at (bad (root x) at)) (root x ∷ s) {n = n + 1} {p = max p (suc (length s) + h)} (omega arith) (omega arith) (sqrt-out x s at h n p (omega arith));
}

-- ---- a term after the terms so far

-- everything so far in the body of an On: its value goes below x
on_out : {N : Nodes} {x r : Float} {q : ℕ} {b : ℕ → Option Stop} → 1 ≤ q → Yields N x r q b → (s : List Float) (at h n p : ℕ) → suc q + (length s + h) ≤ 256 → 1 + (length s + h) ≤ p
    → runs (wrapped N) at h (state (x ∷ s) n p) ≡ out (b (at + 2)) (state (x ∷ r ∷ s) (n + (size N + 2)) (max p (suc q + (length s + h))))
unfolding runs kind_of count
on_out {N} {x} {r} {q} {b} low g s at h n p room i =
    let p₁ = max p (suc (length s) + (h + 1)) in
    let n₁ = n + 1 + 1 + size N in
    let p₂ = max p₁ (q + (length s + (h + 1))) in
    let e : at + 1 + 1 ≡ at + 2 = omega arith in
    rw (le-leb (suc (length s) + (h + 1)) 256 (omega arith))
    (restate (b (at + 2)) (x ∷ r ∷ s) {n = n₁} {p = p₂} (omega arith) (omega arith)
    (rw (← e) (then-done (b (at + 1 + 1)) _ _ (state (x ∷ r ∷ s) n₁ p₂) (state (x ∷ r ∷ s) n₁ p₂)
    (then-done (b (at + 1 + 1)) _ _ (state (r ∷ s) n₁ p₂) (state (x ∷ r ∷ s) n₁ p₂)
    (then-done (b (at + 1 + 1)) _ _ (state (r ∷ s) n₁ p₂) (state (r ∷ s) n₁ p₂)
    (g.run s (at + 1 + 1) (h + 1) (n + 1 + 1) p₁ (omega arith) (omega arith)) refl) refl) refl)))

-- a term P, and its Add
pub join-yields : {N P : Nodes} {x r t : Float} {k q : ℕ} {b d : ℕ → Option Stop} → 1 ≤ k → 1 ≤ q → Yields N x r k b → Yields P x t q d
    → Yields (append (append (wrapped N) P) (one (does prim.Add))) x (r ⊕ t) (suc (max k q))
    (λ at. or (or (b (at + 2)) (d (at + (size N + 2)))) (bad (r ⊕ t) (at + (size N + 2) + size P)))
join-yields {N} {P} {x} {r} {t} {k} {q} {b} {d} K low g f = record {
  run = λ s at h n p room i.
      let p₁ = max p (suc k + (length s + h)) in
      let p₂ = max p₁ (q + (suc (length s) + h)) in
      let n₁ = n + (size N + 2) in
      let a₁ = b (at + 2) in
      let a₂ = d (at + (size N + 2)) in
      let a₃ = bad (r ⊕ t) (at + (size N + 2) + size P) in
      let e₁ : at + (size N + 2) ≡ at + size (wrapped N) = omega (arith, size-wrapped N) in
      let e₂ : at + (size N + 2) + size P ≡ at + size (append (wrapped N) P) = omega (arith, size-wrapped N, size-append (wrapped N) P) in
      restate (or (or a₁ a₂) a₃) ((r ⊕ t) ∷ s) {n = n₁ + size P + 1} {p = max p₂ (suc (length s) + h)}
      (omega (arith, size-wrapped N, size-append (wrapped N) P, size-append (append (wrapped N) P) (one (does prim.Add)), size-one (does prim.Add))) (omega arith)
      (both (append (wrapped N) P) (one (does prim.Add)) at h (or a₁ a₂) a₃
      (state (x ∷ s) n p) (state (t ∷ r ∷ s) (n₁ + size P) p₂) (state ((r ⊕ t) ∷ s) (n₁ + size P + 1) (max p₂ (suc (length s) + h)))
      (both (wrapped N) P at h a₁ a₂ (state (x ∷ s) n p) (state (x ∷ r ∷ s) n₁ p₁) (state (t ∷ r ∷ s) (n₁ + size P) p₂)
      (on_out K g s at h n p (omega arith) i)
      (subst (λ (m : ℕ). runs P m h (state (x ∷ r ∷ s) n₁ p₁) ≡ out a₂ (state (t ∷ r ∷ s) (n₁ + size P) p₂)) e₁
      (f.run (r ∷ s) (at + (size N + 2)) h n₁ p₁ (omega arith) (omega arith))))
      (subst (λ (m : ℕ). runs (one (does prim.Add)) m h (state (t ∷ r ∷ s) (n₁ + size P) p₂) ≡ out a₃ (state ((r ⊕ t) ∷ s) (n₁ + size P + 1) (max p₂ (suc (length s) + h)))) e₂
      ((adds r t).run s (at + (size N + 2) + size P) h (n₁ + size P) p₂ (omega arith))));
}

-- where only x came before
pub dup-yields : {P : Nodes} {x t : Float} {d : ℕ → Option Stop} → Yields P x t 2 d
    → Yields (append (append (one (does prim.Dup)) P) (one (does prim.Add))) x (x ⊕ t) 3 (λ at. or (d (at + 1)) (bad (x ⊕ t) (at + 1 + size P)))
unfolding size
dup-yields {P} {x} {t} {d} f = record {
  run = λ s at h n p room i.
      let p₁ = max p (suc (suc (length s)) + h) in
      let p₂ = max p₁ (2 + (suc (length s) + h)) in
      let a₁ = d (at + 1) in
      let a₂ = bad (x ⊕ t) (at + 1 + size P) in
      let e : at + 1 + size P ≡ at + size (append (one (does prim.Dup)) P) = omega (arith, size-append (one (does prim.Dup)) P) in
      restate (or a₁ a₂) ((x ⊕ t) ∷ s) {n = n + 1 + size P + 1} {p = max p₂ (suc (length s) + h)}
      (omega (arith, size-append (one (does prim.Dup)) P, size-append (append (one (does prim.Dup)) P) (one (does prim.Add)))) (omega arith)
      (both (append (one (does prim.Dup)) P) (one (does prim.Add)) at h a₁ a₂
      (state (x ∷ s) n p) (state (t ∷ x ∷ s) (n + 1 + size P) p₂) (state ((x ⊕ t) ∷ s) (n + 1 + size P + 1) (max p₂ (suc (length s) + h)))
      (both (one (does prim.Dup)) P at h none a₁ (state (x ∷ s) n p) (state (x ∷ x ∷ s) (n + 1) p₁) (state (t ∷ x ∷ s) (n + 1 + size P) p₂)
      (dup-out x s at h n p (omega arith))
      (f.run (x ∷ s) (at + 1) h (n + 1) p₁ (omega arith) (omega arith)))
      (subst (λ (m : ℕ). runs (one (does prim.Add)) m h (state (t ∷ x ∷ s) (n + 1 + size P) p₂) ≡ out a₂ (state ((x ⊕ t) ∷ s) (n + 1 + size P + 1) (max p₂ (suc (length s) + h)))) e
      ((adds x t).run s (at + 1 + size P) h (n + 1 + size P) p₂ (omega arith))));
}
