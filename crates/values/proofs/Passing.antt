-- Powers of x met one after the other in the bytes of a sum. Assumes nothing.
use Prim.Native.Nat.{ℕ, suc, ◌+◌, ◌-◌, ◌*◌, ◌≤◌, ◌<◌}
use native.Mathlib.Omega.{arith}
use native.Mathlib.Decide.{ℕ_discrete}
use mathlib.Core.Path.{◌≡◌, refl, sym, ap, ap₂, subst, ◌∙◌}
use mathlib.Core.Bool.{true}
use mathlib.Core.List.{List}
use lib.ListN.{length}
use lib.Ieee.{Float, lt}
use Rattle.formats.specs.Bytes.{Bytes}
use Rattle.cells.specs.declared.Entry.{Entry}
use Rattle.sums.specs.Tree.Sums.{Sum, none, and}
use Rattle.values.specs.declared.Found.{Found}
use Rattle.values.specs.Contract.Findings.{Reached, Starts, Takes}
use Rattle.values.specs.Contract.Powers.{entry_at, PowerAt, AllMet}
use Rattle.values.proofs.Walk.{Goes, goes-start, goes-next, goes_end}
use Rattle.values.proofs.Flat.{flat, flat-size, powers-good, powers-encode}

-- the first i of n entries are powers, each above the one before it, and were met; `last` is the last one's number
pub record Passing (l : List ℕ) (n : ℕ) (x : Float) (f : Found) (last : Float) (i : ℕ) : Type 0 where
  pub within : i ≤ n
  pub reached : Reached x f
  pub all : (j : ℕ) → j < i → PowerAt l j
  pub up : (j : ℕ) → j + 1 < i → lt (entry_at l j).num (entry_at l (j + 1)).num ≡ true
  pub is_last : 0 < i → last ≡ (entry_at l (i - 1)).num
  pub goes : Goes x f (flat (entry_at l) 0 n) (flat (entry_at l) i (n - i))

module _ {l : List ℕ} {n : ℕ} {x : Float} {f : Found} {last : Float} where
  pub passing-start : Starts x f → Passing l n x f last 0
  passing-start h =
      let e : n ≡ n - 0 = omega arith in
      record {
        within = omega arith;
        reached = h.reached;
        all = λ j p. absurd (omega arith);
        up = λ j p. absurd (omega arith);
        is_last = λ p. absurd (omega arith);
        goes = subst (λ (m : ℕ). Goes x f (flat (entry_at l) 0 n) (flat (entry_at l) 0 m)) e (goes-start h);
      }

  module _ {i : ℕ} (w : Passing l n x f last i) where
    pub passing-next : {r : Found} (e : Entry) → i < n → PowerAt l i → e ≡ entry_at l i → lt last e.num ≡ true → Takes x f e r → Passing l n x r e.num (i + 1)
    unfolding flat
    passing-next e h p q t k =
        let number : ℕ → Float = λ j. (entry_at l j).num in
        let is : e.num ≡ number i = ap (λ (z : Entry). z.num) q in
        let same : i ≡ i + 1 - 1 = omega arith in
        let rest = flat (entry_at l) (i + 1) (n - (i + 1)) in
        let more : n - i ≡ suc (n - (i + 1)) = omega arith in
        let first : flat (entry_at l) i (n - i) ≡ and e.kind e.num none e.coef rest =
        ap (flat (entry_at l) i) more ∙ ap (λ (z : Entry). and z.kind z.num none z.coef rest) (sym q) in
        record {
          within = omega arith;
          reached = k.reached;
          all = λ j s. elim (ℕ_discrete j i) [ yes o ↦ rw o p | no o ↦ w.all j (omega (arith, o)) ];
          up = λ j s.
              elim (ℕ_discrete (j + 1) i) [
                | yes o ↦ let a : i - 1 ≡ j = omega (arith, o) in
                    sym (ap₂ lt (w.is_last (omega (arith, o)) ∙ ap number a) (is ∙ ap number (sym o))) ∙ t
                | no o ↦ w.up j (omega (arith, o))
              ];
          is_last = λ s. is ∙ ap number same;
          goes = goes-next e none rest k (subst (Goes x f (flat (entry_at l) 0 n)) first w.goes);
        }

    pub passing-end : n ≤ i → Bytes l → 32 * n ≤ length l → AllMet l n x f
    unfolding flat
    passing-end h bs room =
        let at-end = w.within in
        let all : (j : ℕ) → j < n → PowerAt l j = λ j p. w.all j (omega arith) in
        let up : (j : ℕ) → j + 1 < n → lt (entry_at l j).num (entry_at l (j + 1)).num ≡ true = λ j p. w.up j (omega arith) in
        let nothing : n - i ≡ 0 = omega arith in
        record {
          s = flat (entry_at l) 0 n;
          encodes = powers-encode l n bs room all up;
          good = powers-good l n bs room all up;
          sized = flat-size (entry_at l) 0 n;
          finds = goes_end (subst (λ (m : ℕ). Goes x f (flat (entry_at l) 0 n) (flat (entry_at l) i m)) nothing w.goes);
        }
