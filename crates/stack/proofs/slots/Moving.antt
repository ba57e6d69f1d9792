-- What is moved and written in the arena, cells and sizes. Assumes nothing.
use Prim.Native.Nat.{ℕ, ◌+◌, ◌-◌, ◌≤◌, ◌<◌}
use native.Mathlib.Omega.{arith}
use mathlib.Core.Path.{◌≡◌, refl, ap, subst, ◌∙◌}
use mathlib.Core.Logic.{⊎_elim}
use mathlib.Core.List.{List}
use native.Mathlib.Decide.{ℕ_discrete}
use native.Mathlib.Nat.{eq-or-lt_of_le}
use lib.ListN.{length, get_or, set, length-set}
use lib.Seq.{get_or-set_same, get_or-set_other}
use Rattle.cells.specs.Contract.Book.{Book}
use Rattle.cells.specs.Contract.Moves.{Moved, Copied}
use Rattle.sums.specs.Tree.Sums.{Sum}
use Rattle.stack.proofs.Sizes.{not-empty}
use Rattle.sums.specs.Contract.Lies.{Lies}
use Rattle.sums.proofs.order.Walk.{lies-copied}
use Rattle.stack.specs.Contract.Arena.{Arena, of, Space}
use Rattle.stack.specs.Contract.Stacked.{Top}
use Rattle.stack.specs.Contract.Blocks.{Outside, Raised, Sunk}
use Rattle.stack.proofs.slots.Laws.{slot_same}

-- one element written: what is at x is v where x is the place, and as it was elsewhere
wrote : (l : List ℕ) (i v x w : ℕ) → i < length l → (x ≡ i → v ≡ w) → ((x ≡ i → ⊥) → get_or l x 0 ≡ w) → get_or (set l i v) x 0 ≡ w
wrote l i v x w h here else =
    elim (ℕ_discrete x i) [
      | yes e ↦ ap (λ (y : ℕ). get_or (set l i v) y 0) e ∙ get_or-set_same l i v 0 h ∙ here e
      | no n ↦ get_or-set_other l i x v 0 n ∙ else n
    ]

-- ---- sizes moved up, from the last: when it has come to j, those from j on are moved

pub record Slid (l l' : List ℕ) (k e d : ℕ) : Type 0 where
  pub below : (j : ℕ) → j < k → get_or l' j 0 ≡ get_or l j 0
  pub moved : (j : ℕ) → k ≤ j → j < e → get_or l' (j + d) 0 ≡ get_or l j 0
  pub above : (j : ℕ) → e + d ≤ j → get_or l' j 0 ≡ get_or l j 0
  pub long : length l' ≡ length l

pub slide_none : (l : List ℕ) (e d : ℕ) → Slid l l e e d
slide_none l e d = record { below = λ x h. refl; moved = λ x h k. absurd (omega arith); above = λ x h. refl; long = refl }

pub slide-more : (l₀ l : List ℕ) (j e d : ℕ) → Slid l₀ l j e d → 0 < j → j ≤ e → e + d ≤ length l₀ → Slid l₀ (set l (j - 1 + d) (get_or l (j - 1) 0)) (j - 1) e d
slide-more l₀ l j e d s p q r =
    let long = s.long in
    let v = get_or l (j - 1) 0 in
    let h₀ : j - 1 + d < length l = omega arith in
    let last : (x : ℕ) → x + d ≡ j - 1 + d → v ≡ get_or l₀ x 0 = λ x i. s.below (j - 1) (omega arith) ∙ ap (λ (y : ℕ). get_or l₀ y 0) (omega arith) in
    record {
      below = λ x h. wrote l (j - 1 + d) v x _ h₀ (λ i. absurd (omega arith)) (λ n. s.below x (omega arith));
      moved = λ x h k. wrote l (j - 1 + d) v (x + d) _ h₀ (last x) (λ n. s.moved x (⊎_elim (λ i. absurd (n (omega arith))) (λ i. omega arith) (eq-or-lt_of_le h)) k);
      above = λ x h. wrote l (j - 1 + d) v x _ h₀ (λ i. absurd (omega arith)) (λ n. s.above x h);
      long = length-set l (j - 1 + d) v ∙ long;
    }

-- ---- sizes copied down, from the first: when it has come to j, j are copied

pub record Pasted (l l' : List ℕ) (i n k : ℕ) : Type 0 where
  pub below : (j : ℕ) → j < k → get_or l' j 0 ≡ get_or l j 0
  pub copied : (j : ℕ) → j < n → get_or l' (k + j) 0 ≡ get_or l (i + j) 0
  pub above : (j : ℕ) → k + n ≤ j → get_or l' j 0 ≡ get_or l j 0
  pub long : length l' ≡ length l

pub paste_none : (l : List ℕ) (i k : ℕ) → Pasted l l i 0 k
paste_none l i k = record { below = λ x h. refl; copied = λ x h. absurd (omega arith); above = λ x h. refl; long = refl }

pub paste_more : (l₀ l : List ℕ) (i j k : ℕ) → Pasted l₀ l i j k → k ≤ i → i + j < length l₀ → Pasted l₀ (set l (k + j) (get_or l (i + j) 0)) i (j + 1) k
paste_more l₀ l i j k s down p =
    let long = s.long in
    let v = get_or l (i + j) 0 in
    let h₀ : k + j < length l = omega arith in
    let last : (x : ℕ) → k + x ≡ k + j → v ≡ get_or l₀ (i + x) 0 = λ x e. s.above (i + j) (omega arith) ∙ ap (λ (y : ℕ). get_or l₀ y 0) (omega arith) in
    record {
      below = λ x h. wrote l (k + j) v x _ h₀ (λ e. absurd (omega arith)) (λ n. s.below x h);
      copied = λ x h. wrote l (k + j) v (k + x) _ h₀ (last x) (λ n. s.copied x (⊎_elim (λ e. absurd (n (omega arith))) (λ e. omega arith) (eq-or-lt_of_le h)));
      above = λ x h. wrote l (k + j) v x _ h₀ (λ e. absurd (omega arith)) (λ n. s.above x (omega arith));
      long = length-set l (k + j) v ∙ long;
    }

-- ---- cells and sizes moved are slots moved

pub raised_of : {a a' : Arena} {j k e d : ℕ} → Moved a.cells a'.cells j e d → Slid a.sizes a'.sizes j e d → j ≡ k → Raised a a' k e d
raised_of {a} {a'} {k = k} {e = e} {d = d} g s same =
    subst (λ (u : ℕ). Raised a a' u e d) same
    (record {
      moved = λ j p q. slot_same a a' (j + d) j (g.moved j p q) (s.moved j p q);
      outside = record {
        below = λ j p. slot_same a a' j j (g.below j p) (s.below j p);
        above = λ j p. slot_same a a' j j (g.above j p) (s.above j p);
        long = record { cells = g.long; sizes = s.long };
      };
    })

pub sunk-of : {a a' : Arena} {from to j n : ℕ} → Copied a.cells a.cells a'.cells from j to → Pasted a.sizes a'.sizes from j to → j ≡ n → Sunk a a' from to n
sunk-of {a} {a'} {from} {to} {n = n} g s same =
    subst (λ (u : ℕ). Sunk a a' from to u) same
    (record {
      copied = λ j p. slot_same a a' (to + j) (from + j) (g.copied j p) (s.copied j p);
      outside = record {
        below = λ j p. slot_same a a' j j (g.below j p) (s.below j p);
        above = λ j p. slot_same a a' j j (g.above j p) (s.above j p);
        long = record { cells = g.long; sizes = s.long };
      };
    })

-- ---- a sum brought up

-- the cells of a sum are copied to u, and its size is written at the last
pub brought : {b b' : Book} (i n u : ℕ) (z : List ℕ) → Copied b b b' i n u → 1 ≤ n → n ≤ 64 → Space (of b z) (u + n)
    → Outside (of b z) (of b' (set z (u + n - 1) n)) u (u + n) × ((s : Sum) → Lies b i (i + n) 4 s → Top (of b' (set z (u + n - 1) n)) u (u + n) s)
brought {b} {b'} i n u z w least few room =
    let long = room.sizes in
    let a' = of b' (set z (u + n - 1) n) in (
      record {
        below = λ j p. slot_same (of b z) a' j j (w.below j p) (get_or-set_other z (u + n - 1) j n 0 (λ e. omega arith));
        above = λ j p. slot_same (of b z) a' j j (w.above j p) (get_or-set_other z (u + n - 1) j n 0 (λ e. omega arith));
        long = record { cells = w.long; sizes = length-set z (u + n - 1) n };
      },
      λ s l.
          let ends = l.ends in
          record {
            lies = lies-copied w room.cells l;
            good = record { good = l.good; room = omega arith; some = not-empty s (omega arith) };
            told = get_or-set_same z (u + n - 1) n 0 (omega arith) ∙ omega arith;
          },
    )
