-- Entries read into cells, one after the other. Assumes nothing.
use mathlib.Core.Path.{◌≡◌, refl, ap, ◌∙◌, sym}
use mathlib.Core.Bool.{true, false, true≢false}
use mathlib.Core.List.{List, [], ◌∷◌}
use Prim.Native.Nat.{ℕ, ◌+◌, ◌≤◌, ◌<◌}
use native.Mathlib.Omega.{arith}
use native.Mathlib.Decide.{ℕ_discrete}
use lib.ListN.{set, length-set}
use lib.Seq.{get_or-set_same, get_or-set_other}
use Rattle.cells.specs.Contract.Book.{Book, Cell, book, cell, Room}
use Rattle.cells.specs.Contract.Moves.{SameRoom}
use Rattle.cells.proofs.Laws.{same-room-refl, same-room-trans, room-same}
use Rattle.sums.specs.Entry.Contract.Steps.{clean_at, cell_at}
use Rattle.sums.specs.Contract.Steps.{five, Loaded}

-- the first j entries are clean and in the cells
pub record Passed (l : List ℕ) (b₀ b : Book) (j : ℕ) : Type 0 where
  pub clean : (i : ℕ) → i < j → clean_at l i ≡ true
  pub cells : (i : ℕ) → i < j → five (cell b i) ≡ cell_at l i
  pub long : SameRoom b₀ b

pub outset : (l : List ℕ) (b : Book) → Passed l b b 0
outset l b = record { clean = λ i h. absurd (omega arith); cells = λ i h. absurd (omega arith); long = same-room-refl b }

-- a cell written at j
abbrev wrote : Book → ℕ → Cell → Book
wrote b j c = book (set b.kinds j c.kind) (set b.insides j c.inside) (set b.numbers j c.words)

wrote-long : (b : Book) (j : ℕ) (c : Cell) → SameRoom b (wrote b j c)
wrote-long b j c = record { kinds = simp length-set; insides = simp length-set; numbers = simp length-set }

wrote-here : (b : Book) (j : ℕ) (c : Cell) → Room b (j + 1) → cell (wrote b j c) j ≡ c
wrote-here b j c r =
    let k = get_or-set_same b.kinds j c.kind 0 (omega arith) in
    let n = get_or-set_same b.insides j c.inside 0 (omega arith) in
    let w = get_or-set_same b.numbers j c.words [] (omega arith) in
    rw (k, n, w)

wrote-else : (b : Book) (j : ℕ) (c : Cell) (i : ℕ) → (i ≡ j → ⊥) → cell (wrote b j c) i ≡ cell b i
wrote-else b j c i n =
    let k = get_or-set_other b.kinds j i c.kind 0 n in
    let m = get_or-set_other b.insides j i c.inside 0 n in
    let w = get_or-set_other b.numbers j i c.words [] n in
    rw (k, m, w)

-- the entry at j is clean, and its words are x, y and z
pub pass : (l : List ℕ) (b₀ b : Book) (j : ℕ) (x y z : ℕ) → Passed l b₀ b j → Room b₀ (j + 1) → clean_at l j ≡ true
    → x ≡ (cell_at l j).num → y ≡ (cell_at l j).re → z ≡ (cell_at l j).im
    → Passed l b₀ (wrote b j record { kind = (cell_at l j).kind; inside = (cell_at l j).inside; words = x ∷ y ∷ z ∷ [] }) (j + 1)
pass l b₀ b j x y z p h c ex ey ez =
    let v : Cell = record { kind = (cell_at l j).kind; inside = (cell_at l j).inside; words = x ∷ y ∷ z ∷ [] } in
    let is : five v ≡ cell_at l j = rw (ex, ey, ez) in
    let room = room-same p.long h in
    record {
      clean = λ i q. elim (ℕ_discrete i j) [ yes e ↦ rw e c | no e ↦ p.clean i (omega (arith, e)) ];
      cells = λ i q.
          elim (ℕ_discrete i j) [
            | yes e ↦ rw e (ap five (wrote-here b j v room) ∙ is)
            | no e ↦ ap five (wrote-else b j v i e) ∙ p.cells i (omega (arith, e))
          ];
      long = same-room-trans p.long (wrote-long b j v);
    }

pub read_all : (l : List ℕ) (b₀ b : Book) (n j : ℕ) → Passed l b₀ b j → j ≤ n → n ≤ j → Loaded l n b true
read_all l b₀ b n j p lo hi = record { tests = (λ e i h. p.clean i (omega arith), λ f. refl); cells = λ e i h. p.cells i (omega arith) }

pub read-stops : (l : List ℕ) (b : Book) (n j : ℕ) → j < n → clean_at l j ≡ false → Loaded l n b false
read-stops l b n j h c =
    record {
      tests = (λ e. absurd (true≢false (sym e)), λ f. absurd (true≢false (sym (f j h) ∙ c)));
      cells = λ e. absurd (true≢false (sym e));
    }
