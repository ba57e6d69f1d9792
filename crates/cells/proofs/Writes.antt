-- Laws of cells that are written, moved and copied. Assumes nothing.
use Prim.Native.Nat.{ℕ, ◌+◌, ◌-◌, ◌≤◌, ◌<◌}
use native.Mathlib.Omega.{arith}
use native.Mathlib.Nat.{eq-or-lt_of_le}
use native.Mathlib.Decide.{ℕ_discrete}
use mathlib.Core.Path.{◌≡◌, refl, ap, subst, ◌∙◌}
use mathlib.Core.Logic.{⊎_elim}
use mathlib.Core.List.{[]}
use lib.ListN.{length, get_or, set, length-set}
use lib.Seq.{get_or-set_same, get_or-set_other}
use Rattle.cells.specs.declared.Entry.{Entry}
use Rattle.cells.specs.Contract.Book.{Book, book, Room, Cell, cell, encoded}
use Rattle.cells.specs.Contract.Moves.{SameRoom, Apart, under, over, Put, Moved, Copied, Inserted}
use Rattle.cells.proofs.Laws.{same-room-refl, same-room-trans, room-same}

-- ---- one cell written

abbrev written : Book → ℕ → Cell → Book
written b i c = book (set b.kinds i c.kind) (set b.insides i c.inside) (set b.numbers i c.words)

long-written : (b : Book) (i : ℕ) (c : Cell) → SameRoom b (written b i c)
long-written b i c = record { kinds = simp length-set; insides = simp length-set; numbers = simp length-set }

written-here : (b : Book) (i : ℕ) (c : Cell) → Room b (i + 1) → cell (written b i c) i ≡ c
written-here b i c r =
    let k = get_or-set_same b.kinds i c.kind 0 (omega arith) in
    let n = get_or-set_same b.insides i c.inside 0 (omega arith) in
    let w = get_or-set_same b.numbers i c.words [] (omega arith) in
    rw (k, n, w)

written-else : (b : Book) (i : ℕ) (c : Cell) (x : ℕ) → (x ≡ i → ⊥) → cell (written b i c) x ≡ cell b x
written-else b i c x n = rw (get_or-set_other b.kinds i x c.kind 0 n, get_or-set_other b.insides i x c.inside 0 n, get_or-set_other b.numbers i x c.words [] n)

-- what is at x is c where x is the place, and as it was elsewhere
wrote : (b : Book) (i : ℕ) (c : Cell) (x : ℕ) (w : Cell) → Room b (i + 1) → (x ≡ i → c ≡ w) → ((x ≡ i → ⊥) → cell b x ≡ w) → cell (written b i c) x ≡ w
wrote b i c x w r here else =
    elim (ℕ_discrete x i) [
      | yes e ↦ ap (cell (written b i c)) e ∙ written-here b i c r ∙ here e
      | no n ↦ written-else b i c x n ∙ else n
    ]

pub put_of : (b : Book) (k : ℕ) (x : Entry) → Room b (k + 1) → Put b (written b k (encoded x)) k x
put_of b k x r = record { here = written-here b k (encoded x) r; else = written-else b k (encoded x); long = long-written b k (encoded x) }

-- ---- cells move up, the last first: when it has come to j, the cells from j on are moved

pub moved_none : (b : Book) (e d : ℕ) → Moved b b e e d
moved_none b e d = record { below = λ x h. refl; moved = λ x h k. absurd (omega arith); above = λ x h. refl; long = same-room-refl b }

pub moved_more : (b₀ b : Book) (j e d : ℕ) → Moved b₀ b j e d → 0 < j → j ≤ e → Room b₀ (e + d) → Moved b₀ (written b (j - 1 + d) (cell b (j - 1))) (j - 1) e d
moved_more b₀ b j e d s p q r =
    let long = s.long in
    let place = j - 1 + d in
    let c = cell b (j - 1) in
    let room : Room b (place + 1) = omega arith in
    record {
      below = λ x h. wrote b place c x _ room (λ i. absurd (omega arith)) (λ n. s.below x (omega arith));
      moved = λ x h k.
          wrote b place c (x + d) _ room (λ i. s.below (j - 1) (omega arith) ∙ ap (cell b₀) (omega arith))
          (λ n. s.moved x (⊎_elim (λ i. absurd (n (omega arith))) (λ i. omega arith) (eq-or-lt_of_le h)) k);
      above = λ x h. wrote b place c x _ room (λ i. absurd (omega arith)) (λ n. s.above x h);
      long = same-room-trans long (long-written b place c);
    }

pub moved-done : {b₀ b : Book} {j k e d : ℕ} → Moved b₀ b j e d → j ≡ k → Moved b₀ b k e d
moved-done {b₀} {b} {e = e} {d = d} s h = subst (λ (j : ℕ). Moved b₀ b j e d) h s

-- ---- a copy goes up: when it has come to j, j cells are copied

pub copied_none : (g b : Book) (i k : ℕ) → Copied g b b i 0 k
copied_none g b i k = record { below = λ x h. refl; copied = λ x h. absurd (omega arith); above = λ x h. refl; long = same-room-refl b }

-- the next cell, c, is that of g
pub copied_more : (g b₀ b : Book) (i j k : ℕ) (c : Cell) → Copied g b₀ b i j k → Room b₀ (k + j + 1) → c ≡ cell g (i + j) → Copied g b₀ (written b (k + j) c) i (j + 1) k
copied_more g b₀ b i j k c s r is =
    let long = s.long in
    let room : Room b (k + j + 1) = omega arith in
    record {
      below = λ x h. wrote b (k + j) c x _ room (λ e. absurd (omega arith)) (λ n. s.below x h);
      copied = λ x h.
          wrote b (k + j) c (k + x) _ room (λ e. is ∙ ap (cell g) (omega arith))
          (λ n. s.copied x (⊎_elim (λ e. absurd (n (omega arith))) (λ e. omega arith) (eq-or-lt_of_le h)));
      above = λ x h. wrote b (k + j) c x _ room (λ e. absurd (omega arith)) (λ n. s.above x (omega arith));
      long = same-room-trans long (long-written b (k + j) c);
    }

pub copied-done : {g b₀ b : Book} {i j n k : ℕ} → Copied g b₀ b i j k → j ≡ n → Copied g b₀ b i n k
copied-done {g} {b₀} {b} {i} {k = k} s h = subst (λ (j : ℕ). Copied g b₀ b i j k) h s

-- in one book, the next cell to copy is as it was
pub unread : {b₀ b : Book} {i j n k : ℕ} → Copied b₀ b₀ b i j k → j < n → Apart i n k k → cell b (i + j) ≡ cell b₀ (i + j)
unread {i = i} {j = j} s h (under a) = s.below (i + j) (omega arith)
unread {i = i} {j = j} s h (over a) = s.above (i + j) (omega arith)

-- ---- a copy goes down from the last: when it has come to j, the cells from j on are copied

pub record CopiedFrom (b₀ b : Book) (i j n k : ℕ) : Type 0 where
  pub below : (x : ℕ) → x < k + j → cell b x ≡ cell b₀ x
  pub copied : (x : ℕ) → j ≤ x → x < n → cell b (k + x) ≡ cell b₀ (i + x)
  pub above : (x : ℕ) → k + n ≤ x → cell b x ≡ cell b₀ x
  pub long : SameRoom b₀ b

pub copied-from_none : (b : Book) (i n k : ℕ) → CopiedFrom b b i n n k
copied-from_none b i n k = record { below = λ x h. refl; copied = λ x h p. absurd (omega arith); above = λ x h. refl; long = same-room-refl b }

pub copied-from_more : (b₀ b : Book) (i j n k : ℕ) → CopiedFrom b₀ b i j n k → 0 < j → j ≤ n → i < k → Room b₀ (k + n)
    → CopiedFrom b₀ (written b (k + (j - 1)) (cell b (i + (j - 1)))) i (j - 1) n k
copied-from_more b₀ b i j n k s p q r room₀ =
    let long = s.long in
    let place = k + (j - 1) in
    let c = cell b (i + (j - 1)) in
    let room : Room b (place + 1) = omega arith in
    record {
      below = λ x h. wrote b place c x _ room (λ e. absurd (omega arith)) (λ m. s.below x (omega arith));
      copied = λ x h l.
          wrote b place c (k + x) _ room (λ e. s.below (i + (j - 1)) (omega arith) ∙ ap (cell b₀) (omega arith))
          (λ m. s.copied x (⊎_elim (λ e. absurd (m (omega arith))) (λ e. omega arith) (eq-or-lt_of_le h)) l);
      above = λ x h. wrote b place c x _ room (λ e. absurd (omega arith)) (λ m. s.above x h);
      long = same-room-trans long (long-written b place c);
    }

pub copied-from-done : {b₀ b : Book} {i j n k : ℕ} → CopiedFrom b₀ b i j n k → j ≡ 0 → Copied b₀ b₀ b i n k
copied-from-done s h = record { below = λ x l. s.below x (omega arith); copied = λ x l. s.copied x (omega arith) l; above = s.above; long = s.long }

-- ---- a gap opened, its first cell written, the others copied in

pub inserted-from : {g b b₁ b₂ b₃ : Book} {i k e : ℕ} {x : Entry} → Moved b b₁ k e (1 + x.inside) → Put b₁ b₂ k x → Copied g b₂ b₃ i x.inside (k + 1) → k ≤ e
    → Inserted g b b₃ i k e x
inserted-from {k = k} {e = e} {x = x} gap put copy h =
    record {
      below = λ j p. copy.below j (omega arith) ∙ put.else j (λ q. omega arith) ∙ gap.below j p;
      here = copy.below k (omega arith) ∙ put.here;
      inner = copy.copied;
      moved = λ j p q. copy.above (j + (1 + x.inside)) (omega arith) ∙ put.else (j + (1 + x.inside)) (λ r. omega arith) ∙ gap.moved j p q;
      above = λ j p. copy.above j (omega arith) ∙ put.else j (λ q. omega arith) ∙ gap.above j p;
      long = same-room-trans gap.long (same-room-trans put.long copy.long);
    }

-- a cell of the inside is as it was when it is copied
aside : {b b₁ b₂ : Book} {i k e d : ℕ} {x : Entry} → Moved b b₁ k e (1 + d) → Put b₁ b₂ k x → k ≤ e → Apart i d k (e + (1 + d)) → (j : ℕ) → j < d → cell b₂ (i + j) ≡ cell b (i + j)
aside {i = i} gap put h (under a) j p = put.else (i + j) (λ q. omega arith) ∙ gap.below (i + j) (omega arith)
aside {i = i} gap put h (over a) j p = put.else (i + j) (λ q. omega arith) ∙ gap.above (i + j) (omega arith)

-- where the inside lies in the same book
pub inserted-of : {b b₁ b₂ b₃ : Book} {i k e : ℕ} {x : Entry} → Moved b b₁ k e (1 + x.inside) → Put b₁ b₂ k x → Copied b₂ b₂ b₃ i x.inside (k + 1) → k ≤ e
    → Apart i x.inside k (e + (1 + x.inside)) → Inserted b b b₃ i k e x
inserted-of {i = i} {x = x} gap put copy h apart =
    let w = inserted-from {g = _} gap put copy h in
    record {
      below = w.below;
      here = w.here;
      inner = λ j p. w.inner j p ∙ aside {d = x.inside} gap put h apart j p;
      moved = w.moved;
      above = w.above;
      long = w.long;
    }

-- what stays apart from a gap stays apart from what is copied into it
pub apart-inside : {i d k e : ℕ} → k ≤ e → Apart i d k (e + (1 + d)) → Apart i d (k + 1) (k + 1)
apart-inside h (under a) = under (omega arith)
apart-inside h (over a) = over (omega arith)
