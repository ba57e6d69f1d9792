-- What is written, cell by cell; every other cell is as it was, and every list as long.
use Rattle.std.specs.Prelude.{ℕ, ◌+◌, ◌≤◌, ◌<◌, ◌≡◌, length}
use Rattle.cells.specs.declared.Entry.{Entry}
use Rattle.cells.specs.Contract.Book.{Book, cell, encoded}

-- the lists are as long as they were
pub record SameRoom (b b' : Book) : Type 0 where
  pub kinds : length b'.kinds ≡ length b.kinds
  pub insides : length b'.insides ≡ length b.insides
  pub numbers : length b'.numbers ≡ length b.numbers

-- below lo and from hi on every cell is as it was, and the lists are as long
pub record Kept (b b' : Book) (lo hi : ℕ) : Type 0 where
  pub below : (j : ℕ) → j < lo → cell b' j ≡ cell b j
  pub above : (j : ℕ) → hi ≤ j → cell b' j ≡ cell b j
  pub long : SameRoom b b'

-- the n cells from i on end at lo or before, or start at hi or after
pub data Apart (i n lo hi : ℕ) : Type 0 where
  under : i + n ≤ lo → Apart i n lo hi
  over : hi ≤ i → Apart i n lo hi

-- an entry is written at k
pub record Put (b b' : Book) (k : ℕ) (x : Entry) : Type 0 where
  pub here : cell b' k ≡ encoded x
  pub else : (j : ℕ) → (j ≡ k → ⊥) → cell b' j ≡ cell b j
  pub long : SameRoom b b'

-- the cells from k up to e are moved up by d
pub record Moved (b b' : Book) (k e d : ℕ) : Type 0 where
  pub below : (j : ℕ) → j < k → cell b' j ≡ cell b j
  pub moved : (j : ℕ) → k ≤ j → j < e → cell b' (j + d) ≡ cell b j
  pub above : (j : ℕ) → e + d ≤ j → cell b' j ≡ cell b j
  pub long : SameRoom b b'

-- n cells of g from i on are copied to k
pub record Copied (g b b' : Book) (i n k : ℕ) : Type 0 where
  pub below : (j : ℕ) → j < k → cell b' j ≡ cell b j
  pub copied : (j : ℕ) → j < n → cell b' (k + j) ≡ cell g (i + j)
  pub above : (j : ℕ) → k + n ≤ j → cell b' j ≡ cell b j
  pub long : SameRoom b b'

-- x and its inside, which lies in g from i on, are put in at k, before the cells up to e, which move up
pub record Inserted (g b b' : Book) (i k e : ℕ) (x : Entry) : Type 0 where
  pub below : (j : ℕ) → j < k → cell b' j ≡ cell b j
  pub here : cell b' k ≡ encoded x
  pub inner : (j : ℕ) → j < x.inside → cell b' (k + 1 + j) ≡ cell g (i + j)
  pub moved : (j : ℕ) → k ≤ j → j < e → cell b' (j + (1 + x.inside)) ≡ cell b j
  pub above : (j : ℕ) → e + (1 + x.inside) ≤ j → cell b' j ≡ cell b j
  pub long : SameRoom b b'
