-- Laws of cells, of room, and of what is kept. Assumes nothing.
use Prim.Native.Nat.{ℕ, zero, suc, ◌+◌, ◌≤◌, ◌<◌}
use native.Mathlib.Omega.{arith}
use mathlib.Core.Path.{◌≡◌, refl, ap, ◌∙◌}
use mathlib.Core.List.{List, []}
use lib.Dec.{T}
use lib.Ieee.{binary64, fits}
use lib.Ieee.Bits.{of_bits-to_bits, of_bits-fits}
use lib.ListN.{length, get_or, replicate, length-replicate}
use Rattle.cells.specs.declared.Entry.{Entry}
use Rattle.cells.specs.Contract.Book.{Book, book, Room, cell, word, decoded, encoded, at}
use Rattle.cells.specs.Contract.Moves.{SameRoom, Kept, Put, Copied, Inserted}

-- ---- books that are one, as a book and what is lent of it for reading

pub kinds-one : {a b : Book} → a ≡ b → a.kinds ≡ b.kinds
kinds-one e = ap (λ (x : Book). x.kinds) e

pub insides-one : {a b : Book} → a ≡ b → a.insides ≡ b.insides
insides-one e = ap (λ (x : Book). x.insides) e

-- ---- cells

-- the same cell stands for the same entry
pub at-kept : (b b' : Book) (j : ℕ) → cell b' j ≡ cell b j → at b' j ≡ at b j
at-kept b b' j e = ap decoded e

-- every number of the entry is one of binary64
pub record Fitting (e : Entry) : Type 0 where
  pub num : T (fits binary64 e.num)
  pub re : T (fits binary64 e.coef.re)
  pub im : T (fits binary64 e.coef.im)

-- an entry that is written comes back when it is read
pub decoded-encoded : (e : Entry) → Fitting e → decoded (encoded e) ≡ e
decoded-encoded e f =
    let num = of_bits-to_bits binary64 e.num f.num in
    let re = of_bits-to_bits binary64 e.coef.re f.re in
    let im = of_bits-to_bits binary64 e.coef.im f.im in
    rw (num, re, im)

pub put-at : {b b' : Book} {k : ℕ} {e : Entry} → Put b b' k e → Fitting e → at b' k ≡ e
put-at {e = e} p f = ap decoded p.here ∙ decoded-encoded e f

pub inserted-at : {g b b' : Book} {i k e : ℕ} {x : Entry} → Inserted g b b' i k e x → Fitting x → at b' k ≡ x
inserted-at {x = x} p f = ap decoded p.here ∙ decoded-encoded x f

-- what is read is one of binary64
pub at-fits : (b : Book) (i : ℕ) → Fitting (at b i)
at-fits b i =
    let c = cell b i in
    record { num = of_bits-fits binary64 (word c 0); re = of_bits-fits binary64 (word c 1); im = of_bits-fits binary64 (word c 2) }

-- ---- room

pub room-less : {b : Book} {m n : ℕ} → m ≤ n → Room b n → Room b m
room-less h r = omega arith

pub room-same : {b b' : Book} {n : ℕ} → SameRoom b b' → Room b n → Room b' n
room-same s r = omega arith

pub same-room-refl : (b : Book) → SameRoom b b
same-room-refl b = record { kinds = refl; insides = refl; numbers = refl }

pub same-room-trans : {a b c : Book} → SameRoom a b → SameRoom b c → SameRoom a c
same-room-trans s t = omega arith

-- ---- what is kept

pub kept_refl : (b : Book) (lo hi : ℕ) → Kept b b lo hi
kept_refl b lo hi = record { below = λ j h. refl; above = λ j h. refl; long = same-room-refl b }

pub kept_trans : {a b c : Book} {lo hi : ℕ} → Kept a b lo hi → Kept b c lo hi → Kept a c lo hi
kept_trans s t =
    record {
      below = λ j h. t.below j h ∙ s.below j h;
      above = λ j h. t.above j h ∙ s.above j h;
      long = same-room-trans s.long t.long;
    }

pub kept-wider : {b b' : Book} {lo hi lo' hi' : ℕ} → lo' ≤ lo → hi ≤ hi' → Kept b b' lo hi → Kept b b' lo' hi'
kept-wider p q s = record { below = λ j h. s.below j (omega arith); above = λ j h. s.above j (omega arith); long = s.long }

pub put-kept : {b b' : Book} {k : ℕ} {e : Entry} → Put b b' k e → Kept b b' k (k + 1)
put-kept p = record { below = λ j h. p.else j (λ e. omega arith); above = λ j h. p.else j (λ e. omega arith); long = p.long }

pub copied-kept : {g b b' : Book} {i n k : ℕ} → Copied g b b' i n k → Kept b b' k (k + n)
copied-kept w = record { below = w.below; above = w.above; long = w.long }

pub inserted-kept : {g b b' : Book} {i k e : ℕ} {x : Entry} → Inserted g b b' i k e x → Kept b b' k (e + (1 + x.inside))
inserted-kept p = record { below = p.below; above = p.above; long = p.long }

-- ---- the fresh state: n places of a kind 0, an inside count 0, and three words 0

abbrev pub fresh : ℕ → Book
fresh n = book (replicate n 0) (replicate n 0) (replicate n (replicate 3 0))

same_at : {A : Type 0} (n i : ℕ) (a d : A) → i < n → get_or (replicate n a) i d ≡ a
same_at zero i a d h = absurd (omega arith)
same_at (suc n) zero a d h = refl
same_at (suc n) (suc i) a d h = same_at n i a d (omega arith)

pub room-fresh : (n : ℕ) → Room (fresh n) n
room-fresh n = omega (arith, length-replicate {A = ℕ} n 0, length-replicate {A = List ℕ} n (replicate 3 0))
