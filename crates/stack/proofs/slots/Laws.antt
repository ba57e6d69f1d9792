-- Laws of the arena: of slots, of blocks moved, of sums stacked one after the other. Assumes nothing.
use Prim.Native.Nat.{ℕ, zero, suc, ◌+◌, ◌-◌, ◌≤◌, ◌<◌}
use native.Mathlib.Omega.{arith}
use native.Mathlib.Decide.{dec_le}
use mathlib.Core.Path.{◌≡◌, refl, sym, ap, ap₂, subst, ◌∙◌}
use mathlib.Core.List.{List, [], ◌∷◌, ◌++◌}
use lib.ListN.{length, get_or, take, drop}
use Rattle.cells.specs.Contract.Book.{Room, Cell, cell, at, decoded}
use Rattle.cells.proofs.Laws.{room-less, room-same, same-room-refl, same-room-trans}
use Rattle.sums.specs.Tree.Sums.{Sum, size}
use Rattle.arithmetic.specs.Singles.{GoodSum}
use Rattle.sums.specs.Contract.Lies.{Lies}
use Rattle.sums.proofs.order.Walk.{at_moved}
use Rattle.stack.specs.Contract.Arena.{Arena, Slot, slot, Space}
use Rattle.stack.specs.Stack.{total}
use Rattle.stack.proofs.Sizes.{good-some}
use Rattle.stack.specs.Contract.Stacked.{Top, Stacked, no_sum, on_top, Sized, no_size, one_more, sizes_of, deep}
use Rattle.stack.specs.Contract.Blocks.{SameSpace, Outside, Raised, Sunk}
use Rattle.std.specs.Prelude.{Some, None}

-- ---- slots and space

-- slots are the same where the cells and the sizes are
pub slot_same : (a a' : Arena) (j i : ℕ) → cell a'.cells j ≡ cell a.cells i → get_or a'.sizes j 0 ≡ get_or a.sizes i 0 → slot a' j ≡ slot a i
slot_same a a' j i c z = ap₂ {C = Slot} (λ (x : Cell) (n : ℕ). record { cell = x; size = n }) c z

slot-cell : (a a' : Arena) (j i : ℕ) → slot a' j ≡ slot a i → at a'.cells j ≡ at a.cells i
slot-cell a a' j i e = ap (λ (s : Slot). decoded s.cell) e

slot-size : (a a' : Arena) (j i : ℕ) → slot a' j ≡ slot a i → get_or a'.sizes j 0 ≡ get_or a.sizes i 0
slot-size a a' j i e = ap (λ (s : Slot). s.size) e

pub space-less : {a : Arena} {m n : ℕ} → m ≤ n → Space a n → Space a m
space-less h s = record { cells = room-less h s.cells; sizes = let z = s.sizes in omega arith }

pub space-same : {a a' : Arena} {n : ℕ} → SameSpace a a' → Space a n → Space a' n
space-same l s = record { cells = room-same l.cells s.cells; sizes = let z = s.sizes in let e = l.sizes in omega arith }

pub same-space-refl : (a : Arena) → SameSpace a a
same-space-refl a = record { cells = same-room-refl a.cells; sizes = refl }

pub same-space-trans : {a b c : Arena} → SameSpace a b → SameSpace b c → SameSpace a c
same-space-trans s t = record { cells = same-room-trans s.cells t.cells; sizes = t.sizes ∙ s.sizes }

-- ---- what is left as it was

pub outside_refl : (a : Arena) (lo hi : ℕ) → Outside a a lo hi
outside_refl a lo hi = record { below = λ j h. refl; above = λ j h. refl; long = same-space-refl a }

pub outside_trans : {a b c : Arena} {lo hi : ℕ} → Outside a b lo hi → Outside b c lo hi → Outside a c lo hi
outside_trans s t = record { below = λ j h. t.below j h ∙ s.below j h; above = λ j h. t.above j h ∙ s.above j h; long = same-space-trans s.long t.long }

pub outside_wider : {a b : Arena} {lo hi lo' hi' : ℕ} → lo' ≤ lo → hi ≤ hi' → Outside a b lo hi → Outside a b lo' hi'
outside_wider p q s = record { below = λ j h. s.below j (omega arith); above = λ j h. s.above j (omega arith); long = s.long }

-- ---- one sum

-- a sum lies wherever its slots do
top-moved : (a a' : Arena) (lo hi lo' hi' : ℕ) (s : Sum) → ((i j : ℕ) → lo ≤ i → i < hi → j + lo ≡ i + lo' → slot a' j ≡ slot a i) → Room a'.cells hi' → hi' + lo ≡ hi + lo'
    → Top a lo hi s → Top a' lo' hi' s
top-moved a a' lo hi lo' hi' s same room e t =
    let ends = t.lies.ends in
    let some = good-some t.good in
    record {
      lies = record {
        laid = at_moved (at a.cells) (at a'.cells) lo lo' s (λ i j p q h. slot-cell a a' j i (same i j p (omega arith) h)) t.lies.laid;
        good = t.lies.good;
        ends = omega arith;
        room = room;
      };
      good = t.good;
      told = slot-size a a' (hi' - 1) (hi - 1) (same (hi - 1) (hi' - 1) (omega arith) (omega arith) (omega arith)) ∙ t.told;
    }

-- ---- sums stacked

pub stacked-none : (a : Arena) (lo hi : ℕ) → lo ≡ hi → Stacked a lo hi []
stacked-none a lo hi e = subst (λ (u : ℕ). Stacked a lo u []) e no_sum

pub stacked-total : {a : Arena} {lo hi : ℕ} {ss : List Sum} → Stacked a lo hi ss → lo + total ss ≡ hi
unfolding total
stacked-total no_sum = omega arith
stacked-total (on_top t st) =
    let ends = t.lies.ends in
    let below = stacked-total st in
    omega arith

pub stacked-le : {a : Arena} {lo hi : ℕ} {ss : List Sum} → Stacked a lo hi ss → lo ≤ hi
stacked-le st = let e = stacked-total st in omega arith

-- sums are stacked wherever their slots are
pub stacked-shift : {a a' : Arena} (lo hi lo' hi' : ℕ) → ((i j : ℕ) → lo ≤ i → i < hi → j + lo ≡ i + lo' → slot a' j ≡ slot a i) → Room a'.cells hi' → hi' + lo ≡ hi + lo'
    → (ss : List Sum) → Stacked a lo hi ss → Stacked a' lo' hi' ss
stacked-shift {a} {a'} lo hi lo' hi' same room e [] no_sum = stacked-none a' lo' hi' (omega arith)
stacked-shift {a} {a'} lo hi lo' hi' same room e (s ∷ ss) (on_top {m} t st) =
    let low = stacked-le st in
    let ends = t.lies.ends in
    on_top {m = m + lo' - lo} (top-moved a a' m hi (m + lo' - lo) hi' s (λ i j p q h. same i j (omega arith) q (omega arith)) room (omega arith) t)
    (stacked-shift lo m lo' (m + lo' - lo) (λ i j p q h. same i j p (omega arith) h) (room-less (omega arith) room) (omega arith) ss st)

pub stacked-moved : {a a' : Arena} (p q n : ℕ) → ((j : ℕ) → j < n → slot a' (q + j) ≡ slot a (p + j)) → Space a' (q + n) → (ss : List Sum) → Stacked a p (p + n) ss → Stacked a' q (q + n) ss
stacked-moved {a} {a'} p q n same room ss st =
    stacked-shift p (p + n) q (q + n) (λ i j lo hi e. ap (slot a') (omega arith) ∙ same (i - p) (omega arith) ∙ ap (slot a) (omega arith)) room.cells (omega arith) ss st

-- sums still lie where nothing was written
pub stacked-kept : {a a' : Arena} {lo hi : ℕ} {ss : List Sum} → ((j : ℕ) → lo ≤ j → j < hi → slot a' j ≡ slot a j) → SameSpace a a' → Stacked a lo hi ss → Stacked a' lo hi ss
stacked-kept same long no_sum = no_sum
stacked-kept {a} {a'} {lo} {hi} same long (on_top {m} {s = s} t st) =
    let low = stacked-le st in
    let ends = t.lies.ends in
    on_top (top-moved a a' m hi m hi s (λ i j p q e. ap (slot a') (omega arith) ∙ same i (omega arith) q) (room-same long.cells t.lies.room) refl t)
    (stacked-kept (λ j p q. same j p (omega arith)) long st)

-- below what was written, and above it
pub stacked-below : {a a' : Arena} {lo hi l h : ℕ} {ss : List Sum} → Outside a a' l h → hi ≤ l → Stacked a lo hi ss → Stacked a' lo hi ss
stacked-below o q st = stacked-kept (λ j lo hi. o.below j (omega arith)) o.long st

pub stacked-above : {a a' : Arena} {lo hi l h : ℕ} {ss : List Sum} → Outside a a' l h → h ≤ lo → Stacked a lo hi ss → Stacked a' lo hi ss
stacked-above o q st = stacked-kept (λ j lo hi. o.above j (omega arith)) o.long st

pub stacked-join : {a : Arena} {lo m hi : ℕ} {xs ys : List Sum} → Stacked a m hi xs → Stacked a lo m ys → Stacked a lo hi (xs ++ ys)
stacked-join no_sum below = below
stacked-join (on_top t st) below = on_top t (stacked-join st below)

-- the sizes of sums that are stacked
pub stacked-sized : {a : Arena} {lo hi : ℕ} {ss : List Sum} → Stacked a lo hi ss → Sized a.sizes lo hi (sizes_of ss)
unfolding sizes_of
stacked-sized no_sum = no_size
stacked-sized (on_top t st) = one_more t.lies.ends (good-some t.good) t.told (stacked-sized st)

pub stacked-size : {a : Arena} {lo hi : ℕ} {s : Sum} {ss : List Sum} → Stacked a lo hi (s ∷ ss) → Sized a.sizes lo hi (size s ∷ sizes_of ss)
unfolding sizes_of
stacked-size st = stacked-sized st

-- ---- the uppermost sums

-- the sum on top, of n cells, and those below it
pub record One (a : Arena) (lo hi n : ℕ) (s : Sum) (ss : List Sum) : Type 0 where
  pub is : n ≡ size s
  pub some : 1 ≤ n
  pub few : n ≤ 64
  pub low : lo ≤ hi - n
  pub ends : hi - n + n ≡ hi
  pub lies : Lies a.cells (hi - n) (hi - n + n) 4 s
  pub good : GoodSum s
  pub top : Top a (hi - n) hi s
  pub rest : Stacked a lo (hi - n) ss

one_of : (a : Arena) (lo m hi n : ℕ) (s : Sum) (ss : List Sum) → n ≡ size s → Top a m hi s → Stacked a lo m ss → m ≡ hi - n → hi - n + n ≡ hi → One a lo hi n s ss
one_of a lo m hi n s ss is t st e h =
    let low = stacked-le st in
    let few = t.good.room in
    record {
      is = is;
      some = let p = good-some t.good in omega arith;
      few = omega arith;
      low = omega arith;
      ends = h;
      lies = subst (λ (u : ℕ). Lies a.cells (hi - n) u 4 s) (sym h) (subst (λ (u : ℕ). Lies a.cells u hi 4 s) e t.lies);
      good = t.good;
      top = subst (λ (u : ℕ). Top a u hi s) e t;
      rest = subst (λ (u : ℕ). Stacked a lo u ss) e st;
    }

pub stacked-one : {a : Arena} {lo hi n : ℕ} {s : Sum} {ss : List Sum} → n ≡ size s → Stacked a lo hi (s ∷ ss) → One a lo hi n s ss
stacked-one {a} {lo} {hi} {n} {s} {ss} is (on_top {m} t st) =
    let ends = t.lies.ends in
    one_of a lo m hi n s ss is t st (omega arith) (omega arith)

-- above lo there is a sum; at lo there is none
pub stacked-some : {a : Arena} {lo hi : ℕ} {ss : List Sum} → Stacked a lo hi ss → lo < hi → (s : Sum) × (ts : List Sum) × (ss ≡ s ∷ ts) × Stacked a lo hi (s ∷ ts)
stacked-some no_sum h = absurd (omega arith)
stacked-some (on_top {s = s} {ss = ss} t st) h = (s, ss, refl, on_top t st)

pub stacked-end : {a : Arena} {lo hi : ℕ} {ss : List Sum} → Stacked a lo hi ss → hi ≤ lo → ss ≡ []
stacked-end no_sum h = refl
stacked-end (on_top t st) h =
    let ends = t.lies.ends in
    let some = good-some t.good in
    let low = stacked-le st in
    absurd (omega arith)

-- the two on top
pub stacked-two : {a : Arena} {lo hi n m : ℕ} {s t : Sum} {ss : List Sum} → n ≡ size s → m ≡ size t → Stacked a lo hi (s ∷ t ∷ ss) → One a lo hi n s (t ∷ ss) × One a lo (hi - n) m t ss
stacked-two p q st = let one = stacked-one p st in (one, stacked-one q one.rest)

-- the top k sums, and those below them
pub stacked-split : {a : Arena} {lo hi : ℕ} (k : ℕ) (ss : List Sum) → k ≤ length ss → Stacked a lo hi ss
    → (w : ℕ) × (deep k (sizes_of ss) hi ≡ Some w) × Stacked a w hi (take k ss) × Stacked a lo w (drop k ss)
unfolding deep sizes_of
stacked-split {hi = hi} zero ss h st = (hi, refl, no_sum, st)
stacked-split (suc k) [] h st = absurd (omega arith)
stacked-split {a} {lo} {hi} (suc k) (s ∷ ss) h st =
    let one = stacked-one {n = size s} refl st in
    let ih = stacked-split {hi = hi - size s} k ss (omega arith) one.rest in
    (ih.0, ih.1, on_top one.top ih.2, ih.3)

pub deep-short : (k : ℕ) (ss : List Sum) (hi : ℕ) → length ss < k → deep k (sizes_of ss) hi ≡ None
unfolding deep sizes_of
deep-short zero ss hi h = absurd (omega arith)
deep-short (suc k) [] hi h = refl
deep-short (suc k) (s ∷ ss) hi h = deep-short k ss (hi - size s) (omega arith)

-- what an answer of `deep` tells
pub deep-from : {a : Arena} {lo hi : ℕ} (k : ℕ) (ss : List Sum) (w : ℕ) → deep k (sizes_of ss) hi ≡ Some w → Stacked a lo hi ss
    → (k ≤ length ss) × Stacked a w hi (take k ss) × Stacked a lo w (drop k ss)
deep-from {a} {lo} {hi} k ss w e st =
    elim (dec_le k (length ss)) [
      | yes h ↦
          let split = stacked-split k ss h st in
          let is : split.0 ≡ w = cc in
          (h, subst (λ (u : ℕ). Stacked a u hi (take k ss)) is split.2, subst (λ (u : ℕ). Stacked a lo u (drop k ss)) is split.3)
      | no h ↦ let short = deep-short k ss hi (omega arith) in absurd (let z : ◌≡◌ {A = ℕ} 0 1 = cc in omega arith)
    ]

pub deep-few : {a : Arena} {lo hi : ℕ} (k : ℕ) (ss : List Sum) → deep k (sizes_of ss) hi ≡ None → Stacked a lo hi ss → length ss < k
deep-few k ss e st =
    elim (dec_le k (length ss)) [
      | yes h ↦ let split = stacked-split k ss h st in absurd (let z : ◌≡◌ {A = ℕ} 0 1 = cc in omega arith)
      | no h ↦ omega arith
    ]

-- ---- after a sum is pushed, a block raised, a block sunk

pub stacked-push : {a a' : Arena} {lo u hi : ℕ} {s : Sum} {ss : List Sum} → Outside a a' u hi → Top a' u hi s → Stacked a lo u ss → Stacked a' lo hi (s ∷ ss)
stacked-push o t st = on_top t (stacked-below o (omega arith) st)

pub stacked-raised : {a a' : Arena} {lo w u d : ℕ} {xs ys : List Sum} → Raised a a' w u d → Stacked a w u xs → Stacked a lo w ys → Space a (u + d) → Stacked a' (w + d) (u + d) xs × Stacked a' lo w ys
stacked-raised {a} {a'} {lo} {w} {u} {d} {xs} r up low room = (
  stacked-shift w u (w + d) (u + d) (λ i j p q e. ap (slot a') (omega arith) ∙ r.moved i p q) (space-same r.outside.long room).cells (omega arith) xs up,
  stacked-below r.outside (omega arith) low,
)

pub stacked-sunk : {a a' : Arena} {lo from to n : ℕ} {xs ys : List Sum} → Sunk a a' from to n → Stacked a from (from + n) xs → Stacked a lo to ys → Space a (from + n) → to ≤ from
    → Stacked a' to (to + n) xs × Stacked a' lo to ys
stacked-sunk {a} {a'} {lo} {from} {to} {n} {xs} s up low room h = (
  stacked-moved from to n s.copied (space-less (omega arith) (space-same s.outside.long room)) xs up,
  stacked-below s.outside (omega arith) low,
)
