-- How many levels a sum has, as its inside counts tell. Assumes nothing.
use Prim.Native.Nat.{ℕ, suc, ◌+◌, ◌-◌, ◌≤◌, ◌<◌, max}
use native.Mathlib.Omega.{arith}
use mathlib.Core.Path.{◌≡◌, refl, sym, ap, ◌∙◌}
use mathlib.Core.Bool.{Bool, true, false}
use mathlib.Core.List.{List}
use lib.Dec.{leb, eqb}
use lib.ListN.{get_or}
use borrow.Author.Tests.{leb-true, leb-false, le-leb, lt-leb, eq-eqb, ne_eqb}
use Rattle.cells.specs.Contract.Book.{Book, at}
use Rattle.sums.specs.Tree.Sums.{Sum, none, and, size, levels}
use Rattle.sums.specs.Contract.Lies.{Lies}
use Rattle.sums.specs.Contract.Nests.{Nests}
use Rattle.sums.proofs.order.Walk.{opened, empty}

-- a sum that lies in a book nests as the book's inside counts tell
pub lies-nests : {b : Book} {i e left : ℕ} {s : Sum} → Lies b i e left s → Nests b.insides i e s
lies-nests {b} l = record { entries = at b; counts = λ k. refl; laid = l.laid; ends = l.ends; room = l.room.insides }

-- no levels are left: only the empty sum has as few
pub nests-zero : (insides : List ℕ) (i n : ℕ) (s : Sum) → Nests insides i (i + n) s → eqb n 0 ≡ leb (levels s) 0
unfolding size levels
nests-zero insides i n none h = let ends = h.ends in eq-eqb n 0 (omega arith) ∙ sym (le-leb 0 0 (omega arith))
nests-zero insides i n (and k p t c r) h = let ends = h.ends in ne_eqb n 0 (λ e. omega arith) ∙ sym (lt-leb (levels (and k p t c r)) 0 (omega arith))

-- the sum that is left from k on decides
pub record Rest (insides : List ℕ) (k e left : ℕ) (s : Sum) : Type 0 where
  pub s' : Sum
  pub nests : Nests insides k e s'
  pub same : leb (levels s) left ≡ leb (levels s') left

-- an entry is left: where its inside has too many levels the sum has, and otherwise the rest decides
pub record Entered (insides : List ℕ) (k e d left : ℕ) (s : Sum) : Type 0 where
  pub inner : Sum
  pub rest : Sum
  pub nests-inner : Nests insides (k + 1) (k + 1 + d) inner
  pub nests-rest : Nests insides (k + 1 + d) e rest
  pub within : k + 1 + d ≤ e
  pub deeper : leb (levels inner) (left - 1) ≡ false → leb (levels s) left ≡ false
  pub shallow : leb (levels inner) (left - 1) ≡ true → leb (levels s) left ≡ leb (levels rest) left

nests-deeper : (a b left : ℕ) → 1 ≤ left → leb a (left - 1) ≡ false → leb (max (suc a) b) left ≡ false
nests-deeper a b left h e = lt-leb (max (suc a) b) left (omega (arith, leb-false a (left - 1) e))

nests-shallow : (a b left : ℕ) → 1 ≤ left → leb a (left - 1) ≡ true → leb (max (suc a) b) left ≡ leb b left
nests-shallow a b left h e = go (leb b left) refl
  where
    go : (o : Bool) → leb b left ≡ o → leb (max (suc a) b) left ≡ o
    go true p = le-leb (max (suc a) b) left (omega (arith, leb-true a (left - 1) e, leb-true b left p))
    go false p = lt-leb (max (suc a) b) left (omega (arith, leb-false b left p))

pub entered : (insides : List ℕ) (k e left : ℕ) (s : Sum) → Rest insides k e left s → k < e → 1 ≤ left → Entered insides k e (get_or insides k 0) left s
unfolding levels
entered insides k e left s w h l =
    let n = w.nests in
    let ends = n.ends in
    let o = opened n.entries k w.s' n.laid (omega arith) in
    let d = n.counts k in
    let sized = o.sized in
    let inside = o.inside in
    let room = n.room in
    let is = w.same ∙ ap (λ (u : Sum). leb (levels u) left) o.is in
    record {
      inner = o.inner;
      rest = o.rest;
      nests-inner = record { entries = n.entries; counts = n.counts; laid = o.laid-inner; ends = omega arith; room = omega arith };
      nests-rest = record { entries = n.entries; counts = n.counts; laid = rw (← d) o.laid-rest; ends = omega arith; room = room };
      within = omega arith;
      deeper = λ q. is ∙ nests-deeper (levels o.inner) (levels o.rest) left l q;
      shallow = λ q. is ∙ nests-shallow (levels o.inner) (levels o.rest) left l q;
    }

-- nothing is left
pub nests-none : (insides : List ℕ) (k e left : ℕ) (s : Sum) → Rest insides k e left s → e ≤ k → leb (levels s) left ≡ true
unfolding levels
nests-none insides k e left s w h =
    let ends = w.nests.ends in
    w.same ∙ ap (λ (u : Sum). leb (levels u) left) (empty w.s' (omega arith)) ∙ le-leb 0 left (omega arith)
