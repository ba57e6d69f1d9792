-- The two sums on top change places: the lower one is copied to the working places, the upper one sinks to where it was, and the copy is put on top. Assumes nothing.
use Prim.Native.Nat.{ℕ, ◌+◌, ◌-◌, ◌≤◌}
use native.Mathlib.Omega.{arith}
use mathlib.Core.Path.{◌≡◌, subst}
use mathlib.Core.List.{List, [], ◌∷◌}
use Rattle.cells.specs.Contract.Book.{Book}
use Rattle.cells.specs.Contract.Moves.{Copied}
use Rattle.cells.proofs.Laws.{room-less, copied-kept}
use Rattle.sums.specs.Tree.Sums.{Sum, size}
use Rattle.sums.specs.Contract.Lies.{OfOne}
use Rattle.sums.proofs.order.Walk.{lies-copied, lies-below}
use Rattle.stack.specs.Contract.Arena.{Arena, of, Space}
use Rattle.stack.specs.Contract.Stacked.{Top, Stacked, no_sum, on_top, sizes_of}
use Rattle.stack.specs.Contract.Blocks.{Outside, Sunk}
use Rattle.stack.specs.Contract.Parts.{Tops}
use Rattle.stack.proofs.slots.Laws.{space-less, space-same, outside_trans, outside_wider, stacked-one, stacked-above, stacked-push, stacked-sunk, stacked-join}
use Rattle.stack.proofs.state.Laws.{pair}
use Rattle.stack.specs.Contract.Turning.{Turned}
use Rattle.stack.proofs.one_operand.Working.{outside_kept, kept-outside}

sizes-two : (a : Arena) (u n m : ℕ) (s t : Sum) (ss : List Sum) → Tops a u (n ∷ m ∷ []) → Stacked a 128 u (s ∷ t ∷ ss) → (n ≡ size s) × (m ≡ size t)
unfolding sizes_of
sizes-two a u n m s t ss f k = let e = (f (s ∷ t ∷ ss) k).1 in (cc, cc)

one-stacked : {a : Arena} {lo hi lo' hi' : ℕ} {s : Sum} → lo ≡ lo' → hi ≡ hi' → Top a lo hi s → Stacked a lo' hi' (s ∷ [])
one-stacked {a} {lo} {hi} {lo'} {hi'} {s} e f t = on_top (subst (λ (x : ℕ). Top a x hi' s) e (subst (λ (x : ℕ). Top a lo x s) f t)) no_sum

-- where the two lie
pub record Below (u n m : ℕ) : Type 0 where
  pub enough : 128 + n + m ≤ u
  pub first : 1 ≤ n
  pub first-few : n ≤ 64
  pub second : 1 ≤ m
  pub second-few : m ≤ 64

pub below : {a : Arena} {u n m : ℕ} {ss : List Sum} → Tops a u (n ∷ m ∷ []) → Stacked a 128 u ss → Below u n m
below {a} {u} {n} {m} f k =
    let x = pair f k in
    let e = x.first.ends in
    let d = x.second.ends in
    let low = x.second.low in
    record { enough = omega arith; first = x.first.some; first-few = x.first.few; second = x.second.some; second-few = x.second.few }

-- b with the copy, c with the upper one sunk, d with the copy brought up
pub turned : {a c d : Arena} {b : Book} (u n m : ℕ) → Space a u → Tops a u (n ∷ m ∷ []) → Below u n m
    → Copied a.cells a.cells b (u - n - m) m 0 → Sunk (of b a.sizes) c (u - n - m + m) (u - n - m) n
    → Outside c d (u - n - m + n) (u - n - m + n + m) → OfOne c.cells 0 (0 + m) 4 (λ s. Top d (u - n - m + n) (u - n - m + n + m) s) → Turned a d u
turned {a} {c} {d} {b} u n m space f low copied sunk outside top =
    let enough = low.enough in
    let few = low.second-few in
    let first = kept-outside a.sizes (copied-kept copied) in
    record {
      outside =
          outside_trans (outside_wider {hi = 0 + m} (omega arith) (omega arith) first)
          (outside_trans (outside_wider {hi = u - n - m + n} (omega arith) (omega arith) sunk.outside) (outside_wider {hi = u - n - m + n + m} (omega arith) (omega arith) outside));
      turned = λ s t ss k.
          let is = sizes-two a u n m s t ss f k in
          let one = stacked-one is.0 k in
          let two = stacked-one is.1 one.rest in
          let copy = lies-copied copied (room-less {n = u} (omega arith) space.cells) two.lies in
          let lies = lies-below 0 (0 + m) 4 t (outside_kept sunk.outside) (omega arith) copy in
          let upper = stacked-above first (omega arith) (one-stacked {lo' = u - n - m + m} {hi' = u - n - m + m + n} (omega arith) (omega arith) one.top) in
          let room = space-less {m = u - n - m + m + n} {n = u} (omega arith) (space-same first.long space) in
          let down = stacked-sunk sunk upper (stacked-above first (omega arith) two.rest) room (omega arith) in
          let all : Stacked d 128 (u - n - m + n + m) (t ∷ s ∷ ss) = stacked-push outside (top t lies) (stacked-join down.0 down.1) in
          subst (λ (z : ℕ). Stacked d 128 z (t ∷ s ∷ ss)) (omega arith) all;
    }
