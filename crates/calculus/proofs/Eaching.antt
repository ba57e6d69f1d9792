-- A step for each entry of a sum, into a sum of the same book that starts empty: what is left decides. Assumes nothing.
use Prim.Native.Nat.{ℕ, ◌+◌, ◌≤◌, ◌<◌}
use native.Mathlib.Omega.{arith}
use mathlib.Core.Path.{◌≡◌}
use mathlib.Core.Logic.{inl, inr}
use Rattle.limits.specs.declared.Refusal.{Refusal}
use Rattle.cells.specs.declared.Entry.{Entry}
use Rattle.cells.specs.Contract.Book.{Book, Room, at, Plain}
use Rattle.cells.specs.Contract.Moves.{Kept}
use Rattle.cells.proofs.Laws.{room-less, room-same, kept_refl, kept_trans}
use Rattle.sums.specs.Tree.Sums.{Sum, none}
use Rattle.sums.specs.Tree.Map.{Outcome, each_into}
use Rattle.std.specs.Prelude.{Result, Ok, Err}
use Rattle.sums.specs.Contract.Lies.{Lies, OfOne, Agrees}
use Rattle.sums.proofs.order.Walk.{Next, next-at, lies_empty}
use Rattle.sums.proofs.order.Compare.{inner-more}
use Rattle.arithmetic.specs.Add.Contract.Operands.{Source}
use Rattle.arithmetic.proofs.add.Lying.{Clear, clear, clear-part, apart-part, lies-deeper, good-head}
use Rattle.arithmetic.proofs.add.Folding.{Folding, outset, here, ended}
use Rattle.powers.proofs.divide.Turns.{any, turned, halted}
use Rattle.calculus.specs.Contract.Into.{Ready, Into}

-- clear of some places, and so of the first of them
clear_first : {i e lo hi hi' : ℕ} → hi' ≤ hi → Clear i e lo hi → Clear i e lo hi'
clear_first h (inl u) = inl u
clear_first h (inr v) = inr (omega arith)

-- what both loops ask for: the sum of m cells from j on, and the places from w on
pub record Given (b : Book) (j m w : ℕ) : Type 0 where
  pub source : Source b j m w
  pub room : Room b (w + (64 + 64))

-- the entries before q went in, and there are len cells; so many places from w on were written
module _ (f : Entry → Sum → Sum → Outcome) (places : ℕ) where
  pub record Eaching (b₀ b : Book) (j m w q len : ℕ) : Type 0 where
    pub low : j ≤ q
    pub few : len ≤ 64
    pub kept : Kept b₀ b w (w + places)
    pub folding : OfOne b₀ j (j + m) 4 (λ t. Folding f any b w len q (j + m) 4 none t)

  pub each_start : {b : Book} (j m w : ℕ) → Room b (w + (64 + 64)) → Eaching b b j m w j 0
  each_start {b} j m w r =
      record {
        low = omega arith;
        few = omega arith;
        kept = kept_refl b w (w + places);
        folding = λ t l. outset f any (lies_empty b w 4 (room-less {n = w + (64 + 64)} (omega arith) r)) l;
      }

  pub each-end : {b₀ b : Book} {j m w q len : ℕ} → Eaching b₀ b j m w q len → j + m ≤ q → OfOne b₀ j (j + m) 4 (λ t. Agrees (Ok len) b w (each_into f none t))
  each-end {b = b} {j} {m} {w} {q} {len} g h t l = ended f any b w len q (j + m) 4 none t (g.folding t l) g.few h

  -- the next entry can be read
  pub each-readable : {b₀ b : Book} {j m w q len : ℕ} → Given b₀ j m w → Eaching b₀ b j m w q len → q < j + m → Room b (q + 1) × Plain (at b q)
  each-readable y g h =
      let held = y.source.held in
      let left = g.folding held.0 held.1 in
      let n = next-at _ _ _ _ left.v' left.lies-v h in
      (n.readable, n.first.plain)

  -- it was read
  pub record Turn (b₀ b : Book) (j m w q len : ℕ) (e : Entry) : Type 0 where
    pub given : Given b₀ j m w
    pub fits : places ≤ 64 + 64
    pub each : Eaching b₀ b j m w q len
    pub read : e ≡ at b q
    pub more : q < j + m

  module _ {b₀ b : Book} {j m w q len : ℕ} {e : Entry} (g : Turn b₀ b j m w q len e) where
    left : Folding f any b w len q (j + m) 4 none g.given.source.held.0
    left = g.each.folding g.given.source.held.0 g.given.source.held.1

    first : Next b q (j + m) 4 left.v' e
    first = here e left g.read g.more

    pub turn-within : q + 1 + e.inside ≤ j + m
    turn-within = first.within

    -- what a step asks for
    pub turn-asks : Ready b e (q + 1) w len
    turn-asks =
        let s = g.given.source in
        let few = s.few in
        let low = g.each.low in
        let within = first.within in
        record {
          head = good-head e.coef first.first.entry-good first.inside;
          argument = record { few = omega arith; held = (first.inner, inner-more first); apart = apart-part (omega arith) (omega arith) s.apart };
          few = g.each.few;
          room = room-same g.each.kept.long g.given.room;
          held = (left.s', left.lies-s);
        }

    -- what it answered
    module _ {b' : Book} {r : Result ℕ Refusal} (y : Into b b' e (q + 1) w len places r f) where
      turn-kept : Kept b₀ b' w (w + places)
      turn-kept = kept_trans g.each.kept y.kept

      pub turn-stop : {z : Refusal} → r ≡ Err z → Kept b₀ b' w (w + places) × OfOne b₀ j (j + m) 4 (λ t. Agrees (Err z) b' w (each_into f none t))
      turn-stop h = (turn-kept, λ t l. halted f b b' w len q (j + m) 4 none t e r (g.each.folding t l) g.read g.more (λ i u li lu. y.agrees u i lu (lies-deeper li)) h)

      pub turn-next : {k : ℕ} → r ≡ Ok k → Eaching b₀ b' j m w (q + 1 + e.inside) k
      turn-next {k} h =
          let fits = g.fits in
          let whole : Clear j (j + m) w (w + places) = clear_first {hi = w + (64 + 64)} (omega arith) (clear g.given.source.apart) in
          let apart : Clear q (j + m) w (w + places) = clear-part {e = j + m} g.each.low (omega arith) whole in
          let on : (t : Sum) → Lies b₀ j (j + m) 4 t → (k ≤ 64) × Folding f any b' w k (q + 1 + e.inside) (j + m) 4 none t
          = λ t l. turned f b b' w len q (j + m) 4 w (w + places) none t e r k (g.each.folding t l) g.read g.more (λ i u li lu. y.agrees u i lu (lies-deeper li)) y.kept apart h in
          let low = g.each.low in
          record { low = omega arith; few = (on g.given.source.held.0 g.given.source.held.1).0; kept = turn-kept; folding = λ t l. (on t l).1 }
