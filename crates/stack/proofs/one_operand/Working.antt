-- What is written in the working places changes nothing of the stack. Assumes nothing.
use Prim.Native.Nat.{ℕ}
use native.Mathlib.Omega.{arith}
use mathlib.Core.Path.{refl, ap}
use mathlib.Core.List.{List}
use Rattle.cells.specs.Contract.Book.{Book}
use Rattle.cells.specs.Contract.Moves.{Kept}
use Rattle.stack.specs.State.{State}
use Rattle.stack.specs.Contract.Arena.{Arena, Slot, of}
use Rattle.stack.specs.Contract.Blocks.{Outside}
use Rattle.stack.specs.Contract.Agree.{Stands, Ready}
use Rattle.stack.specs.declared.state.AlgebraEnv.{AlgebraEnv}
use Rattle.stack.proofs.slots.Laws.{slot_same, space-same, outside_wider, stacked-le, stacked-above}

-- cells are kept where slots are, and the other way round where no size is written
pub outside_kept : {a a' : Arena} {lo hi : ℕ} → Outside a a' lo hi → Kept a.cells a'.cells lo hi
outside_kept o = record { below = λ j h. ap (λ (s : Slot). s.cell) (o.below j h); above = λ j h. ap (λ (s : Slot). s.cell) (o.above j h); long = o.long.cells }

pub kept-outside : {b b' : Book} {lo hi : ℕ} (z : List ℕ) → Kept b b' lo hi → Outside (of b z) (of b' z) lo hi
kept-outside {b} {b'} z k =
    record {
      below = λ j h. slot_same (of b z) (of b' z) j j (k.below j h) refl;
      above = λ j h. slot_same (of b z) (of b' z) j j (k.above j h) refl;
      long = record { cells = k.long; sizes = refl };
    }

-- the same state stands
pub stands-working : {a a' : Arena} {v : ℕ} {env : AlgebraEnv} {st : State} → Outside a a' 0 128 → Stands a v env st → Stands a' v env st
stands-working o s = record { stack = stacked-above o (omega arith) s.stack; below = s.below; handled = s.handled; complex = s.complex; pairs = s.pairs }

pub ready-working : {a a' : Arena} {v : ℕ} {env : AlgebraEnv} → Outside a a' 0 128 → Ready a v env → Ready a' v env
ready-working o y = record { space = space-same o.long y.space; within = y.within; some = (y.some.0, stands-working o y.some.1) }

-- what is held lies behind the working places
pub outside-held : {a a' : Arena} {v : ℕ} {env : AlgebraEnv} → Ready a v env → Outside a a' 0 128 → Outside a a' 0 v
outside-held y o =
    let low = stacked-le y.some.1.stack in
    let below = y.some.1.below in
    outside_wider (omega arith) (omega arith) o
