-- Twice the places of a sum from w on: those of a result, and behind them those to work in. Assumes nothing.
use Prim.Native.Nat.{ℕ, ◌+◌, ◌≤◌}
use native.Mathlib.Omega.{arith}
use Rattle.cells.specs.Contract.Book.{Book, Room}
use Rattle.cells.specs.Contract.Moves.{Apart, under, over, Kept}
use Rattle.cells.proofs.Laws.{room-less, kept-wider}
use Rattle.arithmetic.specs.Add.Contract.Operands.{Operand, Source}

-- what is written in either half is written in the whole
pub kept_result : {b b' : Book} {w : ℕ} → Kept b b' w (w + 64) → Kept b b' w (w + (64 + 64))
kept_result k = kept-wider (omega arith) (omega arith) k

pub kept-working : {b b' : Book} {w : ℕ} → Kept b b' (w + 64) (w + 64 + 64) → Kept b b' w (w + (64 + 64))
kept-working k = kept-wider (omega arith) (omega arith) k

-- there is room for each half
pub room-result : {b : Book} (w : ℕ) → Room b (w + (64 + 64)) → Room b (w + 64)
room-result w r = room-less {n = w + (64 + 64)} (omega arith) r

pub room-working : {b : Book} (w : ℕ) → Room b (w + (64 + 64)) → Room b (w + 64 + 64)
room-working w r = room-less {n = w + (64 + 64)} (omega arith) r

-- what is apart from the whole is apart from each half
pub apart-result : {i n w : ℕ} → Apart i n w (w + (64 + 64)) → Apart i n w (w + 64)
apart-result (under u) = under u
apart-result (over v) = over (omega arith)

pub apart-working : {i n w : ℕ} → Apart i n w (w + (64 + 64)) → Apart i n (w + 64) (w + 64 + 64)
apart-working (under u) = under (omega arith)
apart-working (over v) = over (omega arith)

-- and from a term of n entries in the working places
pub apart-term : {i n w : ℕ} → n ≤ 63 → Apart i n w (w + (64 + 64)) → Apart i n (w + 64) (w + 64 + (1 + n))
apart-term h (under u) = under (omega arith)
apart-term h (over v) = over (omega arith)

pub result-operand : {b : Book} {i n w : ℕ} → Source b i n w → Operand b i n w
result-operand s = record { few = s.few; held = s.held; apart = apart-result s.apart }

pub working-operand : {b : Book} {i n w : ℕ} → Source b i n w → Operand b i n (w + 64)
working-operand s = record { few = s.few; held = s.held; apart = apart-working s.apart }
