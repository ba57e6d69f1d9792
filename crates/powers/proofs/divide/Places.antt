-- What a quotient is formed of stays where only its places are written. Assumes nothing.
use Prim.Native.Nat.{ℕ, ◌+◌}
use native.Mathlib.Omega.{arith}
use Rattle.cells.specs.declared.Entry.{Entry}
use Rattle.cells.specs.Contract.Book.{Book}
use Rattle.cells.specs.Contract.Moves.{Apart, Kept}
use Rattle.sums.specs.Tree.Sums.{Sum}
use Rattle.arithmetic.specs.Add.Contract.Operands.{Source, Growing}
use Rattle.arithmetic.proofs.add.Lying.{clear, lies-clear, lies-deeper}
use Rattle.arithmetic.proofs.add.Places.{room-result}
use Rattle.powers.specs.Divide.Contract.Dividing.{Working, Divisor, By}

pub growing : {b : Book} {w n : ℕ} → Working b w n → Growing b w n
growing {w = w} g = record { few = g.few; room = room-result w g.room; held = g.held }

-- a divisor stays where only those places are written, and its inside is a sum
pub divisor-kept : {b b' : Book} {y : Entry} {j w : ℕ} {v : Sum} → Kept b b' w (w + (64 + 64)) → Apart j y.inside w (w + (64 + 64)) → Divisor b y j v → Divisor b' y j v
divisor-kept k a d = record { good = d.good; lies = lies-clear k (clear a) d.lies; few = d.few }

pub by-kept : {b b' : Book} {y : Entry} {j w : ℕ} → Kept b b' w (w + (64 + 64)) → By b y j w → By b' y j w
by-kept k d = record { held = (d.held.0, divisor-kept k d.apart d.held.1); apart = d.apart }

pub inside-source : {b : Book} {y : Entry} {j w : ℕ} → By b y j w → Source b j y.inside w
inside-source d = let few = d.held.1.few in record { few = omega arith; held = (d.held.0, lies-deeper d.held.1.lies); apart = d.apart }
