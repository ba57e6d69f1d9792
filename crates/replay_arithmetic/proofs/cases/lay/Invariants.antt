use Rattle.std.proofs.Common.{◌≡◌}
use Rattle.cells.specs.Contract.Book.{seen, slices}
use Rattle.cells.specs.Contract.Moves.{SameRoom}
use Rattle.replay_arithmetic.proofs.cases.lay.Given as goal

abbrev pub invariant-loop-i : goal.invariant-loop-i
invariant-loop-i l = SameRoom (seen l.fn.book) (seen l.book) × (slices l.book ≡ slices l.fn.book)
