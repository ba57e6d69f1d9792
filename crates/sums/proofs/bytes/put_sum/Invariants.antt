-- The loop's invariant: the bytes of the cells passed are written, and their words are below 2^64.
use Rattle.std.proofs.Common.{◌≡◌, ℕ, ◌+◌, ◌<◌}
use Rattle.std.proofs.lemmas.List.Edits.{sets}
use Rattle.cells.specs.Contract.Book.{shown}
use Rattle.sums.proofs.entry.Codes.{Bits}
use Rattle.sums.proofs.bytes.Laws.{fives, cell_bytes}
use Rattle.sums.proofs.bytes.put_sum.Given as goal

abbrev pub invariant-loop-j : goal.invariant-loop-j
invariant-loop-j l =
    let f = fives (shown l.book) in
    record { bytes : l.out ≡ sets l.fn.out 0 (cell_bytes f l.i l.j); bits : (k : ℕ) → k < l.j → Bits (f (l.i + k)) }
