-- An argument has one level less left; in the loop, what is left of the sum decides.
use Rattle.std.proofs.Common.{◌+◌, ◌-◌, ◌*◌}
use Rattle.cells.specs.Contract.Book.{shown}
use Rattle.sums.specs.Tree.Sums.{Sum}
use Rattle.sums.specs.Contract.Lies.{Lies}
use Rattle.writing.proofs.Turning.{Left, faithful-loop}
use Rattle.writing.proofs.faithful.+write_apart_write_argument_write_sum_write_term_write_turn.Given as goal

abbrev pub decreases-write_sum : goal.decreases-write_sum
decreases-write_sum l = 5 * l.left

abbrev pub decreases-write_apart : goal.decreases-write_apart
decreases-write_apart l = 5 * l.left + 1

abbrev pub decreases-write_argument : goal.decreases-write_argument
decreases-write_argument l = 5 * l.left + 2

abbrev pub decreases-write_term : goal.decreases-write_term
decreases-write_term l = 5 * l.left + 3

abbrev pub decreases-write_turn : goal.decreases-write_turn
decreases-write_turn l = 5 * l.left + 4

abbrev pub invariant-write_sum-loop-q : goal.invariant-write_sum-loop-q
invariant-write_sum-loop-q l =
    (s : Sum) → Lies (shown l.book) l.j (l.j + l.m) l.left s → Left l.fn.b l.b l.fn.d l.draft (shown l.book) l.j l.q (l.j + l.m) l.left (faithful-loop l.complex) l.identity s

abbrev pub decreases-write_sum-loop-q : goal.decreases-write_sum-loop-q
decreases-write_sum-loop-q l = l.j + l.m - l.q
