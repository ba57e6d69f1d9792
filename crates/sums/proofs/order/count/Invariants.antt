-- The loop's invariant: of the sum there is a rest from k on, and c counts the entries before it.
use Rattle.std.proofs.Common.{◌-◌, ◌≡◌, ℕ, ◌+◌, ◌≤◌, get_or}
use Rattle.cells.specs.declared.Entry.{Entry}
use Rattle.sums.specs.Tree.Sums.{Sum, size, len}
use Rattle.sums.specs.Contract.Lies.{At}
use Rattle.sums.proofs.order.count.Given as goal

abbrev pub invariant-loop-k : goal.invariant-loop-k
invariant-loop-k l =
    (l.c ≤ l.k)
    × ((f : ℕ → Entry) (s : Sum) → ((j : ℕ) → (f j).inside ≡ get_or l.insides j 0) → At f l.i s → l.n ≡ size s
    → (t : Sum) × At f l.k t × (l.k + size t ≡ l.i + l.n) × (l.c + len t ≡ len s))

abbrev pub decreases-loop-k : goal.decreases-loop-k
decreases-loop-k l = l.end - l.k
