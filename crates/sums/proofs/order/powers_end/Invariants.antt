-- The loop's invariant: from k on there is left a sum whose powers are the rest of all.
use Rattle.std.proofs.Common.{◌≡◌, ℕ, ◌+◌, get_or}
use Rattle.limits.specs.Limits.{sum_levels}
use Rattle.cells.specs.declared.Entry.{Entry}
use Rattle.sums.specs.Tree.Sums.{Sum, size}
use Rattle.sums.specs.Tree.Good.{Good}
use Rattle.sums.specs.Contract.Lies.{At}
use Rattle.sums.proofs.order.Powers.{Powers}
use Rattle.sums.proofs.order.powers_end.Given as goal

abbrev pub invariant-loop-k : goal.invariant-loop-k
invariant-loop-k l =
    (f : ℕ → Entry) (s : Sum) → ((j : ℕ) → (f j).kind ≡ get_or l.kinds j 0) → At f l.p s → Good sum_levels s → l.n ≡ size s → Powers f l.p l.k (l.p + l.n) s
