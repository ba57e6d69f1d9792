-- A sum of one cell is one term, which decides.
use Rattle.std.proofs.Common.{sym, arith}
use Rattle.sums.proofs.order.Walk.{next-at}
use Rattle.arithmetic.proofs.add.Reading.{not-one, one}
use Rattle.arithmetic.proofs.add.is_x.Goals as goal

pub returns-then-n-ne1 : goal.returns-then-n-ne1
returns-then-n-ne1 c s ls = sym (not-one ls (λ e. omega arith)).1

pub load-x-requires : goal.load-x-requires
load-x-requires c =
    let n = next-at _ _ _ 4 c.requires.0 c.requires.1 (omega arith) in
    (n.readable, n.first.plain)

pub returns : goal.returns
returns c s ls = sym (one c.load-x.result c.load-x.ensures ls (omega arith)).1
