-- A sum of one cell of kind X is one power of x.
use Rattle.std.proofs.Common.{sym, subst, arith}
use Rattle.cells.specs.Contract.Book.{seen}
use Rattle.sums.specs.Tree.Sums.{Sum}
use Rattle.sums.specs.Contract.Lies.{Agrees}
use Rattle.sums.proofs.order.Walk.{next-at}
use Rattle.arithmetic.specs.Pairs.{raised_pairs}
use Rattle.arithmetic.specs.Power.{raised}
use Rattle.arithmetic.proofs.multiply.Singles.{power-alone}
use Rattle.powers.specs.Raise.Contract.Pairs.{Counted}
use Rattle.powers.proofs.raise.Pairs.{counted-agrees, counted-power}
use Rattle.powers.proofs.raise.raise_one.Goals as goal

pub load-x-requires : goal.load-x-requires
load-x-requires c =
    let held = c.requires.2.held in
    let n = next-at _ _ _ 4 held.0 held.1 (omega arith) in
    (n.readable, n.first.plain)

pub returns-then-x-eq-X-clause-of_one : goal.returns-then-x-eq-X-clause-of_one
returns-then-x-eq-X-clause-of_one c s ls =
    let after = seen c.raise_power.new.book in
    let alone = power-alone c.load-x.result c.load-x.ensures ls c.if-x-eq-X.true in
    subst (λ (t : Sum). Agrees c.counted.result.formed after c.args.w (raised c.args.times t t)) (sym alone.1)
    (counted-agrees after c.args.w _ _ c.counted.ensures (c.raise_power.ensures.agrees alone.0))

pub returns-then-x-eq-X-clause-of_one_2 : goal.returns-then-x-eq-X-clause-of_one_2
returns-then-x-eq-X-clause-of_one_2 c s ls =
    let after = seen c.raise_power.new.book in
    let alone = power-alone c.load-x.result c.load-x.ensures ls c.if-x-eq-X.true in
    subst (λ (t : Sum). Counted c.counted.result (raised_pairs c.args.times t t)) (sym alone.1)
    (counted-power after c.args.w c.args.times _ alone.0 _ c.counted.ensures (c.raise_power.ensures.agrees alone.0))
