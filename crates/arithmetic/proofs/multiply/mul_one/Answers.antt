-- Of two powers of x the product is put into nothing.
use Rattle.std.proofs.Common.{sym, ap, subst, ◌∙◌, eqb, eqb-true, arith}
use Rattle.numbers.specs.Ops.{◌⊕◌}
use Rattle.numbers.specs.declared.complex.Complex.{Complex}
use Rattle.cells.specs.Contract.Book.{seen}
use Rattle.sums.specs.declared.tree.Merge.TheVariants.{Add}
use Rattle.sums.specs.Tree.Kinds.{X}
use Rattle.sums.specs.Tree.Sums.{none, size, entry}
use Rattle.sums.specs.Tree.Map.{Outcome, formed}
use Rattle.sums.specs.Contract.Lies.{Agrees}
use Rattle.sums.proofs.order.Walk.{next-at}
use Rattle.arithmetic.proofs.Steps.{and_both}
use Rattle.arithmetic.proofs.add.Lying.{nothing}
use Rattle.arithmetic.proofs.multiply.Singles.{product-of-two}
use Rattle.arithmetic.proofs.multiply.mul_one.Goals as goal

pub load-x-requires : goal.load-x-requires
load-x-requires c =
    let held = c.requires.0.held in
    let n = next-at _ _ _ 4 held.0 held.1 (omega arith) in
    (n.readable, n.first.plain)

pub load-y-requires : goal.load-y-requires
load-y-requires c =
    let held = c.requires.1.held in
    let n = next-at _ _ _ 4 held.0 held.1 (omega arith) in
    (n.readable, n.first.plain)

pub put_power-requires : goal.put_power-requires
put_power-requires c = (omega arith, c.requires.2, (none, nothing c.args.p c.requires.2))

pub returns-then-x-y-clause-of_two : goal.returns-then-x-y-clause-of_two
unfolding size
returns-then-x-y-clause-of_two c s t ls lt =
    let x = c.load-x.result in
    let y = c.load-y.result in
    let powers = and_both (eqb x.kind X) (eqb y.kind X) c.if-x-y.true in
    let made = product-of-two x y c.load-x.ensures c.load-y.ensures ls lt (eqb-true _ _ powers.0) (eqb-true _ _ powers.1) in
    let same = ap (λ (v : Complex). formed Add (entry X 0 (x.num ⊕ y.num) v) none none) c.mul-coef.ensures in
    subst (λ (o : Outcome). Agrees c.put_power.result (seen c.put_power.new.book) c.args.p o) (same ∙ sym made)
    (c.put_power.ensures.of_one none (nothing c.args.p c.requires.2))
