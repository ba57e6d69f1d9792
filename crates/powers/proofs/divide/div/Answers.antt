-- By one term each term is divided; by several a constant decides.
use Rattle.std.proofs.Common.{◌+◌, sym, subst, arith}
use Rattle.cells.specs.Contract.Book.{seen}
use Rattle.limits.specs.declared.Refusal.TheVariants.{TooComplex}
use Rattle.sums.specs.Tree.Sums.{Sum}
use Rattle.sums.specs.Contract.Lies.{Lies, Agrees}
use Rattle.sums.proofs.order.Walk.{next-at}
use Rattle.arithmetic.proofs.add.Lying.{agree-refused}
use Rattle.powers.proofs.divide.Divisors.{several, One, one-term, one-not, one_each, one-by-itself}
use Rattle.powers.proofs.divide.div.Goals as goal
use Rattle.powers.proofs.divide.div.Goals.{Else-y-m}

-- the divisor is one term
one : (c : Else-y-m) (t : Sum) → Lies (seen c.args.book.now) c.args.j (c.args.j + c.args.m) 4 t → One (seen c.args.book.now) c.args.j c.load-y.result t
one c t lt = one-term c.load-y.result c.load-y.ensures lt c.requires.some c.requires.right.few c.if-y-m.false

pub load-y-requires : goal.load-y-requires
load-y-requires c =
    let held = c.requires.right.held in
    let n = next-at _ _ _ _ held.0 held.1 (omega (arith, c.requires.some)) in
    (n.readable, n.first.plain)

pub returns-then-y-m-clause-of_two : goal.returns-then-y-m-clause-of_two
returns-then-y-m-clause-of_two c s t ls lt =
    subst (Agrees c.by_several.result (seen c.by_several.new.book) c.args.w) (sym (several c.load-y.result c.load-y.ensures lt c.requires.some s c.if-y-m.true))
    (c.by_several.ensures.of_two s t ls lt)

pub can_div-requires : goal.can_div-requires
can_div-requires c =
    let held = c.requires.right.held in
    let o = one (goal.at.can_div-requires c).Else-y-m held.0 held.1 in
    rw c.cells.ensures (c.requires.left.held, (o.v, o.divisor))

pub returns-then-not-can_div-clause-of_two : goal.returns-then-not-can_div-clause-of_two
returns-then-not-can_div-clause-of_two c s t ls lt =
    let o = one (goal.at.returns-then-not-can_div-clause-of_two c).Else-y-m t lt in
    agree-refused (seen c.args.book.now) c.args.w TooComplex _ (one-not o s c.can_div.result ((rw c.cells.ensures at c.can_div.ensures) s o.v ls o.divisor) c.if-not-can_div.true)

pub div_each-requires : goal.div_each-requires
div_each-requires c =
    let d = (goal.at.div_each-requires c).Else-y-m in
    let right = c.requires.right in
    (c.requires.left, one-by-itself c.if-y-m.false right (one d right.held.0 right.held.1), c.requires.room)

pub returns-clause-of_two : goal.returns-clause-of_two
returns-clause-of_two c s t ls lt =
    let o = one (goal.at.returns-clause-of_two c).Else-y-m t lt in
    let is = one_each o s c.can_div.result ((rw c.cells.ensures at c.can_div.ensures) s o.v ls o.divisor) c.if-not-can_div.false in
    subst (Agrees c.div_each.result (seen c.div_each.new.book) c.args.w) (sym is) (c.div_each.ensures.of_divisor s o.v ls o.divisor)
