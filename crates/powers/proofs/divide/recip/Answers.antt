-- 1 by several terms is Div of them, and by one term the quotient of two terms.
use Rattle.std.proofs.Common.{ℕ, ◌+◌, sym, subst, arith}
use Rattle.numbers.specs.Complex.Arith as complex
use Rattle.numbers.specs.Signs.{zero64}
use Rattle.cells.specs.Contract.Book.{seen}
use Rattle.cells.proofs.Laws.{room-less}
use Rattle.sums.specs.declared.tree.Merge.TheVariants.{Store}
use Rattle.sums.specs.Tree.Kinds.{Div}
use Rattle.sums.specs.Tree.Sums.{Sum, none, entry}
use Rattle.sums.specs.Tree.Map.{formed}
use Rattle.sums.specs.Contract.Lies.{Lies, Agrees}
use Rattle.sums.proofs.order.Walk.{next-at, lies_empty}
use Rattle.powers.proofs.divide.Divisors.{One, one-term, one-by-itself, reciprocal-several, reciprocal_one}
use Rattle.powers.proofs.divide.recip.Goals as goal
use Rattle.powers.proofs.divide.recip.Goals.{Else-y-n}

-- the divisor is one term
one : (c : Else-y-n) (s : Sum) → Lies (seen c.args.book.now) c.args.i (c.args.i + c.args.n) 4 s → One (seen c.args.book.now) c.args.i c.load-y.result s
one c s ls = one-term c.load-y.result c.load-y.ensures ls c.requires.0 c.requires.1.few c.if-y-n.false

nothing : (c : Else-y-n) → Lies (seen c.args.book.now) c.args.w (c.args.w + 0) 4 none
nothing c = lies_empty (seen c.args.book.now) c.args.w 4 (room-less {n = c.args.w + (64 + 64)} (omega arith) c.requires.2)

pub load-y-requires : goal.load-y-requires
load-y-requires c =
    let held = c.requires.1.held in
    let n = next-at _ _ _ _ held.0 held.1 (omega (arith, c.requires.0)) in
    (n.readable, n.first.plain)

pub returns-then-y-n-clause-of_one : goal.returns-then-y-n-clause-of_one
returns-then-y-n-clause-of_one c s ls =
    subst (Agrees c.alone.result (seen c.alone.new.book) c.args.w) (sym (reciprocal-several c.load-y.result c.load-y.ensures ls c.requires.0 c.if-y-n.true))
    (subst (λ (n : ℕ). Agrees c.alone.result (seen c.alone.new.book) c.args.w (formed Store (entry Div n zero64 complex.one) s none)) (omega (arith, ls.ends)) (c.alone.ensures.of_one s ls))

pub div_term-requires : goal.div_term-requires
div_term-requires c =
    let d = (goal.at.div_term-requires c).Else-y-n in
    let held = c.requires.1.held in (
      omega arith,
      omega arith,
      one-by-itself c.if-y-n.false c.requires.1 (one d held.0 held.1),
      record { few = omega arith; room = c.requires.2; held = (none, nothing d) },
    )

pub returns-clause-of_one : goal.returns-clause-of_one
returns-clause-of_one c s ls =
    let d = (goal.at.returns-clause-of_one c).Else-y-n in
    let o = one d s ls in
    subst (Agrees c.div_term.result (seen c.div_term.new.book) c.args.w) (sym (reciprocal_one o)) (c.div_term.ensures.of_divisor none o.v (nothing d) o.divisor)
