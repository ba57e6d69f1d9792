-- Too few sums, or two.
use Rattle.std.proofs.Common.{[], ◌∷◌, ap, arith}
use Rattle.stack.specs.Contract.Arena.{slots}
use Rattle.stack.specs.Contract.Agree.{ran_of}
use Rattle.stack.specs.Contract.Parts.{Tops}
use Rattle.stack.proofs.slots.Laws.{stacked-le}
use Rattle.stack.proofs.state.Laws.{does-none, does-only, tops-one, Topmost, topmost}
use Rattle.stack.proofs.two_operands.two_operands.Goals as goal
use Rattle.stack.proofs.two_operands.two_operands.Goals.{After-top_size-n}

tops : (c : After-top_size-n) → Tops (slots c.args.arena.now) c.args.used (c.top_size-n.result ∷ [])
tops c = let low = stacked-le c.requires.1.some.1.stack in tops-one {a = slots c.args.arena.now} (omega arith) (rw c.sizes.ensures at c.top_size-n.ensures)

top : (c : After-top_size-n) → Topmost (slots c.args.arena.now) c.args.used c.top_size-n.result c.requires.1.some.0.stack
top c = topmost (tops c) c.requires.1.some.1.stack

pub returns-then-used-eq-WORKING-clause-applies : goal.returns-then-used-eq-WORKING-clause-applies
returns-then-used-eq-WORKING-clause-applies c at complex pairs = does-none 2 _ (omega arith) (ap (ran_of at c.args.handled complex pairs) c.short.ensures) c.if-used-eq-WORKING.true

pub top_size-n-requires : goal.top_size-n-requires
top_size-n-requires c =
    let low = stacked-le c.requires.1.some.1.stack in
    let below = c.requires.1.some.1.below in
    let long = c.requires.1.space.sizes in
    rw c.sizes.ensures (omega arith, omega arith)

pub overflow_sub-used : goal.overflow_sub-used
overflow_sub-used c = let e = (top (goal.at.overflow_sub-used c).After-top_size-n).one.ends in omega arith

pub returns-then-used-n-eq-WORKING-clause-applies : goal.returns-then-used-n-eq-WORKING-clause-applies
returns-then-used-n-eq-WORKING-clause-applies c at complex pairs =
    does-only _ (ap (ran_of at c.args.handled complex pairs) c.short-then-used-n-eq-WORKING.ensures) (tops (goal.at.returns-then-used-n-eq-WORKING-clause-applies c).After-top_size-n)
    c.if-used-n-eq-WORKING.true

pub two_leave-requires : goal.two_leave-requires
two_leave-requires c =
    let d = (goal.at.two_leave-requires c).After-top_size-n in
    let low = (top d).one.low in
    (c.requires.0, tops d, omega arith, c.requires.1)

pub returns-clause-applies : goal.returns-clause-applies
returns-clause-applies c = c.two_leave.ensures.applies
