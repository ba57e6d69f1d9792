-- Too few sums, none left, one formed, or the sum twice.
use Rattle.std.proofs.Common.{◌-◌, ◌≤◌, [], ◌∷◌, sym, ap, ◌∙◌, arith}
use Rattle.formats.specs.Names.{primitive_of}
use Rattle.formats.specs.Table.{row}
use Rattle.stack.specs.Contract.Arena.{slots}
use Rattle.stack.specs.Contract.Agree.{ran_of}
use Rattle.stack.specs.Contract.Parts.{Tops}
use Rattle.stack.proofs.slots.Laws.{stacked-le}
use Rattle.stack.proofs.state.Laws.{does-none, tops-one, Topmost, topmost}
use Rattle.stack.proofs.one_operand.Leaving.{one-popped, one-twice}
use Rattle.stack.proofs.one_operand.one_operand.Goals as goal
use Rattle.stack.proofs.one_operand.one_operand.Goals.{After-top_size-n}

tops : (c : After-top_size-n) → Tops (slots c.args.arena.now) c.args.used (c.top_size-n.result ∷ [])
tops c = let low = stacked-le c.requires.some.1.stack in tops-one {a = slots c.args.arena.now} (omega arith) (rw c.sizes.ensures at c.top_size-n.ensures)

top : (c : After-top_size-n) → Topmost (slots c.args.arena.now) c.args.used c.top_size-n.result c.requires.some.0.stack
top c = topmost (tops c) c.requires.some.1.stack

pub returns-then-used-eq-WORKING-clause-applies : goal.returns-then-used-eq-WORKING-clause-applies
returns-then-used-eq-WORKING-clause-applies c at complex pairs = does-none 1 _ (omega arith) (ap (ran_of at c.args.handled complex pairs) c.short.ensures) c.if-used-eq-WORKING.true

pub top_size-n-requires : goal.top_size-n-requires
top_size-n-requires c =
    let low = stacked-le c.requires.some.1.stack in
    let below = c.requires.some.1.below in
    let long = c.requires.space.sizes in
    rw c.sizes.ensures (omega arith, omega arith)

pub overflow_sub-result : goal.overflow_sub-result
overflow_sub-result c = let e = (top (goal.at.overflow_sub-result c).After-top_size-n).one.ends in omega arith

pub returns-then-left-eq0-clause-applies : goal.returns-then-left-eq0-clause-applies
returns-then-left-eq0-clause-applies c at complex pairs =
    one-popped at (1152 - c.args.v) (primitive_of c.args.code) (sym c.left-left.ensures ∙ c.if-left-eq0.true) (tops (goal.at.returns-then-left-eq0-clause-applies c).After-top_size-n)

pub form_top-requires : goal.form_top-requires
form_top-requires c = (sym c.left-left.ensures ∙ c.if-left-eq1.true, tops (goal.at.form_top-requires c).After-top_size-n, c.requires)

pub returns-then-left-eq1-clause-applies : goal.returns-then-left-eq1-clause-applies
returns-then-left-eq1-clause-applies c = c.form_top.ensures.applies

pub overflow_sub-used : goal.overflow_sub-used
overflow_sub-used c = let e = (top (goal.at.overflow_sub-used c).After-top_size-n).one.ends in omega arith

pub push_cells-requires : goal.push_cells-requires
push_cells-requires c =
    let x = (top (goal.at.push_cells-requires c).After-top_size-n).one in
    let ends = x.ends in
    (x.some, x.few, omega arith, (c.args.handled, c.requires))

pub returns-clause-applies : goal.returns-clause-applies
returns-clause-applies c at complex pairs =
    let p = primitive_of c.args.code in
    let twice : 2 ≤ (row p).left = omega (arith, c.left-left.ensures, c.if-left-eq0.false, c.if-left-eq1.false) in
    one-twice at (1152 - c.args.v) p twice c.requires (tops (goal.at.returns-clause-applies c).After-top_size-n) (λ s l. c.push_cells.ensures.of_one s l at c.args.handled complex pairs)
