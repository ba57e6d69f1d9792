-- One formed, the two turned, or the lower one once more.
use Rattle.std.proofs.Common.{◌-◌, ◌≤◌, [], ◌∷◌, sym, ◌∙◌, arith}
use Rattle.formats.specs.Names.{primitive_of}
use Rattle.formats.specs.Table.{row}
use Rattle.stack.specs.Contract.Arena.{slots}
use Rattle.stack.specs.Contract.Parts.{Tops}
use Rattle.stack.proofs.state.Laws.{tops-one, tops-two, Pair, pair}
use Rattle.stack.proofs.one_operand.Table.{rows}
use Rattle.stack.proofs.one_operand.Leaving.{two-turned, two-over}
use Rattle.stack.proofs.two_operands.two_leave.Goals as goal
use Rattle.stack.proofs.two_operands.two_leave.Goals.{After-top_size-m}

tops : (c : After-top_size-m) → Tops (slots c.args.arena.now) c.args.used (c.args.n ∷ c.top_size-m.result ∷ [])
tops c = tops-two c.requires.1 (tops-one {a = slots c.args.arena.now} c.requires.2 (rw c.sizes.ensures at c.top_size-m.ensures))

both : (c : After-top_size-m) → Pair (slots c.args.arena.now) c.args.used c.args.n c.top_size-m.result c.requires.3.some.0.stack
both c = pair (tops c) c.requires.3.some.1.stack

pub flip-requires-clause-tops : goal.flip-requires-clause-tops
flip-requires-clause-tops c = (tops (goal.at.flip-requires-clause-tops c).After-top_size-m, (c.requires.3.some.0.stack, c.requires.3.some.1.stack))

pub returns-then-left-eq2-clause-applies : goal.returns-then-left-eq2-clause-applies
returns-then-left-eq2-clause-applies c at complex pairs =
    two-turned at (primitive_of c.args.code) (sym c.left-left.ensures ∙ c.if-left-eq2.true) c.requires.3 (tops (goal.at.returns-then-left-eq2-clause-applies c).After-top_size-m) c.flip.ensures.turned

pub overflow_sub-used-3 : goal.overflow_sub-used-3
overflow_sub-used-3 c = let e = (both (goal.at.overflow_sub-used-3 c).After-top_size-m).second.ends in omega arith

pub push_cells-requires : goal.push_cells-requires
push_cells-requires c =
    let x = both (goal.at.push_cells-requires c).After-top_size-m in
    let first = x.first.ends in
    let second = x.second.ends in
    (x.second.some, x.second.few, omega arith, (c.args.handled, c.requires.3))

pub returns-clause-applies : goal.returns-clause-applies
returns-clause-applies c at complex pairs =
    let p = primitive_of c.args.code in
    let some : 3 ≤ (row p).left = omega (arith, c.left-left.ensures, (rows p).1 c.requires.0, c.if-left-eq1.false, c.if-left-eq2.false) in
    two-over at (1152 - c.args.v) p some c.requires.3 (tops (goal.at.returns-clause-applies c).After-top_size-m) (λ t l. c.push_cells.ensures.of_one t l at c.args.handled complex pairs)
