-- The sum on top is taken off, and what is formed of it put on.
use Rattle.std.proofs.Common.{◌+◌, ◌-◌, subst, arith}
use Rattle.cells.specs.Contract.Book.{seen}
use Rattle.cells.specs.Contract.Moves.{over}
use Rattle.cells.proofs.Laws.{room-less}
use Rattle.sums.specs.Tree.Sums.{Sum}
use Rattle.formats.specs.declared.record.Primitive.{Primitive}
use Rattle.formats.specs.Names.{primitive_of}
use Rattle.primitives.specs.Forms.{of_one}
use Rattle.sums.specs.Contract.Lies.{Lies, Agrees}
use Rattle.stack.specs.Contract.Arena.{slots, of}
use Rattle.stack.specs.Contract.Blocks.{Outside}
use Rattle.stack.proofs.state.Laws.{topmost, ready-popped}
use Rattle.stack.proofs.state.Forming.{filled}
use Rattle.stack.proofs.one_operand.Table.{of-one-good}
use Rattle.stack.proofs.one_operand.Working.{kept-outside, ready-working}
use Rattle.stack.proofs.one_operand.Leaving.{one-formed}
use Rattle.stack.proofs.one_operand.form_top.Goals as goal
use Rattle.stack.proofs.one_operand.form_top.Goals.{After-form_one-f}

worked : (c : After-form_one-f) → Outside (slots c.args.arena.now) (of (seen c.form_one-f.new.book) c.args.arena.now.sizes.now) 0 128
worked c = kept-outside c.args.arena.now.sizes.now c.form_one-f.ensures.kept

formed : (c : After-form_one-f) (s : Sum) → Lies (seen c.args.arena.now.book) (c.args.used - c.args.n) (c.args.used - c.args.n + c.args.n) 4 s
    → Agrees c.form_one-f.result (seen c.form_one-f.new.book) 0 (of_one (primitive_of c.args.code) s)
formed c s l = subst (λ (p : Primitive). Agrees c.form_one-f.result (seen c.form_one-f.new.book) 0 (of_one p s)) c.primitive_of-p.ensures (c.form_one-f.ensures.of_one s l)

pub overflow_sub-i : goal.overflow_sub-i
overflow_sub-i c = let e = (topmost c.requires.1 c.requires.2.some.1.stack).one.ends in omega arith

pub form_one-f-requires : goal.form_one-f-requires
form_one-f-requires c =
    let t = topmost c.requires.1 c.requires.2.some.1.stack in
    let x = t.one in
    let below = c.requires.2.some.1.below in
    (x.some, record { few = x.few; held = (t.s, x.lies); apart = over x.low }, room-less {n = c.args.v} (omega arith) c.requires.2.space.cells)

pub push_formed-requires : goal.push_formed-requires
push_formed-requires c =
    let d = (goal.at.push_formed-requires c).After-form_one-f in
    let t = topmost c.requires.1 c.requires.2.some.1.stack in
    let p = primitive_of c.args.code in (
      filled c.form_one-f.result (seen c.form_one-f.new.book) (of_one p t.s) (λ r e. of-one-good p t.one.good e) (formed d t.s t.one.lies),
      ready-working (worked d) (ready-popped c.requires.2 t.one.rest (omega arith)),
    )

pub returns-clause-applies : goal.returns-clause-applies
returns-clause-applies c at complex pairs =
    let d = (goal.at.returns-clause-applies c).After-form_one-f in
    let p = primitive_of c.args.code in
    one-formed at (1152 - c.args.v) p c.requires.0 c.requires.2 c.requires.1 (worked d) (λ s l g. c.push_formed.ensures.agrees (of_one p s) at (formed d s l) complex pairs)
