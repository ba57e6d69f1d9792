-- By how many sums the primitive takes.
use Rattle.std.proofs.Common.{◌-◌, sym, ap, ◌∙◌}
use Rattle.formats.specs.Names.{primitive_of}
use Rattle.stack.specs.Contract.Agree.{ran_of}
use Rattle.stack.proofs.state.Laws.{does-stop}
use Rattle.stack.proofs.leaf.Choices.{taken_none, taken-some, taken-two}
use Rattle.stack.proofs.leaf.apply.Goals as goal

pub returns-then-taken-eq0-clause-applies : goal.returns-then-taken-eq0-clause-applies
returns-then-taken-eq0-clause-applies c at complex pairs =
    taken_none at (1152 - c.args.v) (primitive_of c.args.code) (sym c.taken-taken.ensures ∙ c.if-taken-eq0.true)
    (does-stop (λ ss k. ap (ran_of at c.args.handled complex pairs) ((rw (c.cells.ensures, c.sizes.ensures) at c.halt.ensures) ss k)))

pub returns-then-taken-eq1-clause-applies : goal.returns-then-taken-eq1-clause-applies
returns-then-taken-eq1-clause-applies c at complex pairs =
    taken-some at (1152 - c.args.v) (primitive_of c.args.code) 1 (sym c.taken-taken.ensures ∙ c.if-taken-eq1.true) (c.one_operand.ensures.applies at complex pairs)

pub two_operands-requires : goal.two_operands-requires
two_operands-requires c = (taken-two (primitive_of c.args.code) c.taken-taken.ensures c.if-taken-eq0.false c.if-taken-eq1.false, c.requires)

pub returns-clause-applies : goal.returns-clause-applies
returns-clause-applies c at complex pairs =
    let p = primitive_of c.args.code in
    taken-some at (1152 - c.args.v) p 2 (taken-two p c.taken-taken.ensures c.if-taken-eq0.false c.if-taken-eq1.false) (c.two_operands.ensures.applies at complex pairs)
