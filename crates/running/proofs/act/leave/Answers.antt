-- What is stored is seen on top. Assumes nothing.
use native.Mathlib.Omega.{arith}
use mathlib.Core.Path.{ap, sym, ◌∙◌}
use Rattle.running.specs.Primitives.{went, leave}
use Rattle.running.specs.Contract.Views.{stack_of}
use Rattle.running.proofs.Laws.{leave-bad, leave-one}
use Rattle.running.proofs.Stack.{stack_push, stack-push-two, stack-push-three}
use Rattle.running.proofs.act.leave.Goals as goal

pub returns-then-not-is_finite-clause-result_after : goal.returns-then-not-is_finite-clause-result_after
returns-then-not-is_finite-clause-result_after c =
    rw c.in-One.is (sym (leave-bad c.in-One.a (stack_of c.args.stack.now c.args.n) (sym c.is_finite.ensures ∙ c.if-not-is_finite.true)))

pub returns-in-Nothing-clause-result_after : goal.returns-in-Nothing-clause-result_after
unfolding leave
returns-in-Nothing-clause-result_after c = rw c.in-Nothing.is

pub returns-else-not-is_finite-clause-result_after : goal.returns-else-not-is_finite-clause-result_after
returns-else-not-is_finite-clause-result_after c =
    let x = c.args in
    rw c.in-One.is
    (ap went (stack_push x.stack.now x.n c.in-One.a (omega arith)) ∙ sym (leave-one c.in-One.a (stack_of x.stack.now x.n) (sym c.is_finite.ensures ∙ c.if-not-is_finite.false)))

pub returns-in-Two-clause-result_after : goal.returns-in-Two-clause-result_after
unfolding leave
returns-in-Two-clause-result_after c =
    let x = c.args in
    rw c.in-Two.is (ap went (stack-push-two x.stack.now x.n c.in-Two.b c.in-Two.a (omega arith)))

pub returns-in-Three-clause-result_after : goal.returns-in-Three-clause-result_after
unfolding leave
returns-in-Three-clause-result_after c =
    let x = c.args in
    rw c.in-Three.is (ap went (stack-push-three x.stack.now x.n c.in-Three.c c.in-Three.b c.in-Three.a (omega arith)))
