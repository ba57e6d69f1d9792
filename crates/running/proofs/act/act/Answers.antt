-- A push, or a primitive. Assumes nothing.
use mathlib.Core.Path.{sym, ap, ◌∙◌}
use Rattle.std.proofs.lemmas.Result.{err_from_is_err_and}
use Rattle.running.specs.Primitives.{act, apply, work_of}
use Rattle.running.specs.Contract.Views.{stack_of}
use Rattle.running.proofs.Laws.{leave-err}
use Rattle.running.proofs.act.act.Goals as goal

pub returns-in_err-number-in-Pushes-clause-result_after : goal.returns-in_err-number-in-Pushes-clause-result_after
unfolding act
returns-in_err-number-in-Pushes-clause-result_after c =
    let s = stack_of c.args.stack.now c.args.n in
    let p = err_from_is_err_and c.from_residual.result c.from_residual.ensures.1 in
    rw (p.1, p.2, c.in-Pushes.is) (sym (leave-err s) ∙ c.in_err-number-in-Pushes.ensures s)

pub returns-in_ok-number-in-Pushes-clause-result_after : goal.returns-in_ok-number-in-Pushes-clause-result_after
unfolding act
returns-in_ok-number-in-Pushes-clause-result_after c = rw c.in-Pushes.is (c.leave.ensures.result_after ∙ c.in_ok-number-in-Pushes.ensures (stack_of c.args.stack.now c.args.n))

pub returns-in-Works-clause-result_after : goal.returns-in-Works-clause-result_after
unfolding act
returns-in-Works-clause-result_after c =
    rw c.in-Works.is (c.perform.ensures.result_after ∙ ap (λ p. apply (work_of p) (stack_of c.args.stack.now c.args.n)) c.primitive_of.ensures)
