-- The values are there, or a pop finds nothing. Assumes nothing.
use native.Mathlib.Omega.{arith}
use mathlib.Core.Path.{sym, ◌∙◌}
use Rattle.std.proofs.lemmas.Result.{err_from_is_err_and}
use Rattle.running.proofs.Laws.{one-few, apply-one, leave-err}
use Rattle.running.proofs.act.single.Goals as goal

pub returns-then-n-lt1-clause-result_after : goal.returns-then-n-lt1-clause-result_after
returns-then-n-lt1-clause-result_after c = let a = c.args in sym (one-few a.o a.stack.now a.n (omega arith))

pub returns-in_err-l-clause-result_after : goal.returns-in_err-l-clause-result_after
returns-in_err-l-clause-result_after c =
    let a = c.args in
    let p = err_from_is_err_and c.from_residual.result c.from_residual.ensures.1 in
    rw (p.1, p.2) (sym (apply-one a.o a.stack.now a.n (omega arith) c.in_err-l.ensures ∙ leave-err _))

pub returns-clause-result_after : goal.returns-clause-result_after
returns-clause-result_after c = let a = c.args in c.leave.ensures.result_after ∙ sym (apply-one a.o a.stack.now a.n (omega arith) c.in_ok-l.ensures)
