-- The values are there, or a pop finds nothing. Assumes nothing.
use native.Mathlib.Omega.{arith}
use mathlib.Core.Path.{sym, ◌∙◌}
use Rattle.std.proofs.lemmas.Result.{err_from_is_err_and}
use Rattle.running.proofs.Laws.{two-few, apply-two, leave-err}
use Rattle.running.proofs.act.pair.Goals as goal

pub returns-then-n-lt2-clause-result_after : goal.returns-then-n-lt2-clause-result_after
returns-then-n-lt2-clause-result_after c = let a = c.args in sym (two-few a.o a.stack.now a.n (omega arith))

pub returns-in_err-l-clause-result_after : goal.returns-in_err-l-clause-result_after
returns-in_err-l-clause-result_after c =
    let a = c.args in
    let p = err_from_is_err_and c.from_residual.result c.from_residual.ensures.1 in
    rw (p.1, p.2) (sym (apply-two a.o a.stack.now a.n (omega arith) c.in_err-l.ensures ∙ leave-err _))

pub returns-clause-result_after : goal.returns-clause-result_after
returns-clause-result_after c = let a = c.args in c.leave.ensures.result_after ∙ sym (apply-two a.o a.stack.now a.n (omega arith) c.in_ok-l.ensures)
