-- A primitive that is lacking stops the run. Assumes nothing.
use mathlib.Core.Path.{sym, ap, ◌∙◌}
use Rattle.std.proofs.lemmas.Result.{err_from_is_err_and}
use Rattle.running.specs.Primitives.{apply}
use Rattle.running.specs.Contract.Views.{stack_of}
use Rattle.running.proofs.Laws.{apply-lacks}
use Rattle.running.proofs.act.perform.Goals as goal

pub returns-in_err-work_of-in_default : goal.returns-in_err-work_of-in_default
returns-in_err-work_of-in_default c =
    let s = stack_of c.args.stack.now c.args.n in
    let p = err_from_is_err_and c.from_residual.result c.from_residual.ensures.1 in
    rw (p.1, p.2) (record { result_after = sym (apply-lacks s) ∙ ap (λ w. apply w s) c.in_err-work_of-in_default.ensures; under = tt })
