-- Each entry is derived, and nothing becomes constant 0.
use Rattle.std.proofs.Common.{subst, arith}
use Rattle.std.proofs.lemmas.Result.{err_from_is_err_and}
use Rattle.cells.specs.Contract.Book.{seen}
use Rattle.sums.specs.Contract.Lies.{Agrees}
use Rattle.calculus.proofs.derivative.Steps.{derive-refused, derive-nothing, derive-done}
use Rattle.calculus.proofs.derivative.expr_deriv.Goals as goal

pub returns-in_err-n-clause-of_one : goal.returns-in_err-n-clause-of_one
returns-in_err-n-clause-of_one c t lt =
    let p = err_from_is_err_and c.from_residual.result c.from_residual.ensures.1 in
    rw (p.1, p.2) (derive-refused (seen c.derive_each.new.book) c.args.w c.derive_each.result t (c.derive_each.ensures.of_one t lt) c.in_err-n.was)

pub returns-then-n-eq0-clause-of_one : goal.returns-then-n-eq0-clause-of_one
returns-then-n-eq0-clause-of_one c t lt =
    subst (Agrees c.constant_sum.result (seen c.constant_sum.new.book) c.args.w)
    (derive-nothing (seen c.derive_each.new.book) c.args.w c.derive_each.result t (c.derive_each.ensures.of_one t lt) c.in_ok-n.was (omega arith))
    c.constant_sum.ensures.agrees

pub returns-clause-of_one : goal.returns-clause-of_one
returns-clause-of_one c t lt =
    derive-done (seen c.derive_each.new.book) c.args.w c.derive_each.result t (c.derive_each.ensures.of_one t lt) c.in_ok-n.was (λ z. omega arith)
