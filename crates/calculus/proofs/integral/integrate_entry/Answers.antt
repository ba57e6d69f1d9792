-- One entry is integrated by its kind: a power of x, a kind that is refused, or a function that is left to integrate_wave.
use Rattle.std.proofs.Common.{sym, eq-eqb}
use Rattle.sums.specs.Tree.Kinds as kinds
use Rattle.sums.specs.Tree.Sums.{none}
use Rattle.calculus.specs.Integral.{integrate_x}
use Rattle.calculus.proofs.Good.{integrate-is-x}
use Rattle.calculus.proofs.Into.{into-refused, into-power}
use Rattle.calculus.proofs.integral.Storing.{integrate-not}
use Rattle.calculus.proofs.integral.integrate_entry.Goals as goal

pub returns-then-x-eq-X-clause-into : goal.returns-then-x-eq-X-clause-into
returns-then-x-eq-X-clause-into c =
    let x = c.args.x in
    let is_x = eq-eqb x.kind kinds.X c.if-x-eq-X.true in
    into-power (integrate_x x) c.requires.0.head c.if-x-eq-X.true (λ s. sym (integrate-is-x x.kind x.inside x.num x.coef none s is_x)) c.integrate_x.ensures.kept
    c.integrate_x.ensures.of_one

pub returns-then-x-lt-SIN-clause-into : goal.returns-then-x-lt-SIN-clause-into
returns-then-x-lt-SIN-clause-into c = into-refused (λ t lt s. integrate-not c.args.x t s c.if-x-eq-X.false c.if-x-lt-SIN.true)
