-- A function of a sum is derived by its kind: what the called function promises is what the definition says of that kind.
use Rattle.calculus.proofs.Into.{into-as}
use Rattle.calculus.proofs.derivative.Steps.{derive-log-is, derive-exp-is, derive-wave-is}
use Rattle.calculus.proofs.derivative.derive_function.Goals as goal

pub returns-then-x-eq-LOG-clause-into : goal.returns-then-x-eq-LOG-clause-into
returns-then-x-eq-LOG-clause-into c = into-as (λ t s. derive-log-is c.args.x t s c.if-x-eq-LOG.true) c.derive_log.ensures.into

pub returns-then-x-eq-EXP-clause-into : goal.returns-then-x-eq-EXP-clause-into
returns-then-x-eq-EXP-clause-into c = into-as (λ t s. derive-exp-is c.args.x t s c.if-x-eq-EXP.true) c.derive_exp.ensures.into

pub returns-clause-into : goal.returns-clause-into
returns-clause-into c = into-as (λ t s. derive-wave-is c.args.x t s c.requires.1 c.if-x-eq-LOG.false c.if-x-eq-EXP.false) c.derive_wave.ensures.into
