-- One entry is derived by its kind: what the called function promises is what the definition says of that kind.
use Rattle.std.proofs.Common.{sym, eq-eqb}
use Rattle.sums.specs.Tree.Kinds as kinds
use Rattle.sums.specs.Tree.Sums.{none}
use Rattle.calculus.specs.Derivative.{derive_x}
use Rattle.calculus.proofs.Good.{derive-is-x}
use Rattle.calculus.proofs.Into.{into-as, into_more, into-power}
use Rattle.calculus.proofs.derivative.Steps.{derive-div-is}
use Rattle.calculus.proofs.derivative.derive_entry.Goals as goal

pub returns-then-x-eq-X-clause-into : goal.returns-then-x-eq-X-clause-into
returns-then-x-eq-X-clause-into c =
    let x = c.args.x in
    let is_x = eq-eqb x.kind kinds.X c.if-x-eq-X.true in
    into_more
    (into-power (derive_x x) c.requires.head c.if-x-eq-X.true (λ s. sym (derive-is-x x.kind x.inside x.num x.coef none s is_x)) c.derive_x.ensures.kept c.derive_x.ensures.of_one)

pub returns-then-x-eq-DIV-clause-into : goal.returns-then-x-eq-DIV-clause-into
returns-then-x-eq-DIV-clause-into c = into-as (λ t s. derive-div-is c.args.x t s c.if-x-eq-DIV.true) c.derive_div.ensures.into
