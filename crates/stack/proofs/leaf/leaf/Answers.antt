-- By the kind that is found.
use Rattle.std.proofs.Common.{◌-◌, ap}
use Rattle.stack.specs.Contract.Agree.{ran_of}
use Rattle.stack.proofs.state.Laws.{does-stop}
use Rattle.stack.proofs.leaf.Choices.{leaf-kind, leaf-unknown}
use Rattle.stack.proofs.leaf.leaf.Goals as goal

pub returns-in-Some-clause-acts : goal.returns-in-Some-clause-acts
returns-in-Some-clause-acts c at complex pairs =
    leaf-kind at (1152 - c.args.v) c.args.r c.in-Some.ensures (c.leaf_of.ensures.acts at complex pairs)

pub returns-in-None-clause-acts : goal.returns-in-None-clause-acts
returns-in-None-clause-acts c at complex pairs =
    let h = 1152 - c.args.v in
    leaf-kind at h c.args.r c.in-None.ensures
    (leaf-unknown at h c.args.r (does-stop (λ ss k. ap (ran_of at c.args.handled complex pairs) ((rw (c.cells.ensures, c.sizes.ensures) at c.halt.ensures) ss k))))
