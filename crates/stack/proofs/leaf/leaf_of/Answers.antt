-- In each arm the kind is the arm's.
use Rattle.std.specs.Prelude.{Some}
use Rattle.std.proofs.Common.{◌-◌, sym, ap}
use Rattle.stack.specs.Contract.Agree.{ran_of}
use Rattle.stack.proofs.state.Laws.{does-stop, does-nothing}
use Rattle.stack.proofs.leaf.Choices.{leaf-kind, leaf-real, leaf-complex, leaf-primitive, leaf-marker, leaf-refused}
use Rattle.stack.proofs.leaf.leaf_of.Goals as goal

pub returns-in-RealPush-clause-acts : goal.returns-in-RealPush-clause-acts
returns-in-RealPush-clause-acts c at complex pairs =
    let h = 1152 - c.args.v in
    leaf-kind at h c.args.r (ap Some (sym c.in-RealPush.is)) (leaf-real at h c.args.r (c.push_number.ensures.acts at complex pairs))

pub returns-in-ComplexPush-clause-acts : goal.returns-in-ComplexPush-clause-acts
returns-in-ComplexPush-clause-acts c at complex pairs =
    let h = 1152 - c.args.v in
    leaf-kind at h c.args.r (ap Some (sym c.in-ComplexPush.is)) (leaf-complex at h c.args.r (c.push_number-in-ComplexPush.ensures.acts at complex pairs))

pub returns-in-Primitive-clause-acts : goal.returns-in-Primitive-clause-acts
returns-in-Primitive-clause-acts c at complex pairs =
    let h = 1152 - c.args.v in
    leaf-kind at h c.args.r (ap Some (sym c.in-Primitive.is)) (leaf-primitive at h c.args.r (c.apply.ensures.applies at complex pairs))

pub returns-in-UnderMarker-clause-acts : goal.returns-in-UnderMarker-clause-acts
returns-in-UnderMarker-clause-acts c at complex pairs =
    let h = 1152 - c.args.v in
    leaf-kind at h c.args.r (ap Some (sym c.in-UnderMarker.is)) (leaf-marker at h c.args.r (does-nothing _ _ _))

pub returns-in_default-clause-acts : goal.returns-in_default-clause-acts
returns-in_default-clause-acts c at complex pairs =
    let other = c.in_default in
    leaf-refused at (1152 - c.args.v) c.args.r c.args.k other.not-RealPush other.not-ComplexPush other.not-Primitive other.not-UnderMarker c.why_not.ensures
    (does-stop (λ ss k. ap (ran_of at c.args.handled complex pairs) ((rw (c.cells.ensures, c.sizes.ensures) at c.halt.ensures) ss k)))
