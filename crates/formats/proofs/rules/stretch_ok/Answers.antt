-- The loop's invariant: the whole is well-formed where what is left is. Assumes nothing.
use mathlib.Core.Path.{sym, ◌∙◌, ◌≡◌}
use Prim.Native.Nat.{◌+◌}
use native.Mathlib.Omega.{arith}
use Rattle.formats.proofs.record.Shapes.{ok-none, turn-bad, turn-good}
use Rattle.formats.proofs.rules.stretch_ok.Goals as goal

pub returns-then-not-may_stand : goal.returns-then-not-may_stand
returns-then-not-may_stand c =
    let a = c.args in
    let l = c.loop-at in
    let r = c.record_at-r in
    sym (l.invariant.1 ∙ turn-bad a.bodies a.list.now l.at a.to r.result (omega arith) r.ensures.0 (sym c.may_stand.ensures ∙ c.if-not-may_stand.true))

pub loop-at-preserved : goal.loop-at-preserved
loop-at-preserved c =
    let x = c in
    let a = x.args in
    let l = c.loop-at in
    let r = c.record_at-r in
    let m = sym c.may_stand.ensures ∙ c.if-not-may_stand.false in
    let e : l.at + (1 + r.result.inside) ≡ l.at + 1 + r.result.inside = omega arith in
    rw e (omega arith, l.invariant.1 ∙ turn-good a.bodies a.list.now l.at a.to r.result (omega arith) r.ensures.0 m (x.requires.ok_inside l.at l.invariant.0 (omega arith)))

pub returns : goal.returns
returns c =
    let l = c.loop-at in
    let a = c.args in
    sym (l.invariant.1 ∙ ok-none a.bodies a.list.now l.at a.to (omega arith))
