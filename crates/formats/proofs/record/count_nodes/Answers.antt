-- The loop's invariant: those that are passed and those that are left make up the whole. Assumes nothing.
use mathlib.Core.Path.{◌≡◌}
use Prim.Native.Nat.{◌+◌}
use native.Mathlib.Omega.{arith}
use Rattle.formats.proofs.record.Walk.{walk-on, count_none}
use Rattle.formats.proofs.record.count_nodes.Goals as goal

pub loop-at-preserved : goal.loop-at-preserved
loop-at-preserved c =
    let l = c.loop-at in
    let r = c.record_at-r in
    let w = walk-on c.args.list.now l.at c.args.to r.result l.invariant.1 (omega arith) r.ensures.0 in
    let e : l.at + (1 + r.result.inside) ≡ l.at + 1 + r.result.inside = omega arith in
    rw e (omega arith, w.1, omega (arith, l.invariant.2, w.2))

pub returns : goal.returns
returns c = omega (arith, c.loop-at.invariant.2, count_none c.args.list.now c.loop-at.at c.args.to (omega arith))
