-- A simple record stands low wherever what comes after it does. Assumes nothing.
use mathlib.Core.Bool.{false}
use mathlib.Core.Path.{◌≡◌}
use native.Mathlib.Omega.{arith}
use Rattle.formats.proofs.record.Stands.{low-simple}
use Rattle.formats.proofs.rules.past_simple.Goals as goal

pub loop-at-preserved : goal.loop-at-preserved
loop-at-preserved c =
    let a = c.args in
    let l = c.loop-at in
    let b : a.bodies ≡ false = c.if-bodies.false in
    let f = c.is_simple.ensures c.if-not-is_simple.false in
    λ k h.
    let g = low-simple a.list.now l.at a.to k (omega arith) f h in
    let i = l.invariant k h in
    (λ y. i.0 (rw b (g.0 (rw b at y))), λ y. rw b (g.1 (rw b at (i.1 y))))

pub returns : goal.returns
returns c = let e : c.loop-at.at ≡ c.args.to = omega arith in (omega arith, omega arith, rw e at c.loop-at.invariant)
