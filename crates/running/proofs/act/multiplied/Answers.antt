-- Assumes nothing.
use mathlib.Core.Path.{◌≡◌, sym, ◌∙◌}
use Prim.Native.Nat.{◌-◌, ◌+◌}
use native.Mathlib.Omega.{arith}
use Rattle.running.proofs.Laws.{times_more, times_none}
use Rattle.running.proofs.act.multiplied.Goals as goal

pub loop-preserved : goal.loop-preserved
loop-preserved c =
    let l = c.loop in
    let e : c.args.n - l.counter - 1 ≡ c.args.n - (l.counter + 1) = omega arith in
    rw (← e) (l.invariant ∙ times_more (c.args.n - l.counter) c.args.b l.p (omega arith))

pub returns : goal.returns
returns c = let l = c.loop in sym (l.invariant ∙ times_none (c.args.n - l.counter) c.args.b l.p (omega arith))
