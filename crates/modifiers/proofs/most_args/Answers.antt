-- A turn reads the next body, and at the end no body is left.
use Rattle.std.proofs.Common.{arith}
use Rattle.formats.proofs.record.Walk.{walk-on}
use Rattle.modifiers.proofs.Runs.{most-on, most-none}
use Rattle.modifiers.proofs.most_args.Goals as goal

pub loop-at-preserved : goal.loop-at-preserved
loop-at-preserved c =
    let l = c.loop-at in
    let a = c.args in
    let r = c.record_at-r in
    let w = walk-on a.list.now l.at a.to r.result l.invariant.left (omega arith) r.ensures.0 in
    record {
      left = w.1;
      same = omega (arith, l.invariant.same, most-on a.list.now l.at a.to r.result l.invariant.left (omega arith) r.ensures.0, c.larger-n.ensures, c.wide.ensures);
    }

pub returns : goal.returns
returns c = let a = c.args in omega (arith, c.loop-at.invariant.same, most-none a.list.now c.loop-at.at a.to (omega arith))
