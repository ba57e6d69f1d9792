-- A turn by the lemmas in cost::Laws, where r is the record that was read.
use Rattle.std.proofs.Common.{◌+◌, ◌-◌, arith}
use Rattle.formats.specs.declared.record.Kind.TheVariants.{Modifier}
use Rattle.formats.specs.Rules.{is_a}
use Rattle.formats.specs.Tree.{forest}
use Rattle.reading.specs.Cost.Cost.{cost_of}
use Rattle.reading.proofs.cost.Without.{inside-twice}
use Rattle.reading.proofs.cost.Laws.{cost-none, turn-next, turn-levels, turn_inside, turn-after, turn-steps}
use Rattle.reading.proofs.cost.+stretch_steps.Goals as goal

pub overflow_add-next-in-loop-at : goal.overflow_add-next-in-loop-at
overflow_add-next-in-loop-at t c =
    let w = c.loop-at.invariant.rest in
    omega (arith, w.1.few, turn-next c.args.list.now c.loop-at.at c.args.to w.0 c.args.left w.1 c.loop-at-test.true c.record_at-r.result c.record_at-r.ensures.0)

pub inside_times-times-requires : goal.inside_times-times-requires
inside_times-times-requires t c =
    let w = c.loop-at.invariant.rest in
    let r = c.record_at-r in
    (is_a r.result Modifier, c.args.left - 1, turn_inside c.args.list.now c.loop-at.at c.args.to w.0 c.args.left w.1 c.loop-at-test.true r.result r.ensures.0)

pub overflow_sub-left : goal.overflow_sub-left
overflow_sub-left t c =
    let w = c.loop-at.invariant.rest in
    turn-levels c.args.list.now c.loop-at.at c.args.to w.0 c.args.left w.1 c.loop-at-test.true c.record_at-r.result c.record_at-r.ensures.0

pub stretch_steps-inner-requires : goal.stretch_steps-inner-requires
stretch_steps-inner-requires t c =
    let w = c.loop-at.invariant.rest in
    let r = c.record_at-r in
    let k = turn-levels c.args.list.now c.loop-at.at c.args.to w.0 c.args.left w.1 c.loop-at-test.true r.result r.ensures.0 in
    (omega arith, (is_a r.result Modifier, turn_inside c.args.list.now c.loop-at.at c.args.to w.0 c.args.left w.1 c.loop-at-test.true r.result r.ensures.0))

pub own_steps-requires : goal.own_steps-requires
own_steps-requires t c =
    let r = c.record_at-r.result in
    omega (arith, c.inside_times-times.ensures, inside-twice r (forest c.args.list.now (c.loop-at.at + 1) (c.loop-at.at + 1 + r.inside)))

pub loop-at-preserved : goal.loop-at-preserved
loop-at-preserved t c =
    let l = c.loop-at in
    let a = c.args in
    let r = c.record_at-r in
    let w = l.invariant.rest in
    record {
      rest = (w.0, turn-after a.list.now l.at a.to w.0 a.left w.1 c.loop-at-test.true r.result r.ensures.0);
      whole =
          turn-steps a.list.now l.at a.to w.0 a.left w.1 c.loop-at-test.true r.result r.ensures.0 (cost_of (forest a.list.now a.from a.to))
          l.steps c.inside_times-times.result c.stretch_steps-inner.result c.own_steps.result c.capped_sum-steps.result
          c.inside_times-times.ensures c.stretch_steps-inner.ensures c.own_steps.ensures c.capped_sum-steps.ensures l.invariant.whole;
      few = omega (arith, c.capped_sum-steps.ensures);
    }

pub returns : goal.returns
returns t c = omega (arith, c.loop-at.invariant.whole, c.loop-at.invariant.few, cost-none c.args.list.now c.loop-at.at c.args.to (omega arith))
