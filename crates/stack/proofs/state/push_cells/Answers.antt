-- Where there is room, the sum lies on top.
use Rattle.std.proofs.Common.{arith}
use Rattle.stack.proofs.state.Laws.{does-push, does-full}
use Rattle.stack.proofs.state.push_cells.Goals as goal

pub returns-then-v-used-clause-of_one : goal.returns-then-v-used-clause-of_one
returns-then-v-used-clause-of_one c s l at h complex pairs =
    let ready = c.requires.3.1 in
    let ends = l.ends in
    let low = ready.some.1.below in
    let full = c.if-v-used.true in
    does-full {n = c.args.n} at s ready.within (omega arith) (omega arith)

pub returns-clause-of_one : goal.returns-clause-of_one
returns-clause-of_one c s l at h complex pairs =
    let ready = c.requires.3.1 in
    let ends = l.ends in
    let low = ready.some.1.below in
    let room = c.if-v-used.false in
    does-push {n = c.args.n} at s ready.within (omega arith) (omega arith) c.bring.ensures.outside (c.bring.ensures.of_one s l)
