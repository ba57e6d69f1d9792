-- The functions of walks that call each other meet their contracts, by the lemmas in walk::Laws.
use Rattle.std.proofs.Common.{◌+◌, ◌-◌, true, false, arith, refl, sym, ap, ◌∙◌, rules}
use Rattle.formats.specs.Names.{kind_of}
use Rattle.formats.specs.Tree.{forest}
use Rattle.formats.specs.declared.record.Record.{Record}
use Rattle.stack.specs.Contract.Agree.{env_of}
use Rattle.stack.specs.declared.state.Ran.TheVariants.{Went}
use Rattle.modifiers.specs.Reading.{runners}
use Rattle.modifiers.specs.Contract.Plans.{modified}
use Rattle.modifiers.proofs.Runs.{walk_none}
use Rattle.reading.proofs.turn.Leaf.{prepared, leaf-stopped, leaf-went, quick-inside}
use Rattle.reading.proofs.walk.Flat.{descended, bodies-inside, nothing-else}
use Rattle.reading.proofs.walk.Laws.{going_start, going-ready, going-same, going_step, going-stop, going_end, round-stop, round-ready, round-held, round-back, round-end, plan-stop, plan-round, plan-end, fork-stop, fork-many, fork-end, forking-begin, forking-ready, forking-done, turn-room, turn_body, turn-lend-stop, turn-ready, turn-walk-stop, turn-next, turn-here, does-back, ready-as, does-as, began-few, halt-does, halt-asks, step-leaf, step-bodies, bodily-of, keeps, never}
use Rattle.reading.proofs.walk.+around_fork_fork_each_modify_step_walk_with_bodies.Goals as goal

-- ---- walk

pub walk-overflow_add-next-in-loop-at : goal.walk-overflow_add-next-in-loop-at
walk-overflow_add-next-in-loop-at t c =
    let left = c.loop-at.invariant.left in
    omega (arith, left.1.few, (turn-here left c.loop-at-test.true c.record_at-r.ensures.0).next)

pub walk-leaf-requires : goal.walk-leaf-requires
walk-leaf-requires t c = prepared c.loop-at.invariant.ready

pub walk-returns-in-Stopped-clause-does : goal.walk-returns-in-Stopped-clause-does
walk-returns-in-Stopped-clause-does t c =
    let l = c.loop-at in
    let r = c.record_at-r.result in
    let h = 1152 - c.args.v in
    let fs = runners (l.at + 1) (forest c.args.list.now (l.at + 1) (l.at + 1 + r.inside)) in
    let plain = quick-inside (kind_of r.kind) (sym c.is_quick.ensures ∙ c.if-is_quick.true) in
    let stopped = leaf-stopped (env_of l.used l.handled l.complex l.pairs) _ l.at r (kind_of r.kind) h (c.leaf.ensures.acts l.at) c.in-Stopped.is in
    going-stop _ l.invariant.going (step-leaf l.at r fs refl plain stopped) ((turn-here l.invariant.left c.loop-at-test.true c.record_at-r.ensures.0).on h)

pub walk-loop-at-preserved-then-is_quick : goal.walk-loop-at-preserved-then-is_quick
walk-loop-at-preserved-then-is_quick t c =
    let l = c.loop-at in
    let r = c.record_at-r.result in
    let h = 1152 - c.args.v in
    let fs = runners (l.at + 1) (forest c.args.list.now (l.at + 1) (l.at + 1 + r.inside)) in
    let plain = quick-inside (kind_of r.kind) (sym c.is_quick.ensures ∙ c.if-is_quick.true) in
    let went =
    leaf-went (env_of l.used l.handled l.complex l.pairs) _ l.at r (kind_of r.kind) h (c.leaf.ensures.acts l.at) c.in-Went.is
    c.counted-handled.ensures c.flags-complex.ensures c.capped_sum-pairs.ensures in
    let turned = turn-here l.invariant.left c.loop-at-test.true c.record_at-r.ensures.0 in
    let gone = going_step l.invariant.going (step-leaf l.at r fs refl plain went) (turned.on h) in
    record { left = (l.invariant.left.0, turned.rest, turned.one); ready = going-ready c.requires.0 gone; going = gone; same = search rules }

pub walk-loop-at-preserved-then-has_nodes : goal.walk-loop-at-preserved-then-has_nodes
walk-loop-at-preserved-then-has_nodes t c =
    let l = c.loop-at in
    let r = c.record_at-r in
    let left = l.invariant.left in
    let behind = descended c.args.list.now l.at c.args.to left.0 _ r.result left.1 left.2 c.loop-at-test.true r.ensures.0 (sym c.has_nodes.ensures ∙ c.if-has_nodes.true) in
    record { left = (false, behind.0, λ e. absurd (never e)); ready = l.invariant.ready; going = going-same l.invariant.going (behind.1 (1152 - c.args.v)); same = l.invariant.same }

pub walk-step-requires : goal.walk-step-requires
walk-step-requires t c =
    let turned = turn-here c.loop-at.invariant.left c.loop-at-test.true c.record_at-r.ensures.0 in
    (omega (arith, turned.low), (ready-as c.env_of-cur.ensures c.loop-at.invariant.ready, turned.inside, sym c.has_nodes.ensures ∙ c.if-has_nodes.false))

pub walk-returns-in-Stopped-step-clause-does : goal.walk-returns-in-Stopped-step-clause-does
walk-returns-in-Stopped-step-clause-does t c =
    let stepped = does-as c.env_of-cur.ensures c.in-Stopped-step.ensures.does in
    going-stop _ c.loop-at.invariant.going stepped ((turn-here c.loop-at.invariant.left c.loop-at-test.true c.record_at-r.ensures.0).on (1152 - c.args.v))

pub walk-loop-at-preserved : goal.walk-loop-at-preserved
walk-loop-at-preserved t c =
    let l = c.loop-at in
    let turned = turn-here l.invariant.left c.loop-at-test.true c.record_at-r.ensures.0 in
    let gone = going_step l.invariant.going (does-as c.env_of-cur.ensures c.in-Went-step.ensures.does) (turned.on (1152 - c.args.v)) in
    record { left = (l.invariant.left.0, turned.rest, turned.one); ready = going-ready c.requires.0 gone; going = gone; same = search rules }

pub walk-returns-clause-does : goal.walk-returns-clause-does
walk-returns-clause-does t c =
    does-back (ap Went c.env_of.ensures) (going_end c.loop-at.invariant.going (λ st. walk_none c.args.list.now c.loop-at.at c.args.to (1152 - c.args.v) st c.loop-at-test.false))

-- ---- step

pub step-modify-requires : goal.step-modify-requires
step-modify-requires t c =
    (omega arith, (c.requires.0, bodily-of c.args.list.now c.args.at c.args.r refl (bodies-inside c.args.r _ c.is_a.ensures c.if-is_a.true) c.requires.1))

pub step-returns-then-is_a-clause-does : goal.step-returns-then-is_a-clause-does
step-returns-then-is_a-clause-does t c =
    let a = c.args in
    let fs = runners (a.at + 1) (forest a.list.now (a.at + 1) (a.at + 1 + a.r.inside)) in
    step-bodies a.at a.r fs refl (bodies-inside a.r _ c.is_a.ensures c.if-is_a.true) c.modify.ensures.does

pub step-returns-clause-does : goal.step-returns-clause-does
step-returns-clause-does t c =
    let a = c.args in
    let fs = runners (a.at + 1) (forest a.list.now (a.at + 1) (a.at + 1 + a.r.inside)) in
    step-leaf a.at a.r fs refl (nothing-else a.r _ c.is_a.ensures c.if-is_a.false c.requires.2) c.read_leaf.ensures.does

-- ---- modify

pub modify-refuse-requires : goal.modify-refuse-requires
modify-refuse-requires t c = rw (c.cells.ensures, c.sizes.ensures) (halt-asks c.requires.0)

pub modify-returns-in-Refused-clause-does : goal.modify-returns-in-Refused-clause-does
modify-returns-in-Refused-clause-does t c =
    let a = c.args in
    halt-does {F = modified a.list.now a.at a.r} (rw (c.cells.ensures, c.sizes.ensures) at c.refuse.ensures) c.in-Refused.ensures

-- ---- with_bodies

pub with_bodies-around-requires : goal.with_bodies-around-requires
with_bodies-around-requires t c =
    let follows = c.plan_of-p.ensures _ c.requires.1 in (
      omega (arith, follows.first.low, follows.then.low),
      (
        plan-round follows c.in-Held.ensures.begins c.requires.0,
        record { first = keeps follows.first; then = keeps follows.then; first_one = follows.first_one; then_one = follows.then_one },
      ),
    )

pub with_bodies-returns-in-Halted-clause-does : goal.with_bodies-returns-in-Halted-clause-does
with_bodies-returns-in-Halted-clause-does t c = plan-stop (c.plan_of-p.ensures _ c.requires.1) c.in-Halted.ensures.begins

pub with_bodies-returns-in-Held-clause-does : goal.with_bodies-returns-in-Held-clause-does
with_bodies-returns-in-Held-clause-does t c = plan-end (c.plan_of-p.ensures _ c.requires.1) c.in-Held.ensures.begins c.around.ensures.rounds

-- ---- around

pub around-returns-in-Stopped-clause-rounds : goal.around-returns-in-Stopped-clause-rounds
around-returns-in-Stopped-clause-rounds t c = round-stop c.args.list.now c.args.p c.requires.0 c.in-Stopped.ensures.does

pub around-put_back-back-requires : goal.around-put_back-back-requires
around-put_back-back-requires t c =
    let held = round-held c.args.list.now c.args.p c.requires.0 c.in-Went.ensures.does in
    (round-ready c.args.list.now c.args.p c.requires.0 c.in-Went.ensures.does, held.0, held.1)

pub around-walk-requires : goal.around-walk-requires
around-walk-requires t c = (
  omega arith,
  (
    round-back c.args.list.now c.args.p c.requires.0 c.in-Went.ensures.does c.put_back-back.ensures.puts_back,
    (true, c.requires.1.then, λ e. c.requires.1.then_one),
  ),
)

pub around-returns-in-Went-clause-rounds : goal.around-returns-in-Went-clause-rounds
around-returns-in-Went-clause-rounds t c = round-end c.args.list.now c.args.p c.requires.0 c.in-Went.ensures.does c.put_back-back.ensures.puts_back c.walk.ensures.does

-- ---- fork

pub fork-overflow_sub-v : goal.fork-overflow_sub-v
fork-overflow_sub-v t c = began-few c.requires.0 c.in-Held.ensures.begins

pub fork-fork_each-requires : goal.fork-fork_each-requires
fork-fork_each-requires t c =
    let a = c.args in
    let many =
    fork-many a.list.now a.at a.r c.most_args-k.result c.requires.2 c.most_args-k.ensures c.in-Held.ensures.begins c.requires.0 in
    (omega arith, (many.0, c.requires.1, many.1))

pub fork-returns-in-Halted-clause-does : goal.fork-returns-in-Halted-clause-does
fork-returns-in-Halted-clause-does t c =
    let a = c.args in
    fork-stop a.list.now a.at a.r c.most_args-k.result c.requires.2 c.most_args-k.ensures c.in-Halted.ensures.begins

pub fork-returns-in-Held-clause-does : goal.fork-returns-in-Held-clause-does
fork-returns-in-Held-clause-does t c =
    let a = c.args in
    fork-end a.list.now a.at a.r c.most_args-k.result c.requires.2 c.most_args-k.ensures c.in-Held.ensures.begins c.requires.0 c.fork_each.ensures.forks

-- ---- fork_each

pub fork_each-loop-i-init : goal.fork_each-loop-i-init
fork_each-loop-i-init t c = record {
  few = omega (arith, c.count_nodes-n.ensures);
  forking = forking-begin c.args.list.now c.args.at (c.args.at + 1) c.args.to _ c.requires.1 c.count_nodes-n.ensures;
  same = refl;
}

pub fork_each-record_at-r-requires : goal.fork_each-record_at-r-requires
fork_each-record_at-r-requires t c = omega (arith, turn-room c.requires.1 (omega arith) c.loop-i.invariant.few c.place_of-b.ensures)

pub fork_each-lend_deepest-lent-requires : goal.fork_each-lend_deepest-lent-requires
fork_each-lend_deepest-lent-requires t c =
    let w = forking-ready c.args.list.now c.args.at (c.args.at + 1) c.args.to _ c.requires.1 c.requires.0 c.requires.2 c.loop-i.invariant.forking in
    (w.0, w.1.space, w.1.held)

pub fork_each-returns-in_default-clause-forks : goal.fork_each-returns-in_default-clause-forks
fork_each-returns-in_default-clause-forks t c =
    let l = c.loop-i.invariant in
    turn-lend-stop c.requires.1 (omega arith) l.few l.forking c.place_of-b.ensures c.record_at-r.ensures.0 c.wide.ensures c.requires.2 c.lend_deepest-lent.ensures.stacked c.in_default.is

pub fork_each-overflow_add-b : goal.fork_each-overflow_add-b
fork_each-overflow_add-b t c = omega (arith, c.requires.1.few, turn-room c.requires.1 (omega arith) c.loop-i.invariant.few c.place_of-b.ensures)

pub fork_each-overflow_add-b-in-loop-i : goal.fork_each-overflow_add-b-in-loop-i
fork_each-overflow_add-b-in-loop-i t c =
    let l = c.loop-i.invariant in
    omega (arith, (turn_body c.requires.1 (omega arith) l.few l.forking c.place_of-b.ensures c.record_at-r.ensures.0 c.wide.ensures).few)

pub fork_each-walk-ran-requires : goal.fork_each-walk-ran-requires
fork_each-walk-ran-requires t c =
    let l = c.loop-i.invariant in
    let body = turn_body c.requires.1 (omega arith) l.few l.forking c.place_of-b.ensures c.record_at-r.ensures.0 c.wide.ensures in (
      omega (arith, body.low),
      (
        turn-ready c.requires.1 (omega arith) l.few l.forking c.place_of-b.ensures c.record_at-r.ensures.0 c.wide.ensures c.requires.2 c.lend_deepest-lent.ensures.stacked c.in-Went.is c.requires.0,
        (true, keeps body, λ e k. ap (λ (x : Record). c.place_of-b.result + 1 + x.inside) (sym c.record_at-r.ensures.0)),
      ),
    )

pub fork_each-returns-in_default-ran-clause-forks : goal.fork_each-returns-in_default-ran-clause-forks
fork_each-returns-in_default-ran-clause-forks t c =
    let l = c.loop-i.invariant in
    turn-walk-stop c.requires.1 (omega arith) l.few l.forking c.place_of-b.ensures c.record_at-r.ensures.0 c.wide.ensures c.requires.2 c.lend_deepest-lent.ensures.stacked
    c.in-Went.is c.walk-ran.ensures.does c.in_default-ran.is

pub fork_each-loop-i-preserved : goal.fork_each-loop-i-preserved
fork_each-loop-i-preserved t c =
    let l = c.loop-i.invariant in
    record {
      few = omega (arith, l.few);
      forking =
          turn-next c.requires.1 (omega arith) l.few l.forking c.place_of-b.ensures c.record_at-r.ensures.0 c.wide.ensures c.requires.2 c.lend_deepest-lent.ensures.stacked
          c.in-Went.is c.walk-ran.ensures.does c.in-Went-ran.is;
      same = search rules;
    }

pub fork_each-returns-clause-forks : goal.fork_each-returns-clause-forks
fork_each-returns-clause-forks t c = forking-done c.args.list.now c.args.at (c.args.at + 1) c.args.to _ c.requires.1 (omega arith) c.loop-i.invariant.forking
