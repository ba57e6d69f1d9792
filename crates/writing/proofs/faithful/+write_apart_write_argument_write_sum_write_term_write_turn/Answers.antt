-- `write_apart`, `write_argument`, `write_sum` and `write_turn` meet their contracts: the loop by the lemmas in Turning, and an argument that is written apart by those in faithful::Apart.
use Rattle.std.proofs.Common.{◌+◌, ◌-◌, ◌*◌, length, false, arith, sym, ◌∙◌, refl}
use Rattle.std.proofs.lemmas.Result.{err_from_is_err_and}
use Rattle.formats.specs.Tree.{end}
use Rattle.writing.specs.Contract.Room.{argument_front}
use Rattle.writing.specs.Contract.Turns.{apart}
use Rattle.writing.specs.Faithful.{write_faithful}
use Rattle.writing.proofs.draft.Growing.{ready-fresh, ready-less, ready-drawn, ready-spoken}
use Rattle.writing.proofs.faithful.Apart.{held-within, front-stop, front-done, argument-done, long-back}
use Rattle.writing.proofs.Turning.{outset, left-stop, left-more, left_end, held-readable, held-finite, held-deep, held-few, held-turn, held-close, turn_more}
use borrow.Rule.Slice.PartMut.{post_of}
use Rattle.writing.proofs.faithful.+write_apart_write_argument_write_sum_write_term_write_turn.Goals as goal

-- ---- write_apart

pub write_apart-write_sum-requires : goal.write_apart-write_sum-requires
write_apart-write_sum-requires t c =
    let r = c.requires.1 in
    (omega arith, (c.requires.0, ready-fresh 128 (omega (arith, r.few)) r.after r.most, r.few))

pub write_apart-returns-in_err-f : goal.write_apart-returns-in_err-f
write_apart-returns-in_err-f t c s l =
    let p = err_from_is_err_and c.from_residual.result c.from_residual.ensures.1 in
    rw (p.1, p.2) (front-stop c.args.n c.args.complex s (omega (arith, l.ends)) (omega (arith, c.requires.1.after)) (c.write_sum.ensures s l) _ c.in_err-f.was)

pub write_apart-overflow_sub-m : goal.write_apart-overflow_sub-m
write_apart-overflow_sub-m t c = (held-within c.args.n c.args.complex c.requires.1 c.requires.0 c.write_sum.ensures c.in_ok-f.was).0

pub write_apart-overflow_mul-f : goal.write_apart-overflow_mul-f
write_apart-overflow_mul-f t c = let w = held-within c.args.n c.args.complex c.requires.1 c.requires.0 c.write_sum.ensures c.in_ok-f.was in omega (arith, c.requires.1.few)

pub write_apart-bring_down-requires : goal.write_apart-bring_down-requires
write_apart-bring_down-requires t c = let w = held-within c.args.n c.args.complex c.requires.1 c.requires.0 c.write_sum.ensures c.in_ok-f.was in omega arith

pub write_apart-returns : goal.write_apart-returns
write_apart-returns t c s l =
    let f = c.in_ok-f.f in
    let w = held-within c.args.n c.args.complex c.requires.1 c.requires.0 c.write_sum.ensures c.in_ok-f.was in
    front-done c.args.n c.args.complex s (omega (arith, l.ends)) (omega (arith, c.requires.1.after)) (c.write_sum.ensures s l) f (f.end - f.from) c.in_ok-f.was (omega arith) c.bring_down.ensures

-- ---- write_argument

pub write_argument-returns : goal.write_argument-returns
write_argument-returns t c s l =
    let at = 24 * c.args.d.end in
    argument-done (write_faithful c.args.complex s false end) (c.write_apart.ensures s l)
    (long-back c.args.b.now at (omega (arith, c.requires.1.after)) c.write_apart.new.b (c.write_apart.ensures s l).long)
    c.in_ok-f.f (post_of at (length c.args.b.now - at) c.args.b.now) c.in_ok-f.was refl

-- ---- write_sum

pub write_sum-loop-q-init : goal.write_sum-loop-q-init
write_sum-loop-q-init t c s l = outset l

pub write_sum-load-x-requires : goal.write_sum-load-x-requires
write_sum-load-x-requires t c = held-readable c.args.m c.requires.0 c.loop-q.invariant c.loop-q-test.true

pub write_sum-overflow_sub-left : goal.write_sum-overflow_sub-left
write_sum-overflow_sub-left t c = held-deep c.args.m c.requires.0 c.loop-q.invariant c.loop-q-test.true c.load-x.result c.load-x.ensures

pub write_sum-write_turn-requires : goal.write_sum-write_turn-requires
write_sum-write_turn-requires t c =
    let m = c.args.m in
    let x = c.load-x.result in
    let deep = held-deep m c.requires.0 c.loop-q.invariant c.loop-q-test.true x c.load-x.ensures in
    let few = held-few m c.requires.0 c.loop-q.invariant c.loop-q-test.true x c.load-x.ensures in
    let back = 10 * x.inside + 9 + argument_front * (c.args.left - 1 + 1) in
    let asks = held-turn m c.requires.0 c.loop-q.invariant c.loop-q-test.true x c.load-x.ensures (argument_front * c.args.left) back c.requires.1 (omega arith) in
    (omega arith, (asks.0, asks.1, held-finite m c.requires.0 c.loop-q.invariant c.loop-q-test.true x c.load-x.ensures, omega arith))

pub write_sum-returns-in_err-draft : goal.write_sum-returns-in_err-draft
write_sum-returns-in_err-draft t c s l =
    let p = err_from_is_err_and c.from_residual.result c.from_residual.ensures.1 in
    rw (p.1, p.2) (left-stop c.args.m (c.loop-q.invariant s l) c.load-x.result c.load-x.ensures c.loop-q-test.true c.write_turn.ensures _ c.in_err-draft.was)

pub write_sum-meets_x-identity-requires : goal.write_sum-meets_x-identity-requires
write_sum-meets_x-identity-requires t c = held-finite c.args.m c.requires.0 c.loop-q.invariant c.loop-q-test.true c.load-x.result c.load-x.ensures

pub write_sum-loop-q-preserved : goal.write_sum-loop-q-preserved
write_sum-loop-q-preserved t c s l =
    left-more c.args.m (c.loop-q.invariant s l) c.load-x.result c.load-x.ensures c.loop-q-test.true c.write_turn.ensures c.in_ok-draft.was c.meets_x-identity.ensures

pub write_sum-close-requires : goal.write_sum-close-requires
write_sum-close-requires t c = held-close c.args.m c.requires.0 c.loop-q.invariant c.loop-q-test.false (ready-less c.requires.1 (omega arith) (omega arith))

pub write_sum-returns : goal.write_sum-returns
write_sum-returns t c s l = left_end c.args.m (c.loop-q.invariant s l) c.loop-q-test.false c.close.ensures

-- ---- write_turn

pub write_turn-finish-requires : goal.write_turn-finish-requires
write_turn-finish-requires t c =
    let h = c.requires.0 in
    let n = c.args.x.inside in
    ready-spoken (ready-drawn c.requires.1 c.before-e.ensures (2 * n) (10 * n + 8) (omega arith) (omega arith)) (c.write_term.ensures h.0 h.1) c.in_ok-f.was 0 3 (omega arith) (omega arith)

pub write_turn-returns : goal.write_turn-returns
write_turn-returns t c s l =
    turn_more c.args.x c.args.complex (apart c.args.complex s) (10 * c.args.x.inside) c.args.identity (sym c.is_zero.ensures ∙ c.if-is_zero.false) refl c.before-e.ensures (c.write_term.ensures s l)
    c.in_ok-f.was c.finish.ensures
