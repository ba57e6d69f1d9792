-- `write_sum` and `write_turn` meet their contracts, by the loop's lemmas in Turning.
use Rattle.std.proofs.Common.{◌+◌, ◌*◌, arith, sym, ◌∙◌, refl}
use Rattle.std.proofs.lemmas.Result.{err_from_is_err_and}
use Rattle.writing.specs.Contract.Turns.{on_list}
use Rattle.writing.proofs.draft.Growing.{ready-less, ready-drawn, ready-spoken}
use Rattle.writing.proofs.Turning.{outset, left-stop, left-more, left_end, held-readable, held-finite, held-deep, held-turn, held-close, turn-stop, turn_more}
use Rattle.writing.proofs.+write_sum_write_term_write_turn.Goals as goal

-- ---- write_sum

pub write_sum-loop-q-init : goal.write_sum-loop-q-init
write_sum-loop-q-init t c s l = outset l

pub write_sum-load-x-requires : goal.write_sum-load-x-requires
write_sum-load-x-requires t c = held-readable c.args.m c.requires.0 c.loop-q.invariant c.loop-q-test.true

pub write_sum-overflow_sub-left : goal.write_sum-overflow_sub-left
write_sum-overflow_sub-left t c = held-deep c.args.m c.requires.0 c.loop-q.invariant c.loop-q-test.true c.load-x.result c.load-x.ensures

pub write_sum-write_turn-requires : goal.write_sum-write_turn-requires
write_sum-write_turn-requires t c =
    let m = c.args.m in
    let x = c.load-x.result in
    let deep = held-deep m c.requires.0 c.loop-q.invariant c.loop-q-test.true x c.load-x.ensures in
    let ready = ready-less {f' = 2 * m} {r' = 9 * m + 2 + 0} c.requires.1 (omega arith) (omega arith) in
    let asks = held-turn m c.requires.0 c.loop-q.invariant c.loop-q-test.true x c.load-x.ensures 0 (9 * x.inside + 9) ready (omega arith) in
    (omega arith, (asks.0, asks.1, held-finite m c.requires.0 c.loop-q.invariant c.loop-q-test.true x c.load-x.ensures))

pub write_sum-returns-in_err-draft : goal.write_sum-returns-in_err-draft
write_sum-returns-in_err-draft t c s l =
    let p = err_from_is_err_and c.from_residual.result c.from_residual.ensures.1 in
    rw (p.1, p.2) (left-stop c.args.m (c.loop-q.invariant s l) c.load-x.result c.load-x.ensures c.loop-q-test.true c.write_turn.ensures _ c.in_err-draft.was)

pub write_sum-meets_x-identity-requires : goal.write_sum-meets_x-identity-requires
write_sum-meets_x-identity-requires t c = held-finite c.args.m c.requires.0 c.loop-q.invariant c.loop-q-test.true c.load-x.result c.load-x.ensures

pub write_sum-loop-q-preserved : goal.write_sum-loop-q-preserved
write_sum-loop-q-preserved t c s l =
    left-more c.args.m (c.loop-q.invariant s l) c.load-x.result c.load-x.ensures c.loop-q-test.true c.write_turn.ensures c.in_ok-draft.was c.meets_x-identity.ensures

pub write_sum-close-requires : goal.write_sum-close-requires
write_sum-close-requires t c = held-close c.args.m c.requires.0 c.loop-q.invariant c.loop-q-test.false c.requires.1

pub write_sum-returns : goal.write_sum-returns
write_sum-returns t c s l = left_end c.args.m (c.loop-q.invariant s l) c.loop-q-test.false c.close.ensures

-- ---- write_turn

pub write_turn-returns-in_err-f : goal.write_turn-returns-in_err-f
write_turn-returns-in_err-f t c s l =
    let p = err_from_is_err_and c.from_residual.result c.from_residual.ensures.1 in
    rw (p.1, p.2)
    (turn-stop c.args.x c.args.complex (on_list c.args.complex s) (9 * c.args.x.inside) c.args.identity (sym c.is_zero.ensures ∙ c.if-is_zero.false) refl c.before-e.ensures
    (c.write_term.ensures s l) _ c.in_err-f.was)

pub write_turn-finish-requires : goal.write_turn-finish-requires
write_turn-finish-requires t c =
    let h = c.requires.0 in
    let n = c.args.x.inside in
    ready-spoken (ready-drawn c.requires.1 c.before-e.ensures (2 * n) (9 * n + 8) (omega arith) (omega arith)) (c.write_term.ensures h.0 h.1) c.in_ok-f.was 0 3 (omega arith) (omega arith)

pub write_turn-returns : goal.write_turn-returns
write_turn-returns t c s l =
    turn_more c.args.x c.args.complex (on_list c.args.complex s) (9 * c.args.x.inside) c.args.identity (sym c.is_zero.ensures ∙ c.if-is_zero.false) refl c.before-e.ensures (c.write_term.ensures s l)
    c.in_ok-f.was c.finish.ensures
