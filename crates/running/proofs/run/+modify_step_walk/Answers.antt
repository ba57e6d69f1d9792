-- The runner's cycle of calls. Assumes nothing.
use mathlib.Core.Path.{◌≡◌, refl, sym, ap, ◌∙◌}
use Prim.Native.Nat.{ℕ, ◌+◌, ◌-◌, ◌<◌}
use native.Mathlib.Omega.{arith}
use borrow.Author.Tests.{eq-eqb, ne_eqb}
use lib.ListN.{length}
use Rattle.std.proofs.lemmas.Result.{err_from_is_err_and}
use Rattle.formats.specs.Tree.{forest}
use Rattle.running.specs.Running.{and_then, give_back, runs}
use Rattle.running.specs.Contract.Views.{stack_of, view_state}
use Rattle.running.proofs.Laws.{acts-plain, modifier-kind, act-within}
use Rattle.running.proofs.Walks.{runs_none, acted, one-refused, one-runs, one-modifies, other-modifier, not-one-body, then_back, on-nothing, on-held, on-begun, back-stack, after-refused, after-done, room-done, next-in, values-in, ready-one, ready-next, turn, plain-next, body-levels, ready-body}
use Rattle.running.proofs.run.+modify_step_walk.Goals as goal

pub modify-returns-then-r-modifier_no-clause-result_after : goal.modify-returns-then-r-modifier_no-clause-result_after
modify-returns-then-r-modifier_no-clause-result_after t c =
    let a = c.args in
    sym (other-modifier a.r (forest a.list.now (a.at + 1) (a.at + 1 + a.r.inside)) a.at a.held (view_state a.stack.now a.st) (ne_eqb _ _ (λ e. c.if-r-modifier_no.true (e ∙ sym c.modifier_no.ensures))))

pub modify-returns-then-count_nodes-ne1-clause-result_after : goal.modify-returns-then-count_nodes-ne1-clause-result_after
modify-returns-then-count_nodes-ne1-clause-result_after t c =
    let a = c.args in
    sym (not-one-body a.r (forest a.list.now (a.at + 1) (a.at + 1 + a.r.inside)) a.at a.held (view_state a.stack.now a.st) (eq-eqb _ _ (c.if-r-modifier_no.false ∙ c.modifier_no.ensures))
    (ne_eqb _ _ (λ e. c.if-count_nodes-ne1.true (c.count_nodes.ensures ∙ e))))

pub modify-returns-then-n-eq0-clause-result_after : goal.modify-returns-then-n-eq0-clause-result_after
modify-returns-then-n-eq0-clause-result_after t c =
    let a = c.args in
    sym (on-nothing a.r (forest a.list.now (a.at + 1) (a.at + 1 + a.r.inside)) a.at a.held a.st a.stack.now (eq-eqb _ _ (c.if-r-modifier_no.false ∙ c.modifier_no.ensures))
    (eq-eqb _ _ (sym c.count_nodes.ensures ∙ c.if-count_nodes-ne1.false)) c.if-n-eq0.true)

pub modify-returns-in_err-begun-clause-result_after : goal.modify-returns-in_err-begun-clause-result_after
modify-returns-in_err-begun-clause-result_after t c =
    let a = c.args in
    let xs = a.stack.now in
    let f = c.settled in
    let p = err_from_is_err_and c.from_residual.result c.from_residual.ensures.1 in
    let e = on-held a.r (forest a.list.now (a.at + 1) (a.at + 1 + a.r.inside)) a.at a.held a.st xs (eq-eqb _ _ (c.if-r-modifier_no.false ∙ c.modifier_no.ensures))
    (eq-eqb _ _ (sym c.count_nodes.ensures ∙ c.if-count_nodes-ne1.false)) (omega (arith, c.if-n-eq0.false)) f.result (f.ensures.result_value xs) in
    rw (p.1, p.2) (sym (e ∙ after-refused xs f.result (then_back a.held a.at (forest a.list.now (a.at + 1) (a.at + 1 + a.r.inside)) (stack_of xs a.st.n)) c.in_err-begun.was))

pub modify-overflow_sub-left : goal.modify-overflow_sub-left
modify-overflow_sub-left t c =
    let y = c.requires.0 in
    omega (arith, (body-levels y c.requires.1 (sym c.count_nodes.ensures ∙ c.if-count_nodes-ne1.false)).0)

pub modify-walk-requires : goal.modify-walk-requires
modify-walk-requires t c =
    let a = c.args in
    let y = c.requires.0 in
    let f = c.settled in
    let i = room-done (a.held + 1) (a.st.steps + 1) f.result c.in_ok-begun.was f.ensures.room in
    let one = sym c.count_nodes.ensures ∙ c.if-count_nodes-ne1.false in
    (omega (arith, c.decreases, (body-levels y c.requires.1 one).0), ready-body y c.requires.1 one _ (i.0, omega (arith, i.1), omega (arith, i.2)))

pub modify-returns-in_err-then-clause-result_after : goal.modify-returns-in_err-then-clause-result_after
modify-returns-in_err-then-clause-result_after t c =
    let a = c.args in
    let y = c.requires.0 in
    let f = c.settled in
    let w = c.walk in
    let xs = a.stack.now in
    let b = stack_of xs a.st.n in
    let p = err_from_is_err_and c.from_residual-in_err-then.result c.from_residual-in_err-then.ensures.1 in
    let on = eq-eqb _ _ (c.if-r-modifier_no.false ∙ c.modifier_no.ensures) in
    let one = sym c.count_nodes.ensures ∙ c.if-count_nodes-ne1.false in
    let e = on-begun y c.requires.1 one on (omega (arith, c.if-n-eq0.false)) f.result (f.ensures.result_value xs) c.in_ok-begun.was in
    rw (p.1, p.2) (sym (e ∙ ap (λ z. and_then z (give_back b)) (sym w.ensures.result_after) ∙ after-refused w.new.stack w.result (give_back b) c.in_err-then.was))

pub modify-returns-clause-result_after : goal.modify-returns-clause-result_after
modify-returns-clause-result_after t c =
    let a = c.args in
    let y = c.requires.0 in
    let f = c.settled in
    let w = c.walk in
    let one = sym c.count_nodes.ensures ∙ c.if-count_nodes-ne1.false in
    let i = room-done (a.held + 1) (a.st.steps + 1) f.result c.in_ok-begun.was f.ensures.room in
    let m = room-done (a.held + 1) (c.in_ok-begun.begun.steps + 1 + (a.at + 1 + a.r.inside - (a.at + 2))) w.result c.in_ok-then.was w.ensures.room in
    let u = (body-levels y c.requires.1 one).1 in
    let xs = a.stack.now in
    let b = stack_of xs a.st.n in
    let ys = w.new.stack in
    let on = eq-eqb _ _ (c.if-r-modifier_no.false ∙ c.modifier_no.ensures) in
    let e = on-begun y c.requires.1 one on (omega (arith, c.if-n-eq0.false)) f.result (f.ensures.result_value xs) c.in_ok-begun.was in
    let k : c.in_ok-then.then.n < length ys = omega (arith, m.0, m.1, m.2, i.2, w.auto.stack, y.values, y.steps) in
    sym (e ∙ ap (λ z. and_then z (give_back b)) (sym w.ensures.result_after) ∙ after-done ys w.result (give_back b) c.in_ok-then.was
    ∙ back-stack xs a.st.n (omega (arith, c.if-n-eq0.false)) ys c.in_ok-then.then k)

pub modify-returns-clause-room : goal.modify-returns-clause-room
modify-returns-clause-room t c =
    let a = c.args in
    let y = c.requires.0 in
    let f = c.settled in
    let w = c.walk in
    let one = sym c.count_nodes.ensures ∙ c.if-count_nodes-ne1.false in
    let i = room-done (a.held + 1) (a.st.steps + 1) f.result c.in_ok-begun.was f.ensures.room in
    let m = room-done (a.held + 1) (c.in_ok-begun.begun.steps + 1 + (a.at + 1 + a.r.inside - (a.at + 2))) w.result c.in_ok-then.was w.ensures.room in
    let u = (body-levels y c.requires.1 one).1 in
    (omega (arith, m.0), omega (arith, m.1), omega (arith, m.2, i.2))

pub step-unreachable-requires : goal.step-unreachable-requires
step-unreachable-requires t c = acts-plain c.args.r.kind c.requires.1 _ (sym (rw c.in-Ok-Acts.field-0-is at c.in-Ok-Acts.ensures))

pub step-modify-requires : goal.step-modify-requires
step-modify-requires t c = (omega (arith, c.decreases), (c.requires.0, modifier-kind c.args.r.kind (sym (rw c.in-Ok-Modifies.field-0-is at c.in-Ok-Modifies.ensures))))

pub step-returns-in-Err-clause-result_after : goal.step-returns-in-Err-clause-result_after
step-returns-in-Err-clause-result_after t c =
    let a = c.args in
    sym (one-refused a.r (forest a.list.now (a.at + 1) (a.at + 1 + a.r.inside)) a.at a.held (view_state a.stack.now a.st) (sym c.way_of.ensures ∙ c.in-Err.is))

pub step-returns-in-Ok-Runs-clause-result_after : goal.step-returns-in-Ok-Runs-clause-result_after
step-returns-in-Ok-Runs-clause-result_after t c =
    let a = c.args in
    c.walk.ensures.result_after ∙ sym (one-runs a.r (forest a.list.now (a.at + 1) (a.at + 1 + a.r.inside)) a.at a.held (view_state a.stack.now a.st) (sym (rw c.in-Ok-Runs.field-0-is at c.in-Ok-Runs.ensures)))

pub step-returns-in-Ok-Modifies-clause-result_after : goal.step-returns-in-Ok-Modifies-clause-result_after
step-returns-in-Ok-Modifies-clause-result_after t c =
    let a = c.args in
    c.modify.ensures.result_after
    ∙ sym (one-modifies a.r (forest a.list.now (a.at + 1) (a.at + 1 + a.r.inside)) a.at a.held (view_state a.stack.now a.st) (sym (rw c.in-Ok-Modifies.field-0-is at c.in-Ok-Modifies.ensures)))

pub walk-settled-requires : goal.walk-settled-requires
walk-settled-requires t c =
    let o = c.act-did in
    let r = c.record_at-r in
    let l = c.loop-at in
    let h : ℕ = c.args.held in (
      act-within c.deed_of.result r.result l.stack o.new.stack l.cur.n h (l.cur.steps + 2) o.result o.ensures.result_after (omega (arith, l.invariant.ready.adds)),
      (values-in l.invariant.ready (omega arith) r.ensures.0).1,
    )

pub walk-returns-in_err-cur-clause-result_after : goal.walk-returns-in_err-cur-clause-result_after
walk-returns-in_err-cur-clause-result_after t c =
    let a = c.args in
    let l = c.loop-at in
    let y = l.invariant.ready in
    let r = c.record_at-r in
    let h : l.at < a.to = omega arith in
    let z = plain-next y h r.ensures.0 (sym c.is_plain.ensures ∙ c.if-is_plain.true) in
    let d = c.deed_of in
    let o = c.act-did in
    let s = c.settled in
    let ys = o.new.stack in
    let f = runs (forest a.list.now (l.at + 1) a.to) (l.at + 1) a.held in
    let ns = forest a.list.now (l.at + 1) (l.at + 1 + r.result.inside) in
    let e = l.invariant.same ∙ turn y h r.ensures.0 (l.at + 1) z ys s.result
    (acted r.result ns l.at a.held l.cur l.stack ys d.result d.ensures o.result o.ensures.result_after s.result (s.ensures.result_value ys)) in
    let p = err_from_is_err_and c.from_residual.result c.from_residual.ensures.1 in
    rw (p.1, p.2) (sym (e ∙ after-refused ys s.result f c.in_err-cur.was))

pub walk-loop-at-preserved-then-is_plain : goal.walk-loop-at-preserved-then-is_plain
walk-loop-at-preserved-then-is_plain t c =
    let a = c.args in
    let l = c.loop-at in
    let y = l.invariant.ready in
    let r = c.record_at-r in
    let h : l.at < a.to = omega arith in
    let z = plain-next y h r.ensures.0 (sym c.is_plain.ensures ∙ c.if-is_plain.true) in
    let d = c.deed_of in
    let o = c.act-did in
    let s = c.settled in
    let ys = o.new.stack in
    let f = runs (forest a.list.now (l.at + 1) a.to) (l.at + 1) a.held in
    let ns = forest a.list.now (l.at + 1) (l.at + 1 + r.result.inside) in
    let e = l.invariant.same ∙ turn y h r.ensures.0 (l.at + 1) z ys s.result
    (acted r.result ns l.at a.held l.cur l.stack ys d.result d.ensures o.result o.ensures.result_after s.result (s.ensures.result_value ys)) in
    let m = room-done a.held (l.cur.steps + 1) s.result c.in_ok-cur.was s.ensures.room in
    record {
      ready = ready-next y h r.ensures.0 (l.at + 1) z ys o.auto.stack c.in_ok-cur.cur (m.0, m.1, omega (arith, m.2));
      same = e ∙ after-done ys s.result f c.in_ok-cur.was;
      few = omega (arith, m.2, l.invariant.few);
    }

pub walk-step-requires : goal.walk-step-requires
walk-step-requires t c =
    let l = c.loop-at in
    let r = c.record_at-r in
    let p = sym c.is_plain.ensures ∙ c.if-is_plain.false in
    (omega (arith, c.decreases), (ready-one l.invariant.ready (omega arith) r.ensures.0, p))

pub walk-returns-in_err-cur-2-clause-result_after : goal.walk-returns-in_err-cur-2-clause-result_after
walk-returns-in_err-cur-2-clause-result_after t c =
    let a = c.args in
    let l = c.loop-at in
    let y = l.invariant.ready in
    let r = c.record_at-r in
    let h : l.at < a.to = omega arith in
    let o = c.step in
    let ys = o.new.stack in
    let x : ℕ = l.at + 1 + r.result.inside in
    let f = runs (forest a.list.now x a.to) x a.held in
    let e = l.invariant.same ∙ turn y h r.ensures.0 x refl ys o.result o.ensures.result_after in
    let p = err_from_is_err_and c.from_residual-in_err-cur-2.result c.from_residual-in_err-cur-2.ensures.1 in
    rw (p.1, p.2) (sym (e ∙ after-refused ys o.result f c.in_err-cur-2.was))

pub walk-loop-at-preserved : goal.walk-loop-at-preserved
walk-loop-at-preserved t c =
    let a = c.args in
    let l = c.loop-at in
    let y = l.invariant.ready in
    let r = c.record_at-r in
    let h : l.at < a.to = omega arith in
    let o = c.step in
    let ys = o.new.stack in
    let x : ℕ = l.at + 1 + r.result.inside in
    let f = runs (forest a.list.now x a.to) x a.held in
    let e = l.invariant.same ∙ turn y h r.ensures.0 x refl ys o.result o.ensures.result_after in
    let m = room-done a.held (l.cur.steps + 1 + r.result.inside) o.result c.in_ok-cur-2.was o.ensures.room in
    let q : l.at + (1 + r.result.inside) ≡ x = omega arith in
    rw q
    record {
      ready = ready-next y h r.ensures.0 x refl ys o.auto.stack c.in_ok-cur-2.cur m;
      same = e ∙ after-done ys o.result f c.in_ok-cur-2.was;
      few = omega (arith, m.2, next-in y h r.ensures.0, l.invariant.few);
    }

pub walk-returns-clause-result_after : goal.walk-returns-clause-result_after
walk-returns-clause-result_after t c =
    let l = c.loop-at in
    let a = c.args in
    sym (l.invariant.same ∙ runs_none a.list.now l.at a.to l.at a.held (view_state l.stack l.cur) (omega arith))
