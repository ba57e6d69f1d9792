-- Each power is read, and its product with x is put into the sum of powers that grows apart from it.
use Rattle.std.proofs.Common.{◌≡◌, ℕ, ◌+◌, ◌<◌, true, refl, subst, arith, rules}
use Rattle.std.proofs.lemmas.Result.{err_from_is_err_and}
use Rattle.numbers.specs.Ops.{◌⊕◌}
use Rattle.numbers.specs.declared.complex.Complex.{Complex}
use Rattle.cells.specs.Contract.Book.{seen}
use Rattle.cells.proofs.Laws.{kept_trans, room-same}
use Rattle.sums.specs.declared.tree.Merge.TheVariants.{Add}
use Rattle.sums.specs.Tree.Kinds.{X}
use Rattle.sums.specs.Tree.Sums.{Sum, none, entry}
use Rattle.sums.specs.Tree.Map.{formed}
use Rattle.sums.specs.Contract.Lies.{Lies, Agrees}
use Rattle.sums.proofs.order.Walk.{next-at}
use Rattle.arithmetic.specs.Multiply.Contract.Rows.{power_into}
use Rattle.arithmetic.proofs.add.Lying.{Clear, clear, clear-part}
use Rattle.arithmetic.proofs.add.Folding.{Folding, any, here, onward, stopped, ended}
use Rattle.arithmetic.proofs.multiply.Rows.{power-read, power-cell, end_known, put_only}
use Rattle.arithmetic.proofs.multiply.power_row.Goals as goal
use Rattle.arithmetic.proofs.multiply.power_row.Goals.{After-put_below}

-- what the call answered
put : (c : After-put_below) (u : Sum) → Lies (seen c.loop-q.book) c.args.p (c.args.p + c.loop-q.len) 4 u
    → Agrees c.put_below.result (seen c.put_below.new.book) c.args.p (power_into c.args.x c.load-y.result none u)
put c u lu =
    let num = c.args.x.num ⊕ c.load-y.result.num in
    subst (λ (d : Complex). Agrees c.put_below.result (seen c.put_below.new.book) c.args.p (formed Add (entry X 0 num d) none u)) c.mul-v.ensures (c.put_below.ensures.of_one_2 u lu)

pub load-y-requires : goal.load-y-requires
load-y-requires c =
    let w = c.loop-q.invariant.rest _ _ c.requires.1.growing.held.1 c.requires.0.operand.held.1 in
    let n = next-at _ _ _ _ w.v' w.lies-v (omega arith) in
    (n.readable, n.first.plain)

pub put_below-requires-clause-n_le_sum_entries : goal.put_below-requires-clause-n_le_sum_entries
put_below-requires-clause-n_le_sum_entries c =
    let w = c.loop-q.invariant.rest _ _ c.requires.1.growing.held.1 c.requires.0.operand.held.1 in
    (c.loop-q.invariant.few, room-same c.loop-q.invariant.kept.long c.requires.1.growing.room, (w.s', w.lies-s))

pub put_below-requires-clause-of_one : goal.put_below-requires-clause-of_one
put_below-requires-clause-of_one c = end_known {b = seen c.loop-q.book} c.args.p c.loop-q.len c.loop-q.invariant.only

pub returns-in_err-len-clause-of_two : goal.returns-in_err-len-clause-of_two
returns-in_err-len-clause-of_two c s v ls lv =
    let below : c.loop-q.q < c.args.j + c.args.m = omega arith in
    let told = put (goal.at.returns-in_err-len-clause-of_two c).After-put_below in
    let p = err_from_is_err_and c.from_residual.result c.from_residual.ensures.1 in
    rw (p.1, p.2)
    (stopped (power_into c.args.x) any (λ k i. true) (λ k p i c u. refl) (seen c.loop-q.book) (seen c.put_below.new.book) c.args.p c.loop-q.len c.loop-q.q (c.args.j + c.args.m) 4 s v
    c.load-y.result c.put_below.result (c.loop-q.invariant.rest s v ls lv) c.load-y.ensures below (λ i u li lu. told u lu) _ (seen c.put_below.new.book) c.in_err-len.was)

pub loop-q-preserved : goal.loop-q-preserved
loop-q-preserved c =
    let x = c.args.x in
    let y = c.load-y.result in
    let before = seen c.args.book.now in
    let now = seen c.loop-q.book in
    let after = seen c.put_below.new.book in
    let e = c.args.j + c.args.m in
    let w = c.loop-q.invariant.rest _ _ c.requires.1.growing.held.1 c.requires.0.operand.held.1 in
    let below : c.loop-q.q < c.args.j + c.args.m = omega arith in
    let power = power-read before now c.loop-q.q y c.loop-q.invariant.kept c.requires.0.operand.apart c.requires.0.only c.load-y.ensures c.loop-q.auto.q below in
    let one = power-cell (here y w c.load-y.ensures below) power in
    let next : c.loop-q.q + 1 + c.load-y.result.inside ≡ c.loop-q.q + 1 = omega arith in
    let apart : Clear c.loop-q.q (c.args.j + c.args.m) c.args.p (c.args.p + 64) = clear-part c.loop-q.auto.q (omega arith) (clear c.requires.0.operand.apart) in
    let told = put (goal.at.loop-q-preserved c).After-put_below in
    let on = λ (s v : Sum) (ls : Lies (seen c.args.book.now) c.args.p (c.args.p + c.args.n) 4 s) (lv : Lies (seen c.args.book.now) c.args.j (c.args.j + c.args.m) 4 v).
    onward (power_into x) any (λ k i. true) (λ k p i c u. refl) now after c.args.p c.loop-q.len c.loop-q.q e 4 s v y c.put_below.result
    (c.loop-q.invariant.rest s v ls lv) c.load-y.ensures below (λ i u li lu. told u lu) c.in_ok-len.len c.put_below.ensures.kept apart c.in_ok-len.was in
    record {
      kept = kept_trans c.loop-q.invariant.kept c.put_below.ensures.kept;
      few = (on _ _ c.requires.1.growing.held.1 c.requires.0.operand.held.1).0;
      only =
          put_only c.args.p c.loop-q.len (x.num ⊕ y.num) _ after c.put_below.result c.in_ok-len.len (w.s', w.lies-s) c.loop-q.invariant.only told c.in_ok-len.was;
      rest = λ s v ls lv. subst (λ (q : ℕ). Folding (power_into c.args.x) any (seen c.put_below.new.book) c.args.p c.in_ok-len.len q (c.args.j + c.args.m) 4 s v) next (on s v ls lv).1;
      same = search rules;
    }

pub returns-clause-of_two : goal.returns-clause-of_two
returns-clause-of_two c s v ls lv =
    ended (power_into c.args.x) any (seen c.loop-q.book) c.args.p c.loop-q.len c.loop-q.q (c.args.j + c.args.m) 4 s v (c.loop-q.invariant.rest s v ls lv) c.loop-q.invariant.few
    (omega arith)
