-- Each time round there is one level less left. A sum goes row by row, a row pair by pair, and two Div by way of a book of their own for the product of their insides.
use Rattle.std.proofs.Common.{◌+◌, ◌-◌, ◌≤◌, arith, rules}
use Rattle.std.proofs.lemmas.Result.{err_from_is_err_and}
use Rattle.std.proofs.Math.Dec.{lit≤}
use Rattle.numbers.specs.Signs.{zero64}
use Rattle.cells.specs.Contract.Book.{seen}
use Rattle.cells.proofs.Laws.{room-less, room-same, kept_refl, kept_trans}
use Rattle.sums.specs.declared.tree.Merge.TheVariants.{Add}
use Rattle.sums.specs.Tree.Kinds.{Div}
use Rattle.sums.specs.Tree.Sums.{Sum, none, size, entry}
use Rattle.sums.specs.Tree.Map.{formed}
use Rattle.sums.specs.Contract.Lies.{Lies}
use Rattle.sums.proofs.order.Walk.{next-at}
use Rattle.arithmetic.specs.Product.{pairable, rowable, mulable, mul_term, mul_into}
use Rattle.arithmetic.proofs.add.Lying.{Clear, clear, clear-part, lies-clear, agreed-done, nothing}
use Rattle.arithmetic.proofs.add.Folding.{outset, here, onward, stopped, ended}
use Rattle.arithmetic.proofs.multiply.Shapes.{row-and, sum-and}
use Rattle.arithmetic.proofs.multiply.Laws.{row_of, mul-each, by-insides, insides, first-copy, second-copy, copies, made_some, next-pair, next_row, pair-div, div-done, div-refused}
use Rattle.arithmetic.proofs.multiply.+div_mul_expr_mul_mul_row_term_mul.Goals as goal

-- ---- div_mul

pub div_mul-expr_mul-requires : goal.div_mul-expr_mul-requires
div_mul-expr_mul-requires t c =
    (omega arith, (copies (rw c.cells.ensures at c.side_by_side.ensures.beside) c.requires.2, room-less (lit≤ tt) (rw c.cells.ensures at c.side_by_side.ensures.beside).room))

pub div_mul-returns-in_err-k-clause-of_three : goal.div_mul-returns-in_err-k-clause-of_three
div_mul-returns-in_err-k-clause-of_three t c u v s lu lv ls =
    let w = c.requires.2 in
    let d = rw c.cells.ensures at c.side_by_side.ensures.beside in
    let agrees = c.expr_mul.ensures.of_two u v (first-copy d w.first.few lu) (second-copy d w.second.few lv) in
    let p = err_from_is_err_and c.from_residual.result c.from_residual.ensures.1 in
    rw (p.1, p.2)
    (div-refused (seen c.expr_mul.new.book) (seen c.args.book.now) c.args.p _ (mul_into u v none) c.expr_mul.result
    (λ w. formed Add (entry Div (size w) zero64 c.args.coef) w s) agrees c.in_err-k.was)

pub div_mul-put_div-requires-clause-inner : goal.div_mul-put_div-requires-clause-inner
div_mul-put_div-requires-clause-inner t c =
    let w = c.requires.2 in
    let d = rw c.cells.ensures at c.side_by_side.ensures.beside in
    let agrees = c.expr_mul.ensures.of_two w.s w.t (first-copy d w.first.few w.first.lies) (second-copy d w.second.few w.second.lies) in
    let a = agreed-done (seen c.expr_mul.new.book) 128 c.in_ok-k.k c.expr_mul.result (mul_into w.s w.t none) agrees c.in_ok-k.was in
    (made_some w c.requires.0 c.requires.1 a, a.few, (a.s, a.lies), room-same c.expr_mul.ensures.kept.long d.room)

pub div_mul-returns-clause-of_three : goal.div_mul-returns-clause-of_three
div_mul-returns-clause-of_three t c u v s lu lv ls =
    let w = c.requires.2 in
    let d = rw c.cells.ensures at c.side_by_side.ensures.beside in
    let agrees = c.expr_mul.ensures.of_two u v (first-copy d w.first.few lu) (second-copy d w.second.few lv) in
    div-done (seen c.expr_mul.new.book) (seen c.put_div.new.book) c.args.p c.in_ok-k.k c.args.coef (mul_into u v none) s c.expr_mul.result c.put_div.result agrees c.in_ok-k.was
    (λ w l. c.put_div.ensures.of_inner w s l ls)

-- ---- expr_mul

pub expr_mul-loop-q-init : goal.expr_mul-loop-q-init
expr_mul-loop-q-init t c = record {
  few = omega arith;
  from = omega arith;
  kept = kept_refl (seen c.args.book.now) _ _;
  rest = λ s v ls lv. outset (row_of v) (λ u. mulable u v) (nothing c.args.p c.requires.1) ls;
  same = search rules;
}

pub expr_mul-load-x-requires : goal.expr_mul-load-x-requires
expr_mul-load-x-requires t c =
    let w = c.loop-q.invariant.rest _ _ c.requires.0.first.lies c.requires.0.second.lies in
    let n = next-at _ _ _ _ w.v' w.lies-v c.loop-q-test.true in
    (n.readable, n.first.plain)

pub expr_mul-mul_row-requires : goal.expr_mul-mul_row-requires
expr_mul-mul_row-requires t c =
    let inv = c.loop-q.invariant in
    let w = inv.rest _ _ c.requires.0.first.lies c.requires.0.second.lies in (
      omega arith,
      (
        next_row c.requires.0 inv.kept c.load-x.result inv.from w c.load-x.ensures c.loop-q-test.true,
        record { few = inv.few; room = room-same inv.kept.long c.requires.1; held = (w.s', w.lies-s) },
      ),
    )

pub expr_mul-returns-in_err-len-clause-of_two : goal.expr_mul-returns-in_err-len-clause-of_two
expr_mul-returns-in_err-len-clause-of_two t c s v ls lv =
    let lv' = lies-clear c.loop-q.invariant.kept (clear c.requires.0.second.apart) lv in
    let p = err_from_is_err_and c.from_residual.result c.from_residual.ensures.1 in
    rw (p.1, p.2, mul-each s v none)
    (stopped (row_of v) (λ u. mulable u v) (λ m i. rowable m (mulable i) v) (sum-and v) (seen c.loop-q.book) (seen c.mul_row.new.book) _ _ _ _ _ none s c.load-x.result c.mul_row.result
    (c.loop-q.invariant.rest s v ls lv) c.load-x.ensures c.loop-q-test.true (λ i u li lu. c.mul_row.ensures.of_three i v u li lv' lu) _ (seen c.mul_row.new.book) c.in_err-len.was)

pub expr_mul-loop-q-preserved : goal.expr_mul-loop-q-preserved
expr_mul-loop-q-preserved t c =
    let inv = c.loop-q.invariant in
    let w = c.requires.0 in
    let apart : Clear c.loop-q.q (c.args.i + c.args.n) c.args.p (c.args.p + 64) = clear-part inv.from (omega arith) (clear w.first.apart) in
    let on = λ (s v : Sum) (ls : Lies (seen c.args.book.now) c.args.i (c.args.i + c.args.n) c.args.left s) (lv : Lies (seen c.args.book.now) c.args.j (c.args.j + c.args.m) c.args.left v).
    onward (row_of v) (λ u. mulable u v) (λ m i. rowable m (mulable i) v) (sum-and v) (seen c.loop-q.book) (seen c.mul_row.new.book) c.args.p c.loop-q.len c.loop-q.q
    (c.args.i + c.args.n) c.args.left none s c.load-x.result c.mul_row.result (inv.rest s v ls lv) c.load-x.ensures c.loop-q-test.true
    (λ i u li lu. c.mul_row.ensures.of_three i v u li (lies-clear inv.kept (clear w.second.apart) lv) lu) c.in_ok-len.len c.mul_row.ensures.kept apart c.in_ok-len.was in
    record {
      few = (on _ _ w.first.lies w.second.lies).0;
      from = omega arith;
      kept = kept_trans inv.kept c.mul_row.ensures.kept;
      rest = λ s v ls lv. (on s v ls lv).1;
      same = search rules;
    }

pub expr_mul-returns-clause-of_two : goal.expr_mul-returns-clause-of_two
expr_mul-returns-clause-of_two t c s v ls lv =
    rw (mul-each s v none)
    (ended (row_of v) (λ u. mulable u v) (seen c.loop-q.book) _ _ _ _ _ none s (c.loop-q.invariant.rest s v ls lv) c.loop-q.invariant.few c.loop-q-test.false)

-- ---- mul_row

pub mul_row-load-y-requires : goal.mul_row-load-y-requires
mul_row-load-y-requires t c =
    let pre = c.requires in
    let w = c.loop-q.invariant.rest _ _ _ pre.0.first.inside.lies pre.0.second.lies pre.1.held.1 in
    let n = next-at _ _ _ _ w.v' w.lies-v c.loop-q-test.true in
    (n.readable, n.first.plain)

pub mul_row-overflow_sub-left : goal.mul_row-overflow_sub-left
mul_row-overflow_sub-left t c =
    let pre = c.requires in
    let w = c.loop-q.invariant.rest _ _ _ pre.0.first.inside.lies pre.0.second.lies pre.1.held.1 in
    (here c.load-y.result w c.load-y.ensures c.loop-q-test.true).first.deep

pub mul_row-term_mul-requires : goal.mul_row-term_mul-requires
mul_row-term_mul-requires t c =
    let inv = c.loop-q.invariant in
    let pre = c.requires in
    let w = inv.rest _ _ _ pre.0.first.inside.lies pre.0.second.lies pre.1.held.1 in
    let deep : 1 ≤ c.args.left = (here c.load-y.result w c.load-y.ensures c.loop-q-test.true).first.deep in (
      omega arith,
      (
        next-pair pre.0 inv.kept c.load-y.result inv.from w c.load-y.ensures c.loop-q-test.true,
        record { few = inv.few; room = room-same inv.kept.long pre.1.room; held = (w.s', w.lies-s) },
      ),
    )

pub mul_row-returns-in_err-len-clause-of_three : goal.mul_row-returns-in_err-len-clause-of_three
mul_row-returns-in_err-len-clause-of_three t c u v s lu lv ls =
    let k = c.args.x.kind in
    let lu' = lies-clear c.loop-q.invariant.kept (clear c.requires.0.first.inside.apart) lu in
    let p = err_from_is_err_and c.from_residual.result c.from_residual.ensures.1 in
    rw (p.1, p.2)
    (stopped (mul_term c.args.x (λ z. mul_into u z none)) (rowable k (mulable u)) (pairable k (mulable u)) (row-and k (mulable u)) (seen c.loop-q.book) (seen c.term_mul.new.book)
    _ _ _ _ _ s v c.load-y.result c.term_mul.result (c.loop-q.invariant.rest u v s lu lv ls) c.load-y.ensures c.loop-q-test.true
    (λ i w li lw. c.term_mul.ensures.of_three u i w lu' li lw) _ (seen c.term_mul.new.book) c.in_err-len.was)

pub mul_row-loop-q-preserved : goal.mul_row-loop-q-preserved
mul_row-loop-q-preserved t c =
    let inv = c.loop-q.invariant in
    let pre = c.requires in
    let k = c.args.x.kind in
    let apart : Clear c.loop-q.q (c.args.j + c.args.m) c.args.p (c.args.p + 64) = clear-part inv.from (omega arith) (clear pre.0.second.apart) in
    let on = λ (u v s : Sum) (lu : Lies (seen c.args.book.now) c.args.i (c.args.i + c.args.x.inside) (c.args.left - 1) u)
    (lv : Lies (seen c.args.book.now) c.args.j (c.args.j + c.args.m) c.args.left v) (ls : Lies (seen c.args.book.now) c.args.p (c.args.p + c.args.n) 4 s).
    onward (mul_term c.args.x (λ z. mul_into u z none)) (rowable k (mulable u)) (pairable k (mulable u)) (row-and k (mulable u)) (seen c.loop-q.book) (seen c.term_mul.new.book)
    c.args.p c.loop-q.len c.loop-q.q (c.args.j + c.args.m) c.args.left s v c.load-y.result c.term_mul.result (inv.rest u v s lu lv ls) c.load-y.ensures c.loop-q-test.true
    (λ i w li lw. c.term_mul.ensures.of_three u i w (lies-clear inv.kept (clear pre.0.first.inside.apart) lu) li lw) c.in_ok-len.len c.term_mul.ensures.kept apart c.in_ok-len.was in
    record {
      few = (on _ _ _ pre.0.first.inside.lies pre.0.second.lies pre.1.held.1).0;
      from = omega arith;
      kept = kept_trans inv.kept c.term_mul.ensures.kept;
      rest = λ u v s lu lv ls. (on u v s lu lv ls).1;
      same = search rules;
    }

pub mul_row-returns-clause-of_three : goal.mul_row-returns-clause-of_three
mul_row-returns-clause-of_three t c u v s lu lv ls =
    ended (mul_term c.args.x (λ w. mul_into u w none)) (rowable c.args.x.kind (mulable u)) (seen c.loop-q.book) _ _ _ _ _ s v (c.loop-q.invariant.rest u v s lu lv ls)
    c.loop-q.invariant.few c.loop-q-test.false

-- ---- term_mul

pub term_mul-div_mul-requires : goal.term_mul-div_mul-requires
term_mul-div_mul-requires t c =
    let p = c.requires.0 in
    let k = by-insides c.args.x.kind c.args.y.kind (mulable p.t) p.v p.able c.product_code-code.ensures c.if-code-eq-ADD_POWERS.false in
    let w = insides p k in
    (omega arith, (w.some_first, w.some-second, w.sums, c.requires.1))

pub term_mul-returns-clause-of_three : goal.term_mul-returns-clause-of_three
term_mul-returns-clause-of_three t c u v s lu lv ls =
    let p = c.requires.0 in
    let k = by-insides c.args.x.kind c.args.y.kind (mulable p.t) p.v p.able c.product_code-code.ensures c.if-code-eq-ADD_POWERS.false in
    pair-div (seen c.div_mul.new.book) c.args.p c.args.x c.args.y (λ w. mul_into u w none) v s _ c.div_mul.result k c.mul-c.ensures (c.div_mul.ensures.of_three u v s lu lv ls)
