-- Each entry is read, its coefficient changed, and it is put into the sum that grows apart from it.
use Rattle.std.proofs.Common.{◌+◌, true, refl, subst, arith, rules}
use Rattle.std.proofs.lemmas.Result.{err_from_is_err_and}
use Rattle.cells.specs.Contract.Book.{seen}
use Rattle.numbers.specs.declared.complex.Complex.{Complex}
use Rattle.cells.proofs.Laws.{kept_trans, room-same}
use Rattle.sums.specs.declared.tree.Merge.TheVariants.{Add}
use Rattle.sums.specs.Tree.Sums.{Sum}
use Rattle.sums.specs.Tree.Map.{formed}
use Rattle.arithmetic.specs.Singles.{with_coef}
use Rattle.sums.specs.Contract.Lies.{Lies, Agrees}
use Rattle.sums.proofs.order.Walk.{next-at}
use Rattle.sums.proofs.order.Compare.{inner-more}
use Rattle.arithmetic.proofs.add.Lying.{Clear, clear, clear-part, apart_of, good-head, lies-deeper}
use Rattle.arithmetic.proofs.add.Folding.{any, added, here, onward, stopped, ended}
use Rattle.arithmetic.proofs.add.add_each.Goals as goal
use Rattle.arithmetic.proofs.add.add_each.Goals.{After-put_term}

-- what the call answered
call : (c : After-put_term) (i u : Sum) → Lies (seen c.loop-q.book) (c.loop-q.q + 1) (c.loop-q.q + 1 + c.load-y.result.inside) 3 i
    → Lies (seen c.loop-q.book) c.args.p (c.args.p + c.loop-q.len) 4 u
    → Agrees c.put_term.result (seen c.put_term.new.book) c.args.p (added c.args.how c.load-y.result i u)
call c i u li lu =
    subst (λ (d : Complex). Agrees c.put_term.result (seen c.put_term.new.book) c.args.p (formed Add (with_coef c.load-y.result d) i u)) c.change_coef.ensures
    (c.put_term.ensures.of_two u i lu (lies-deeper li))

pub load-y-requires : goal.load-y-requires
load-y-requires c =
    let w = c.loop-q.invariant.rest _ _ c.requires.1.held.1 c.requires.0.held.1 in
    let n = next-at _ _ _ _ w.v' w.lies-v c.loop-q-test.true in
    (n.readable, n.first.plain)

pub put_term-requires-clause-good_head : goal.put_term-requires-clause-good_head
put_term-requires-clause-good_head c =
    let w = c.loop-q.invariant.rest _ _ c.requires.1.held.1 c.requires.0.held.1 in
    let n = here c.load-y.result w c.load-y.ensures c.loop-q-test.true in (
      good-head c.change_coef.result n.first.entry-good n.inside,
      (n.inner, inner-more n),
      apart_of (clear-part (omega arith) n.within (clear c.requires.0.apart)) (omega arith),
    )

pub put_term-requires-clause-growing : goal.put_term-requires-clause-growing
put_term-requires-clause-growing c =
    let w = c.loop-q.invariant.rest _ _ c.requires.1.held.1 c.requires.0.held.1 in
    record { few = c.loop-q.invariant.few; room = room-same c.loop-q.invariant.kept.long c.requires.1.room; held = (w.s', w.lies-s) }

pub returns-in_err-len-clause-of_two : goal.returns-in_err-len-clause-of_two
returns-in_err-len-clause-of_two c s t ls lt =
    let y = c.load-y.result in
    let told = call (goal.at.returns-in_err-len-clause-of_two c).After-put_term in
    let p = err_from_is_err_and c.from_residual.result c.from_residual.ensures.1 in
    rw (p.1, p.2)
    (stopped (added c.args.how) any (λ k i. true) (λ k p i c u. refl) (seen c.loop-q.book) (seen c.put_term.new.book) c.args.p c.loop-q.len c.loop-q.q (c.args.j + c.args.m) 4 s t y
    c.put_term.result (c.loop-q.invariant.rest s t ls lt) c.load-y.ensures c.loop-q-test.true told _ (seen c.put_term.new.book) c.in_err-len.was)

pub loop-q-preserved : goal.loop-q-preserved
loop-q-preserved c =
    let y = c.load-y.result in
    let told = call (goal.at.loop-q-preserved c).After-put_term in
    let apart : Clear c.loop-q.q (c.args.j + c.args.m) c.args.p (c.args.p + 64) = clear-part c.loop-q.invariant.from (omega arith) (clear c.requires.0.apart) in
    let on = λ (s t : Sum) (ls : Lies (seen c.args.book.now) c.args.p (c.args.p + c.args.n) 4 s) (lt : Lies (seen c.args.book.now) c.args.j (c.args.j + c.args.m) 4 t).
    onward (added c.args.how) any (λ k i. true) (λ k p i c u. refl) (seen c.loop-q.book) (seen c.put_term.new.book) c.args.p c.loop-q.len c.loop-q.q (c.args.j + c.args.m) 4 s t y
    c.put_term.result (c.loop-q.invariant.rest s t ls lt) c.load-y.ensures c.loop-q-test.true told c.in_ok-len.len c.put_term.ensures.kept apart c.in_ok-len.was in
    record {
      kept = kept_trans c.loop-q.invariant.kept c.put_term.ensures.kept;
      from = omega arith;
      few = (on _ _ c.requires.1.held.1 c.requires.0.held.1).0;
      rest = λ s t ls lt. (on s t ls lt).1;
      same = search rules;
    }

pub returns-clause-of_two : goal.returns-clause-of_two
returns-clause-of_two c s t ls lt =
    ended (added c.args.how) any (seen c.loop-q.book) c.args.p c.loop-q.len c.loop-q.q (c.args.j + c.args.m) 4 s t (c.loop-q.invariant.rest s t ls lt) c.loop-q.invariant.few
    c.loop-q-test.false
