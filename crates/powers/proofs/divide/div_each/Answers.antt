-- Each entry is read, divided, and put into the sum that grows apart from it.
use Rattle.std.proofs.Common.{◌+◌, arith, rules}
use Rattle.std.proofs.lemmas.Result.{err_from_is_err_and}
use Rattle.cells.specs.Contract.Book.{seen}
use Rattle.cells.specs.declared.Entry.{Entry}
use Rattle.cells.proofs.Laws.{room-less, room-same, kept_refl, kept_trans}
use Rattle.sums.specs.Tree.Sums.{Sum, none}
use Rattle.sums.specs.Tree.Map.{Outcome}
use Rattle.sums.specs.Contract.Lies.{Lies, Agrees}
use Rattle.sums.proofs.order.Walk.{next-at, lies_empty}
use Rattle.arithmetic.specs.Quotient.{div_term}
use Rattle.arithmetic.proofs.add.Lying.{Clear, clear, clear-part}
use Rattle.arithmetic.proofs.add.Folding.{outset, here, ended}
use Rattle.powers.specs.Divide.Contract.Dividing.{Divisor}
use Rattle.powers.proofs.divide.Places.{divisor-kept, by-kept}
use Rattle.powers.proofs.divide.Turns.{any, turned, halted}
use Rattle.powers.proofs.divide.div_each.Goals as goal
use Rattle.powers.proofs.divide.div_each.Goals.{After-div_term}

abbrev step : Entry → Sum → Entry → Sum → Sum → Outcome
step y v x t u = div_term y v x u

-- what the call answered
call : (c : After-div_term) (v : Sum) → Divisor (seen c.args.book.now) c.args.y c.args.j v → (t u : Sum)
    → Lies (seen c.loop-q.book) (c.loop-q.q + 1) (c.loop-q.q + 1 + c.load-x.result.inside) 3 t → Lies (seen c.loop-q.book) c.args.w (c.args.w + c.loop-q.len) 4 u
    → Agrees c.div_term.result (seen c.div_term.new.book) c.args.w (step c.args.y v c.load-x.result t u)
call c v d t u lt lu = c.div_term.ensures.of_divisor u v lu (divisor-kept c.loop-q.invariant.kept c.requires.1.apart d)

pub loop-q-init : goal.loop-q-init
loop-q-init c =
    let b = seen c.args.book.now in
    let w = c.args.w in
    record {
      kept = kept_refl b w (w + (64 + 64));
      from = omega arith;
      few = omega arith;
      rest = λ s v ls d. outset (step c.args.y v) any (lies_empty b w 4 (room-less {n = w + (64 + 64)} (omega arith) c.requires.2)) ls;
      same = search rules;
    }

pub load-x-requires : goal.load-x-requires
load-x-requires c =
    let w = c.loop-q.invariant.rest _ _ c.requires.0.held.1 c.requires.1.held.1 in
    let n = next-at _ _ _ _ w.v' w.lies-v c.loop-q-test.true in
    (n.readable, n.first.plain)

pub div_term-requires : goal.div_term-requires
div_term-requires c =
    let w = c.loop-q.invariant.rest _ _ c.requires.0.held.1 c.requires.1.held.1 in
    let good = (here c.load-x.result w c.load-x.ensures c.loop-q-test.true).first.entry-good in (
      good.least,
      good.most,
      by-kept c.loop-q.invariant.kept c.requires.1,
      record { few = c.loop-q.invariant.few; room = room-same c.loop-q.invariant.kept.long c.requires.2; held = (w.s', w.lies-s) },
    )

pub returns-in_err-len-clause-of_divisor : goal.returns-in_err-len-clause-of_divisor
returns-in_err-len-clause-of_divisor c s v ls d =
    let told = call (goal.at.returns-in_err-len-clause-of_divisor c).After-div_term v d in
    let p = err_from_is_err_and c.from_residual.result c.from_residual.ensures.1 in
    rw (p.1, p.2)
    (halted (step c.args.y v) (seen c.loop-q.book) (seen c.div_term.new.book) c.args.w c.loop-q.len c.loop-q.q (c.args.i + c.args.n) 4 none s c.load-x.result c.div_term.result
    (c.loop-q.invariant.rest s v ls d) c.load-x.ensures c.loop-q-test.true told c.in_err-len.was)

pub loop-q-preserved : goal.loop-q-preserved
loop-q-preserved c =
    let told = call (goal.at.loop-q-preserved c).After-div_term in
    let w = c.args.w in
    let apart : Clear c.loop-q.q (c.args.i + c.args.n) w (w + (64 + 64)) = clear-part c.loop-q.invariant.from (omega arith) (clear c.requires.0.apart) in
    let on = λ (s v : Sum) (ls : Lies (seen c.args.book.now) c.args.i (c.args.i + c.args.n) 4 s) (d : Divisor (seen c.args.book.now) c.args.y c.args.j v).
    turned (step c.args.y v) (seen c.loop-q.book) (seen c.div_term.new.book) w c.loop-q.len c.loop-q.q (c.args.i + c.args.n) 4 w (w + (64 + 64)) none s c.load-x.result c.div_term.result
    c.in_ok-len.len (c.loop-q.invariant.rest s v ls d) c.load-x.ensures c.loop-q-test.true (told v d) c.div_term.ensures.kept apart c.in_ok-len.was in
    record {
      kept = kept_trans c.loop-q.invariant.kept c.div_term.ensures.kept;
      from = omega arith;
      few = (on _ _ c.requires.0.held.1 c.requires.1.held.1).0;
      rest = λ s v ls d. (on s v ls d).1;
      same = search rules;
    }

pub returns-clause-of_divisor : goal.returns-clause-of_divisor
returns-clause-of_divisor c s v ls d =
    ended (step c.args.y v) any (seen c.loop-q.book) c.args.w c.loop-q.len c.loop-q.q (c.args.i + c.args.n) 4 none s (c.loop-q.invariant.rest s v ls d) c.loop-q.invariant.few
    c.loop-q-test.false
