-- Each entry is read, multiplied, and put into the sum that grows apart from it.
use Rattle.std.proofs.Common.{◌≡◌, ◌+◌, sym, ◌∙◌, subst, arith, rules}
use Rattle.std.proofs.lemmas.Result.{err_from_is_err_and}
use Rattle.numbers.specs.Ops.{◌⊕◌}
use Rattle.numbers.specs.declared.complex.Complex.{Complex}
use Rattle.cells.specs.Contract.Book.{seen}
use Rattle.cells.proofs.Laws.{kinds-one, insides-one, room-less, kept_refl, kept_trans}
use Rattle.sums.specs.declared.tree.Merge.TheVariants.{Add}
use Rattle.sums.specs.Tree.Kinds as kinds
use Rattle.sums.specs.Tree.Sums.{Sum, none, entry}
use Rattle.sums.specs.Tree.Map.{formed}
use Rattle.sums.specs.Contract.Lies.{Lies, Agrees}
use Rattle.sums.proofs.order.Walk.{next-at, lies_empty}
use Rattle.arithmetic.specs.Product.{product}
use Rattle.arithmetic.specs.Quotient.{x_to}
use Rattle.arithmetic.proofs.Agree.{product-not}
use Rattle.arithmetic.proofs.add.Lying.{Clear, clear, clear-part}
use Rattle.arithmetic.proofs.add.Folding.{outset, ended}
use Rattle.powers.specs.Divide.Contract.Dividing.{step_x, times_x}
use Rattle.powers.proofs.divide.Powers.{x-product}
use Rattle.powers.proofs.divide.Turns.{any, turned, halted}
use Rattle.powers.proofs.divide.times_x.Goals as goal
use Rattle.powers.proofs.divide.times_x.Goals.{After-put_power, Else-not-all_x}

-- what the call answered
call : (c : After-put_power) (i u : Sum) → Lies (seen c.loop-q.book) (c.loop-q.q + 1) (c.loop-q.q + 1 + c.load-y.result.inside) 3 i
    → Lies (seen c.loop-q.book) c.args.p (c.args.p + c.loop-q.len) 4 u
    → Agrees c.put_power.result (seen c.put_power.new.book) c.args.p (step_x c.args.power c.load-y.result i u)
call c i u li lu =
    subst (λ (d : Complex). Agrees c.put_power.result (seen c.put_power.new.book) c.args.p (formed Add (entry kinds.X 0 (c.args.power ⊕ c.load-y.result.num) d) none u)) c.mul-c.ensures
    (c.put_power.ensures.of_one u lu)

-- what is formed is the product
is-product : (c : Else-not-all_x) (t : Sum) → Lies (seen c.args.book.now) c.args.j (c.args.j + c.args.m) 4 t → product (x_to c.args.power) t ≡ times_x c.args.power none t
is-product c t lt = x-product c.args.power t
    (sym ((rw (kinds-one c.cells-cells.ensures, insides-one c.cells-cells.ensures) at c.all_x.ensures) c.args.book.now.numbers.now c.args.power t lt) ∙ c.if-not-all_x.false)

pub returns-then-not-all_x-clause-of_one : goal.returns-then-not-all_x-clause-of_one
returns-then-not-all_x-clause-of_one c t lt =
    let power = c.args.power in
    rw (product-not (x_to power) t (sym ((rw (kinds-one c.cells-cells.ensures, insides-one c.cells-cells.ensures) at c.all_x.ensures) c.args.book.now.numbers.now power t lt) ∙ c.if-not-all_x.true))

pub loop-q-init : goal.loop-q-init
loop-q-init c =
    let b = seen c.args.book.now in
    let p = c.args.p in
    record {
      kept = kept_refl b p (p + 64);
      from = omega arith;
      few = omega arith;
      rest = λ t lt. outset (step_x c.args.power) any (lies_empty b p 4 (room-less {n = p + 64} (omega arith) c.requires.1)) lt;
      same = search rules;
    }

pub load-y-requires : goal.load-y-requires
load-y-requires c =
    let w = c.loop-q.invariant.rest _ c.requires.0.held.1 in
    let n = next-at _ _ _ _ w.v' w.lies-v c.loop-q-test.true in
    (n.readable, n.first.plain)

pub returns-in_err-len-clause-of_one : goal.returns-in_err-len-clause-of_one
returns-in_err-len-clause-of_one c t lt =
    let d = (goal.at.returns-in_err-len-clause-of_one c).After-put_power in
    let e = (goal.at.returns-in_err-len-clause-of_one c).Else-not-all_x in
    let p = err_from_is_err_and c.from_residual.result c.from_residual.ensures.1 in
    rw (p.1, p.2, is-product e t lt)
    (halted (step_x c.args.power) (seen c.loop-q.book) (seen c.put_power.new.book) c.args.p c.loop-q.len c.loop-q.q (c.args.j + c.args.m) 4 none t c.load-y.result c.put_power.result
    (c.loop-q.invariant.rest t lt) c.load-y.ensures c.loop-q-test.true (call d) c.in_err-len.was)

pub loop-q-preserved : goal.loop-q-preserved
loop-q-preserved c =
    let told = call (goal.at.loop-q-preserved c).After-put_power in
    let p = c.args.p in
    let apart : Clear c.loop-q.q (c.args.j + c.args.m) p (p + 64) = clear-part c.loop-q.invariant.from (omega arith) (clear c.requires.0.apart) in
    let on = λ (t : Sum) (lt : Lies (seen c.args.book.now) c.args.j (c.args.j + c.args.m) 4 t).
    turned (step_x c.args.power) (seen c.loop-q.book) (seen c.put_power.new.book) p c.loop-q.len c.loop-q.q (c.args.j + c.args.m) 4 p (p + 64) none t c.load-y.result c.put_power.result
    c.in_ok-len.len (c.loop-q.invariant.rest t lt) c.load-y.ensures c.loop-q-test.true told c.put_power.ensures.kept apart c.in_ok-len.was in
    record {
      kept = kept_trans c.loop-q.invariant.kept c.put_power.ensures.kept;
      from = omega arith;
      few = (on _ c.requires.0.held.1).0;
      rest = λ t lt. (on t lt).1;
      same = search rules;
    }

pub returns-clause-of_one : goal.returns-clause-of_one
returns-clause-of_one c t lt =
    let e = (goal.at.returns-clause-of_one c).Else-not-all_x in
    rw (is-product e t lt)
    (ended (step_x c.args.power) any (seen c.loop-q.book) c.args.p c.loop-q.len c.loop-q.q (c.args.j + c.args.m) 4 none t (c.loop-q.invariant.rest t lt) c.loop-q.invariant.few
    c.loop-q-test.false)
