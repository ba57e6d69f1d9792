-- Each power of the first sum is read, and its row goes into the sum of powers that grows apart from both. The rows are the product.
use Rattle.std.proofs.Common.{◌≡◌, ℕ, ◌+◌, ◌<◌, true, refl, subst, Result, Ok, Err, arith, rules}
use Rattle.std.proofs.lemmas.Result.{err_from_is_err_and}
use Rattle.limits.specs.declared.Refusal.{Refusal}
use Rattle.cells.specs.Contract.Book.{seen}
use Rattle.cells.proofs.Laws.{kept_refl, kept_trans, room-same}
use Rattle.sums.specs.Tree.Kinds.{X}
use Rattle.sums.specs.Tree.Sums.{Sum, none}
use Rattle.sums.specs.Tree.Map.{Outcome}
use Rattle.sums.specs.Contract.Lies.{Lies, Agrees}
use Rattle.sums.proofs.order.Walk.{next-at}
use Rattle.arithmetic.specs.Product.{mul_into}
use Rattle.arithmetic.specs.Multiply.Contract.Rows.{FormedPowers}
use Rattle.arithmetic.proofs.add.Lying.{Clear, clear, clear-part, lies-clear, operand-kept, nothing}
use Rattle.arithmetic.proofs.add.Folding.{Folding, any, outset, here, onward, stopped, ended}
use Rattle.arithmetic.proofs.multiply.Laws.{row_of}
use Rattle.arithmetic.proofs.multiply.Rows.{only_kept, power-read, power-cell, row-powers, rows-product}
use Rattle.arithmetic.proofs.multiply.mul_powers.Goals as goal
use Rattle.arithmetic.proofs.multiply.mul_powers.Goals.{After-power_row}

-- the power that was read
power : (c : After-power_row) → c.load-x.result.kind ≡ X
power c =
    power-read (seen c.args.book.now) (seen c.loop-q.book) c.loop-q.q c.load-x.result c.loop-q.invariant.kept c.requires.0.operand.apart c.requires.0.only c.load-x.ensures c.loop-q.auto.q
    (omega arith)

-- what a row answered
row : (c : After-power_row) (v : Sum) → Lies (seen c.args.book.now) c.args.j (c.args.j + c.args.m) 4 v
    → (i u : Sum) → Lies (seen c.loop-q.book) c.args.p (c.args.p + c.loop-q.len) 4 u → Agrees c.power_row.result (seen c.power_row.new.book) c.args.p (row_of v c.load-x.result i u)
row c v lv i u lu =
    subst (λ (o : Outcome). Agrees c.power_row.result (seen c.power_row.new.book) c.args.p o) (row-powers c.load-x.result (λ w. mul_into i w none) u v (power c))
    (c.power_row.ensures.of_two u v lu (lies-clear c.loop-q.invariant.kept (clear c.requires.1.operand.apart) lv))

pub loop-q-init : goal.loop-q-init
loop-q-init c = record {
  kept = kept_refl (seen c.args.book.now) _ _;
  few = omega arith;
  only = λ k lo hi. absurd (omega arith);
  rest = λ s v ls lv. outset (row_of v) any (nothing c.args.p c.requires.2) ls;
  same = search rules;
}

pub load-x-requires : goal.load-x-requires
load-x-requires c =
    let w = c.loop-q.invariant.rest _ _ c.requires.0.operand.held.1 c.requires.1.operand.held.1 in
    let n = next-at _ _ _ _ w.v' w.lies-v (omega arith) in
    (n.readable, n.first.plain)

pub power_row-requires : goal.power_row-requires
power_row-requires c =
    let inv = c.loop-q.invariant in
    let w = inv.rest _ _ c.requires.0.operand.held.1 c.requires.1.operand.held.1 in (
      record {
        operand = operand-kept inv.kept c.requires.1.operand;
        only = only_kept {b = seen c.args.book.now} {b' = seen c.loop-q.book} inv.kept (clear c.requires.1.operand.apart) c.requires.1.only;
      },
      record { growing = record { few = inv.few; room = room-same inv.kept.long c.requires.2; held = (w.s', w.lies-s) }; only = inv.only },
    )

pub returns-in_err-len-clause-of_two : goal.returns-in_err-len-clause-of_two
returns-in_err-len-clause-of_two c s v ls lv =
    let below : c.loop-q.q < c.args.i + c.args.n = omega arith in
    let told = row (goal.at.returns-in_err-len-clause-of_two c).After-power_row v lv in
    let p = err_from_is_err_and c.from_residual.result c.from_residual.ensures.1 in
    rw (p.1, p.2)
    (rows-product c.args.i c.args.n c.args.j c.args.m (seen c.power_row.new.book) c.args.p (Err c.in_err-len.field-0.0) ls lv c.requires.0.only c.requires.1.only
    (stopped (row_of v) any (λ k i. true) (λ k p i c u. refl) (seen c.loop-q.book) (seen c.power_row.new.book) c.args.p c.loop-q.len c.loop-q.q (c.args.i + c.args.n) 4 none s
    c.load-x.result c.power_row.result (c.loop-q.invariant.rest s v ls lv) c.load-x.ensures below (λ i u li lu. told i u lu) _ (seen c.power_row.new.book) c.in_err-len.was))

pub loop-q-preserved : goal.loop-q-preserved
loop-q-preserved c =
    let x = c.load-x.result in
    let now = seen c.loop-q.book in
    let after = seen c.power_row.new.book in
    let w = c.loop-q.invariant.rest _ _ c.requires.0.operand.held.1 c.requires.1.operand.held.1 in
    let below : c.loop-q.q < c.args.i + c.args.n = omega arith in
    let d = (goal.at.loop-q-preserved c).After-power_row in
    let one = power-cell (here x w c.load-x.ensures below) (power d) in
    let next : c.loop-q.q + 1 + c.load-x.result.inside ≡ c.loop-q.q + 1 = omega arith in
    let apart : Clear c.loop-q.q (c.args.i + c.args.n) c.args.p (c.args.p + 64) = clear-part c.loop-q.auto.q (omega arith) (clear c.requires.0.operand.apart) in
    let on = λ (s v : Sum) (ls : Lies (seen c.args.book.now) c.args.i (c.args.i + c.args.n) 4 s) (lv : Lies (seen c.args.book.now) c.args.j (c.args.j + c.args.m) 4 v).
    onward (row_of v) any (λ k i. true) (λ k p i c u. refl) now after c.args.p c.loop-q.len c.loop-q.q (c.args.i + c.args.n) 4 none s x c.power_row.result
    (c.loop-q.invariant.rest s v ls lv) c.load-x.ensures below (λ i u li lu. row d v lv i u lu) c.in_ok-len.len c.power_row.ensures.kept.0 apart c.in_ok-len.was in
    record {
      kept = kept_trans c.loop-q.invariant.kept c.power_row.ensures.kept.0;
      few = (on _ _ c.requires.0.operand.held.1 c.requires.1.operand.held.1).0;
      only = subst (λ (r : Result ℕ Refusal). FormedPowers r (seen c.power_row.new.book) c.args.p) c.in_ok-len.was c.power_row.ensures.kept.1;
      rest = λ s v ls lv. subst (λ (q : ℕ). Folding (row_of v) any (seen c.power_row.new.book) c.args.p c.in_ok-len.len q (c.args.i + c.args.n) 4 none s) next (on s v ls lv).1;
      same = search rules;
    }

pub returns-clause-of_two : goal.returns-clause-of_two
returns-clause-of_two c s v ls lv =
    rows-product c.args.i c.args.n c.args.j c.args.m (seen c.loop-q.book) c.args.p (Ok c.loop-q.len) ls lv c.requires.0.only c.requires.1.only
    (ended (row_of v) any (seen c.loop-q.book) c.args.p c.loop-q.len c.loop-q.q (c.args.i + c.args.n) 4 none s (c.loop-q.invariant.rest s v ls lv) c.loop-q.invariant.few (omega arith))
