-- Each turn reckons one more product: it can't be formed, or it is a power of x again.
use Rattle.std.proofs.Common.{◌≡◌, ℕ, suc, ◌+◌, ◌-◌, sym, ap, ◌∙◌, subst, arith}
use Rattle.limits.specs.declared.Refusal.TheVariants.{NotFinite, PowerNotFinite}
use Rattle.numbers.specs.Complex.Arith as complex
use Rattle.numbers.specs.Ops.{◌⊕◌}
use Rattle.numbers.specs.declared.complex.Complex.{Complex}
use Rattle.cells.specs.Contract.Book.{seen}
use Rattle.cells.proofs.Laws.{room-less}
use Rattle.sums.specs.declared.tree.Merge.TheVariants.{Add}
use Rattle.sums.specs.Tree.Kinds.{X}
use Rattle.sums.specs.Tree.Sums.{Sum, none, entry}
use Rattle.sums.specs.Tree.Map.{Outcome, formed}
use Rattle.sums.specs.Contract.Lies.{Agrees}
use Rattle.sums.proofs.order.Walk.{lies_empty}
use Rattle.arithmetic.specs.Singles.{single}
use Rattle.arithmetic.specs.Power.{raised}
use Rattle.arithmetic.proofs.add.Lying.{agree-refused}
use Rattle.powers.proofs.raise.Singles.{raise-on, raise-18, raise-15, raise-last}
use Rattle.powers.proofs.raise.raise_power.Goals as goal
use Rattle.powers.proofs.raise.raise_power.Goals.{After-add-c}

-- the coefficient of a product
coef : (c : After-add-c) → c.add-c.result ≡ complex.plus complex.zero (complex.times c.loop-turn.c c.args.x.coef)
coef c = c.add-c.ensures ∙ ap (λ (v : Complex). complex.plus complex.zero v) c.mul.ensures

-- what all products are, where there is one more
so_far : (c : After-add-c) (j : Sum) → (let s = single X c.args.x.num j c.args.x.coef in
    raised c.args.times s s ≡ raised (suc (suc (c.args.times - (c.loop-turn._turn + 1)))) (single X c.loop-turn.num (c.loop-turn.invariant j).0 c.loop-turn.c) s)
so_far c j =
    let x = c.args.x in
    let more : suc (c.args.times - c.loop-turn._turn) ≡ suc (suc (c.args.times - (c.loop-turn._turn + 1))) = omega arith in
    (c.loop-turn.invariant j).1 ∙ ap (λ (n : ℕ). raised n (single X c.loop-turn.num (c.loop-turn.invariant j).0 c.loop-turn.c) (single X x.num j x.coef)) more

pub loop-turn-init : goal.loop-turn-init
loop-turn-init c j =
    let s = single X c.args.x.num j c.args.x.coef in
    let one : c.args.times ≡ suc (c.args.times - 1) = omega (arith, c.requires.0) in
    (j, ap (λ (n : ℕ). raised n s s) one)

pub returns-then-not-is_finite-clause-agrees : goal.returns-then-not-is_finite-clause-agrees
returns-then-not-is_finite-clause-agrees c j =
    let x = c.args.x in
    let l = c.loop-turn in
    let bad = sym c.is_finite.ensures ∙ c.if-not-is_finite.true in
    let d = (goal.at.returns-then-not-is_finite-clause-agrees c).After-add-c in
    agree-refused (seen c.args.book.now) c.args.w PowerNotFinite _
    (so_far d j ∙ raise-18 x.num j x.coef (suc (c.args.times - (l._turn + 1))) l.num (l.invariant j).0 l.c bad)

pub returns-then-not-is_finite-2-clause-agrees : goal.returns-then-not-is_finite-2-clause-agrees
returns-then-not-is_finite-2-clause-agrees c j =
    let x = c.args.x in
    let l = c.loop-turn in
    let d = (goal.at.returns-then-not-is_finite-2-clause-agrees c).After-add-c in
    let fine = sym c.is_finite.ensures ∙ c.if-not-is_finite.false in
    let bad = ap complex.all_finite (sym (coef d)) ∙ sym c.is_finite-in-loop-turn.ensures ∙ c.if-not-is_finite-2.true in
    agree-refused (seen c.args.book.now) c.args.w NotFinite _
    (so_far d j ∙ raise-15 x.num j x.coef (suc (c.args.times - (l._turn + 1))) l.num (l.invariant j).0 l.c fine bad)

pub loop-turn-preserved : goal.loop-turn-preserved
loop-turn-preserved c j =
    let x = c.args.x in
    let l = c.loop-turn in
    let d = (goal.at.loop-turn-preserved c).After-add-c in
    let fine = sym c.is_finite.ensures ∙ c.if-not-is_finite.false in
    let good = ap complex.all_finite (sym (coef d)) ∙ sym c.is_finite-in-loop-turn.ensures ∙ c.if-not-is_finite-2.false in
    let s = single X x.num j x.coef in
    let left = c.args.times - (l._turn + 1) in (
      none,
      so_far d j ∙ raise-on x.num j x.coef (suc left) l.num (l.invariant j).0 l.c fine good
          ∙ ap (λ (v : Complex). raised (suc left) (single X (l.num ⊕ x.num) none v) s) (sym (coef d)),
    )

pub put_power-requires : goal.put_power-requires
put_power-requires c =
    let b = seen c.args.book.now in
    (omega arith, room-less {n = c.args.w + (64 + 64)} (omega arith) c.requires.1, (none, lies_empty b c.args.w 4 (room-less {n = c.args.w + (64 + 64)} (omega arith) c.requires.1)))

pub returns-clause-agrees : goal.returns-clause-agrees
returns-clause-agrees c j =
    let x = c.args.x in
    let l = c.loop-turn in
    let b = seen c.args.book.now in
    let s = single X x.num j x.coef in
    let i = (l.invariant j).0 in
    let end : suc (c.args.times - l._turn) ≡ 1 = omega (arith, c.loop-turn-test.false) in
    let all = (l.invariant j).1 ∙ ap (λ (n : ℕ). raised n (single X l.num i l.c) s) end ∙ raise-last x.num j x.coef l.num i l.c in
    let same = ap (λ (v : Complex). formed Add (entry X 0 (l.num ⊕ x.num) v) none none) c.mul-last.ensures in
    subst (λ (o : Outcome). Agrees c.put_power.result (seen c.put_power.new.book) c.args.w o) (same ∙ sym all)
    (c.put_power.ensures.of_one none (lies_empty b c.args.w 4 (room-less {n = c.args.w + (64 + 64)} (omega arith) c.requires.1)))
