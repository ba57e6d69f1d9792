-- E to a single x, a real power, or a refusal.
use Rattle.std.proofs.Common.{◌≡◌, Bool, Option, Float, ◌+◌, refl, sym, ap, ap₂, ◌∙◌, arith, true, false}
use mathlib.Core.Bool.{◌&&◌}
use Rattle.cells.specs.Contract.Book.{seen}
use Rattle.sums.specs.Tree.Sums.{Sum}
use Rattle.sums.specs.Contract.Lies.{Lies}
use Rattle.arithmetic.specs.Singles.{as_constant, is_x}
use Rattle.arithmetic.specs.Power.{is_euler}
use Rattle.arithmetic.specs.Add.Contract.Operands.{constant_of}
use Rattle.arithmetic.proofs.Steps.{and_both}
use Rattle.arithmetic.proofs.add.Places.{room-result, result-operand}
use Rattle.powers.specs.Raise.Contract.Reals.{real_of, euler_is}
use Rattle.powers.proofs.raise.Pairs.{counted-agrees, counted_is}
use Rattle.powers.proofs.raise.Reals.{euler-is, real-finite, pow-exp, pow-real, pow-not, pow-pairs-exp, pow-pairs-real, x-some, exp-head}
use Rattle.powers.proofs.raise.pow.Goals as goal
use Rattle.powers.proofs.raise.pow.Goals.{After-is_x, After-real_of}

-- whether it is E to a single x
asked : (c : After-is_x) (b : Bool) → c.is_euler.result && c.is_x.result ≡ b → (s t : Sum) → Lies (seen c.args.book.now) c.args.i (c.args.i + c.args.n) 4 s
    → Lies (seen c.args.book.now) c.args.j (c.args.j + c.args.m) 4 t → is_euler (as_constant s) && is_x t ≡ b
asked c b h s t ls lt =
    ap₂ ◌&&◌ (sym (c.is_euler.ensures ∙ ap euler_is ((rw c.cells.ensures at c.as_constant.ensures) s ls) ∙ euler-is (as_constant s))) (sym ((rw c.cells-2.ensures at c.is_x.ensures) t lt)) ∙ h

-- what real number the power is
real-number : (c : After-real_of) (r : Option Float) → c.real_of.result ≡ r → (t : Sum) → Lies (seen c.args.book.now) c.args.j (c.args.j + c.args.m) 4 t → real_of (constant_of (as_constant t)) ≡ r
real-number c r h t lt = ap real_of (sym ((rw c.cells-3.ensures at c.as_constant-2.ensures) t lt)) ∙ sym c.real_of.ensures ∙ h

pub over-requires : goal.over-requires
over-requires c =
    let ls = c.requires.0.held in
    let lt = c.requires.1.held in
    let one = and_both (is_euler (as_constant ls.0)) (is_x lt.0) (asked (goal.at.over-requires c).After-is_x true c.if-is_euler-is_x.true ls.0 lt.0 ls.1 lt.1) in
    let some = x-some lt.0 one.1 in
    let ends = lt.1.ends in
    (exp-head _ (omega arith), result-operand c.requires.1, room-result c.args.w c.requires.2)

pub returns-then-is_euler-is_x-clause-of_two : goal.returns-then-is_euler-is_x-clause-of_two
returns-then-is_euler-is_x-clause-of_two c s t ls lt =
    let d = (goal.at.returns-then-is_euler-is_x-clause-of_two c).After-is_x in
    counted-agrees _ _ _ _ c.counted.ensures (rw (pow-exp s t (asked d true c.if-is_euler-is_x.true s t ls lt)) (c.over.ensures.of_one t lt))

pub returns-then-is_euler-is_x-clause-of_two_2 : goal.returns-then-is_euler-is_x-clause-of_two_2
returns-then-is_euler-is_x-clause-of_two_2 c s t ls lt =
    let d = (goal.at.returns-then-is_euler-is_x-clause-of_two_2 c).After-is_x in
    counted_is c.counted.ensures (sym (pow-pairs-exp s t (asked d true c.if-is_euler-is_x.true s t ls lt)))

pub power_by-requires : goal.power_by-requires
power_by-requires c =
    let d = (goal.at.power_by-requires c).After-real_of in
    let lt = c.requires.1.held in
    (real-finite lt.0 _ lt.1.good (real-number d _ c.in-Some.is lt.0 lt.1), c.requires.0, c.requires.2)

pub returns-in-Some-clause-of_two : goal.returns-in-Some-clause-of_two
returns-in-Some-clause-of_two c s t ls lt =
    let g = goal.at.returns-in-Some-clause-of_two c in
    rw (pow-real s t (asked g.After-is_x false c.if-is_euler-is_x.false s t ls lt) _ (real-number g.After-real_of _ c.in-Some.is t lt)) (c.power_by.ensures.of_one s ls)

pub returns-in-Some-clause-of_two_2 : goal.returns-in-Some-clause-of_two_2
returns-in-Some-clause-of_two_2 c s t ls lt =
    let g = goal.at.returns-in-Some-clause-of_two_2 c in
    rw (pow-pairs-real s t (asked g.After-is_x false c.if-is_euler-is_x.false s t ls lt) _ (real-number g.After-real_of _ c.in-Some.is t lt)) (c.power_by.ensures.of_one_2 s ls)

pub returns-in-None-clause-of_two : goal.returns-in-None-clause-of_two
returns-in-None-clause-of_two c s t ls lt =
    let g = goal.at.returns-in-None-clause-of_two c in
    counted-agrees _ _ _ _ c.counted-in-None.ensures
    (rw (pow-not s t (asked g.After-is_x false c.if-is_euler-is_x.false s t ls lt) (real-number g.After-real_of _ c.in-None.is t lt)) refl)
