-- E to a single x, a number to a real power, or a refusal.
use Rattle.std.proofs.Common.{◌≡◌, Bool, Option, Float, ◌+◌, refl, sym, ap, ap₂, ◌∙◌, arith, true, false}
use mathlib.Core.Bool.{◌&&◌}
use Rattle.numbers.specs.Complex.Arith.{real}
use Rattle.cells.specs.Contract.Book.{seen}
use Rattle.sums.specs.Tree.Sums.{Sum}
use Rattle.sums.specs.Contract.Lies.{Lies}
use Rattle.arithmetic.specs.Singles.{constant, as_constant, is_x}
use Rattle.arithmetic.specs.Power.{is_euler}
use Rattle.arithmetic.specs.Add.Contract.Operands.{constant_of}
use Rattle.arithmetic.proofs.Steps.{and_both}
use Rattle.powers.specs.Raise.Contract.Reals.{real_of}
use Rattle.powers.proofs.raise.Constants.{constant-euler}
use Rattle.powers.proofs.raise.Reals.{real-finite, pow-exp, pow-real, pow-not, x-some, exp-head}
use Rattle.powers.proofs.raise.pow_of.Goals as goal
use Rattle.powers.proofs.raise.pow_of.Goals.{After-is_x, After-real_of}

-- whether it is E to a single x
asked : (c : After-is_x) (b : Bool) → c.is_euler.result && c.is_x.result ≡ b → (t : Sum) → Lies (seen c.args.book.now) c.args.i (c.args.i + c.args.n) 4 t
    → is_euler (as_constant (constant (real c.args.base))) && is_x t ≡ b
asked c b h t lt = ap₂ ◌&&◌ (sym (c.is_euler.ensures ∙ constant-euler (real c.args.base))) (sym ((rw c.cells.ensures at c.is_x.ensures) t lt)) ∙ h

-- what real number the power is
real-number : (c : After-real_of) (r : Option Float) → c.real_of.result ≡ r → (t : Sum) → Lies (seen c.args.book.now) c.args.i (c.args.i + c.args.n) 4 t → real_of (constant_of (as_constant t)) ≡ r
real-number c r h t lt = ap real_of (sym ((rw c.cells-2.ensures at c.as_constant.ensures) t lt)) ∙ sym c.real_of.ensures ∙ h

pub over-requires : goal.over-requires
over-requires c =
    let lt = c.requires.1.held in
    let one = and_both (is_euler (as_constant (constant (real c.args.base)))) (is_x lt.0) (asked (goal.at.over-requires c).After-is_x true c.if-is_euler-is_x.true lt.0 lt.1) in
    let some = x-some lt.0 one.1 in
    let ends = lt.1.ends in
    (exp-head _ (omega arith), c.requires.1, c.requires.2)

pub returns-then-is_euler-is_x-clause-of_one : goal.returns-then-is_euler-is_x-clause-of_one
returns-then-is_euler-is_x-clause-of_one c t lt =
    let d = (goal.at.returns-then-is_euler-is_x-clause-of_one c).After-is_x in
    rw (pow-exp (constant (real c.args.base)) t (asked d true c.if-is_euler-is_x.true t lt)) (c.over.ensures.of_one t lt)

pub number_power-requires : goal.number_power-requires
number_power-requires c =
    let d = (goal.at.number_power-requires c).After-real_of in
    let lt = c.requires.1.held in
    (c.requires.0, real-finite lt.0 _ lt.1.good (real-number d _ c.in-Some.is lt.0 lt.1), c.requires.2)

pub returns-in-Some-clause-of_one : goal.returns-in-Some-clause-of_one
returns-in-Some-clause-of_one c t lt =
    let g = goal.at.returns-in-Some-clause-of_one c in
    rw (pow-real (constant (real c.args.base)) t (asked g.After-is_x false c.if-is_euler-is_x.false t lt) _ (real-number g.After-real_of _ c.in-Some.is t lt)) c.number_power.ensures.agrees

pub returns-in-None-clause-of_one : goal.returns-in-None-clause-of_one
returns-in-None-clause-of_one c t lt =
    let g = goal.at.returns-in-None-clause-of_one c in
    rw (pow-not (constant (real c.args.base)) t (asked g.After-is_x false c.if-is_euler-is_x.false t lt) (real-number g.After-real_of _ c.in-None.is t lt)) refl
