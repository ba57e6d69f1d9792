-- The bytes are a good sum of so many powers, and its value is what was found.
use native.Mathlib.Omega.{arith}
use mathlib.Core.Path.{◌≡◌, sym, subst, ◌∙◌}
use Rattle.std.proofs.Common.{Some, Result, ◌*◌, ◌/◌, ◌≤◌, length}
use Rattle.limits.specs.declared.Refusal.{Refusal}
use Rattle.std.specs.Prelude.{Float}
use Rattle.sums.specs.Tree.Sums.{size}
use Rattle.values.specs.ValueOf.{ValueOfBytes}
use Rattle.values.proofs.Laws.{judged-all}
use Rattle.values.proofs.Taking.{value-known}
use Rattle.values.proofs.powers.quick_value.Goals as goal

same_answer : {a b : Result Float Refusal} → Some a ≡ Some b → a ≡ b
same_answer e = cc

pub returns-in-Some : goal.returns-in-Some
returns-in-Some c a e =
    let l = c.args.list.now in
    let x = c.args.x in
    let n = length l / 32 in
    let long : length l ≡ 32 * n = omega (arith, c.if-list-ne0.false) in
    let w = c.find_powers-met.ensures c.in-Some.f c.in-Some.is in
    let fine = sym c.is_finite.ensures ∙ c.if-not-is_finite.false in
    let low : 1 ≤ size w.s = omega (arith, c.if-n-lt1.false, w.sized) in
    let high : size w.s ≤ 64 = omega (arith, c.if-n-gt-SUM_ENTRIES.false, w.sized) in
    subst (ValueOfBytes l x) (same_answer e) (value-known w.s (w.encodes long) w.good low high (c.judge.ensures ∙ judged-all x w.s c.in-Some.f fine w.finds))
