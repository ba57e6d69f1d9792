-- The exponent is none from 0 to 64, is 0, or is more. Assumes nothing.
use native.Mathlib.Omega.{arith}
use mathlib.Core.Path.{sym, ◌∙◌}
use Rattle.running.proofs.Laws.{power-other, power_zero, power-more}
use Rattle.running.proofs.act.raise.Goals as goal

pub returns-in_default : goal.returns-in_default
returns-in_default c = sym (power-other _ _ (sym c.small_whole.ensures ∙ c.in_default.is))

pub returns-then-n-eq0 : goal.returns-then-n-eq0
returns-then-n-eq0 c = sym (power_zero _ _ c.in-Some.n (sym c.small_whole.ensures ∙ c.in-Some.is) c.if-n-eq0.true)

pub returns : goal.returns
returns c = rw c.multiplied.ensures (sym (power-more c.args.b c.args.a c.in-Some.n (sym c.small_whole.ensures ∙ c.in-Some.is) (omega (arith, c.if-n-eq0.false))))
