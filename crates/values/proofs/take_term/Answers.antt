-- The tests are the definition's; a power's value goes to the sum.
use mathlib.Core.Path.{sym, ◌∙◌}
use Rattle.values.proofs.Laws.{takes-zero, takes-other, takes-power}
use Rattle.values.proofs.take_term.Goals as goal

pub returns-then-is_zero : goal.returns-then-is_zero
returns-then-is_zero c = takes-zero c.args.x c.args.f c.args.e (sym c.is_zero.ensures ∙ c.if-is_zero.true) c.requires

pub returns-in_default : goal.returns-in_default
returns-in_default c =
    takes-other c.args.x c.args.f c.args.e c.is_real.result (sym c.is_zero.ensures ∙ c.if-is_zero.false) (sym c.small_whole.ensures ∙ c.in_default.is) c.is_real.ensures c.requires

pub add_power-requires : goal.add_power-requires
add_power-requires c = record { low = c.requires.low; formed = c.requires.formed }

pub returns : goal.returns
returns c =
    takes-power c.args.x c.args.f c.args.e c.is_real.result _ c.add_power.result (sym c.is_zero.ensures ∙ c.if-is_zero.false)
    (sym c.small_whole.ensures ∙ c.in-Some.is) c.is_real.ensures c.add_power.ensures
