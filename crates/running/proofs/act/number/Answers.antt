-- Bits of a finite number are pushed; others are refused as the number is. Assumes nothing.
use mathlib.Core.Path.{sym, ◌∙◌}
use lib.Ieee.{binary64, of_bits}
use Rattle.running.proofs.Laws.{leave-bad, leave-stop}
use Rattle.numbers.proofs.Bits.{no-nans}
use Rattle.running.proofs.act.number.Goals as goal

pub float_from_bits-result : goal.float_from_bits-result
float_from_bits-result c = no-nans _ c.finite_bits.ensures c.if-finite_bits.true

pub returns : goal.returns
returns c = λ s. leave-stop s ∙ sym (leave-bad (of_bits binary64 c.args.re) s (sym c.finite_bits.ensures ∙ c.if-finite_bits.false))
