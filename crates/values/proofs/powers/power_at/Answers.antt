-- Its words make the entry, and are no NaN's.
use mathlib.Core.Path.{refl, ap, ◌∙◌}
use lib.Ieee.{binary64, of_bits}
use lib.Ieee.Scale.{finite}
use Rattle.numbers.proofs.Bits.{no-nans}
use Rattle.values.proofs.Flat.{power-is}
use Rattle.values.proofs.powers.power_at.Goals as goal

pub float_from_bits-c : goal.float_from_bits-c
float_from_bits-c c = no-nans _ refl (ap (λ w. finite (of_bits binary64 w)) c.eight-re.ensures ∙ c.requires.1.re)

pub float_from_bits-c-2 : goal.float_from_bits-c-2
float_from_bits-c-2 c = no-nans _ refl (ap (λ w. finite (of_bits binary64 w)) c.eight-im.ensures ∙ c.requires.1.im)

pub float_from_bits-result : goal.float_from_bits-result
float_from_bits-result c = no-nans _ refl (ap (λ w. finite (of_bits binary64 w)) c.eight-num.ensures ∙ c.requires.1.num)

pub returns : goal.returns
returns c = power-is c.args.list.now (λ j. (c.type_inv.list j).fits) c.args.i c.requires.0 c.requires.1 c.eight-num.ensures c.eight-re.ensures c.eight-im.ensures
