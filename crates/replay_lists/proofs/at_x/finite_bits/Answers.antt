-- A finite number is no NaN.
use Rattle.std.proofs.Common.{sym, subst, ◌∙◌}
use lib.Dec.{T}
use Rattle.numbers.proofs.Bits.{no_nan}
use Rattle.replay_lists.proofs.at_x.finite_bits.Goals as goal

pub float_to_bits-result : goal.float_to_bits-result
float_to_bits-result c = no_nan _ (subst T (sym c.if-is_finite.true ∙ c.is_finite.ensures) tt)
