-- `over_factor` meets its contract: nothing where the factor is 1.
use Rattle.std.proofs.Common.{arith}
use Rattle.inverse.proofs.Words.{spelt-none, spelt-as}
use Rattle.inverse.proofs.Forms.{one-fold}
use Rattle.inverse.proofs.over_factor.Goals as goal

pub returns-then-is_one : goal.returns-then-is_one
returns-then-is_one c = spelt-as (spelt-none 2) 2 (omega arith) _ (one-fold c.args.k c.is_one.ensures c.if-is_one.true)
