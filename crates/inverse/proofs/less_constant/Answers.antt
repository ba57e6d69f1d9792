-- `less_constant` meets its contract: nothing where the constant is zero.
use Rattle.std.proofs.Common.{arith}
use Rattle.inverse.proofs.Words.{spelt-none, spelt-as}
use Rattle.inverse.proofs.Forms.{keeps-all}
use Rattle.inverse.proofs.less_constant.Goals as goal

pub returns-then-is_zero : goal.returns-then-is_zero
returns-then-is_zero c = spelt-as (spelt-none 2) 2 (omega arith) _ (keeps-all c.args.c c.is_zero.ensures c.if-is_zero.true)
