-- Where the sum is refused, so is the entry.
use Rattle.std.proofs.Common.{refl}
use Rattle.algebra.proofs.answer.Taking.{bytes-refused}
use Rattle.algebra.proofs.integrate.Goals as goal

pub returns-in-Err : goal.returns-in-Err
returns-in-Err c = (_, refl, bytes-refused c.take_in-taken.ensures.weighed c.args.out.now c.in-Err.is)
