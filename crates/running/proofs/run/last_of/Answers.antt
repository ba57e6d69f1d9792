-- Assumes nothing.
use mathlib.Core.Path.{sym}
use native.Mathlib.Omega.{arith}
use Rattle.running.proofs.Laws.{ended-none, ended-one, ended-many}
use Rattle.running.proofs.run.last_of.Goals as goal

pub returns-in-0 : goal.returns-in-0
returns-in-0 c = sym (ended-none c.args.stack.now c.args.st (omega arith))

pub returns-in-1 : goal.returns-in-1
returns-in-1 c = sym (ended-one c.args.stack.now c.args.st (omega arith))

pub returns-in_default : goal.returns-in_default
returns-in_default c = sym (ended-many c.args.stack.now c.args.st (omega arith))
