-- What the verdict says of the trees is the theorem. Assumes nothing.
use native.Mathlib.Omega.{arith}
use Rattle.formats.proofs.record.Theorem.{settled}
use Rattle.formats.proofs.rules.check.Goals as goal

pub returns : goal.returns
returns c = record { verdict = c.judged.ensures; trees = rw c.judged.ensures (settled c.args.list.now (λ i. omega (arith, c.type_inv.list i))) }
