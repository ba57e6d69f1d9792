-- Assumes nothing.
use Rattle.running.specs.Contract.Views.{plain}
use Rattle.running.proofs.is_plain.Goals as goal

pub returns : goal.returns
unfolding plain
returns c = rw (c.is_a.ensures, c.is_a-2.ensures)
