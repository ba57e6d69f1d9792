-- Assumes nothing.
use Rattle.formats.specs.Contract.Measure.{may_stand}
use Rattle.formats.proofs.fields.may_stand.Goals as goal

pub returns : goal.returns
unfolding may_stand
returns c = rw (c.fields_ok.ensures, c.is_a-body.ensures)
