-- The verdict, then the whole list.
use Rattle.std.proofs.Common.{false, sym, ◌∙◌}
use Rattle.reading.proofs.cost.Laws.{list-refused, list_steps, list-stretch}
use Rattle.reading.proofs.cost.cost.Goals as goal

pub stretch_steps-requires : goal.stretch_steps-requires
stretch_steps-requires c = (false, list-stretch _ (sym c.check.ensures.verdict ∙ c.in-Ok.is) c.count_records-n.ensures)

pub returns-in-Err : goal.returns-in-Err
returns-in-Err c = list-refused _ _ (sym c.check.ensures.verdict ∙ c.in-Err.is)

pub returns-in-Ok : goal.returns-in-Ok
returns-in-Ok c = list_steps _ (sym c.check.ensures.verdict ∙ c.in-Ok.is) c.count_records-n.ensures c.stretch_steps.ensures
