-- `say` meets its contract: the record that was put lies after the last.
use Rattle.writing.proofs.draft.Growing.{said-drawn}
use Rattle.writing.proofs.draft.say.Goals as goal

pub returns : goal.returns
returns c = said-drawn c.args.d c.requires c.put_record.ensures
