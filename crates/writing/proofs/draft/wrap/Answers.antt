-- `wrap` meets its contract: an On and its body lie in front of the list.
use Rattle.std.proofs.Common.{arith}
use Rattle.writing.proofs.draft.Growing.{wrapped-drawn}
use Rattle.writing.proofs.draft.wrap.Goals as goal

pub returns : goal.returns
returns c = wrapped-drawn c.args.d _ _ c.requires (omega arith) (omega arith) c.on.ensures c.body.ensures c.put_record.ensures c.put_record-2.ensures
