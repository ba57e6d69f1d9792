-- Assumes nothing.
use borrow.Author.Rules.{rules}
use Rattle.formats.proofs.record.Codes.{rec-fields}
use Rattle.formats.proofs.record.record_at.Goals as goal

pub returns : goal.returns
returns c =
    let e = rec-fields c.args.list.now c.args.i in
    ((cc), search rules)
