-- `sums::bytes::read_cells` meets its contract: one entry more is read in each turn, or one isn't clean.
use Rattle.std.proofs.Common.{sym, ◌∙◌, arith, rules}
use Rattle.cells.specs.Contract.Book.{seen}
use Rattle.cells.proofs.Laws.{room-less}
use Rattle.sums.proofs.bytes.Reading.{pass}
use Rattle.sums.proofs.bytes.read_cells.Goals as goal

-- one more is read
pub loop-j-preserved : goal.loop-j-preserved
loop-j-preserved c =
    let room = room-less {n = c.args.n} (omega arith) c.requires.1 in
    let passed = pass _ _ (seen c.loop-j.book) c.loop-j.j _ _ _ c.loop-j.invariant.0 room (sym c.clean.ensures ∙ c.if-not-clean.false) c.eight-num.ensures c.eight-re.ensures c.eight-im.ensures in
    (passed, search rules)
