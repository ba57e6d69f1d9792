-- Each cell is read, and the first that makes the sum complex decides.
use Rattle.std.proofs.Common.{sym, ap, ◌∙◌, arith}
use Rattle.cells.specs.Contract.Book.{shown, at}
use Rattle.arithmetic.proofs.Agree.{complex_entry}
use Rattle.arithmetic.proofs.add.Lying.{readable}
use Rattle.arithmetic.proofs.add.Reading.{scan-all, scan-found, scan-past, scan-end}
use Rattle.arithmetic.proofs.add.is_complex.Goals as goal

pub loop-k-init : goal.loop-k-init
loop-k-init c s ls = scan-all s ls

pub load-x-requires : goal.load-x-requires
load-x-requires c = readable c.loop-k.k c.requires.1 c.loop-k.auto.k (omega arith)

pub returns-then-x : goal.returns-then-x
returns-then-x c s ls =
    sym (c.loop-k.invariant s ls ∙ scan-found (at (shown c.args.book.now)) c.loop-k.k _ (omega arith) (ap complex_entry (sym c.load-x.ensures) ∙ c.if-x.true))

pub loop-k-preserved : goal.loop-k-preserved
loop-k-preserved c s ls =
    c.loop-k.invariant s ls ∙ scan-past (at (shown c.args.book.now)) c.loop-k.k _ (omega arith) (ap complex_entry (sym c.load-x.ensures) ∙ c.if-x.false)

pub returns : goal.returns
returns c s ls = sym (c.loop-k.invariant s ls ∙ scan-end (at (shown c.args.book.now)) c.loop-k.k _ (omega arith))
