-- The stack starts with x; the whole list is walked, and one sum must be left.
use Rattle.std.proofs.Common.{false}
use Rattle.cells.specs.Contract.Book.{seen}
use Rattle.reading.proofs.walk.Laws.{keeps, never}
use Rattle.reading.proofs.env.Ends.{all-records, read-stop, read-ready, read-went}
use Rattle.reading.proofs.env.nodes_expr.Goals as goal

pub walk-ran-requires : goal.walk-ran-requires
walk-ran-requires c =
    let x = c.begin_with_x-env.ensures.reaches c.args.top c.requires.1 in
    (x.0, (false, keeps (all-records c.args.list.now c.count_records-n.ensures c.requires.0), λ e. absurd (never e)))

pub last_of-requires : goal.last_of-requires
last_of-requires c =
    let x = c.begin_with_x-env.ensures.reaches c.args.top c.requires.1 in
    rw (c.cells.ensures, c.sizes.ensures) (c.args.top, read-ready c.args.list.now c.count_records-n.ensures x.1 c.in-Went.ensures.does x.0)

pub returns-in-Stopped-clause-data_as : goal.returns-in-Stopped-clause-data_as
returns-in-Stopped-clause-data_as c =
    let x = c.begin_with_x-env.ensures.reaches c.args.top c.requires.1 in
    read-stop c.args.list.now c.count_records-n.ensures x.1 (seen c.walk-ran.new.arena.book) c.in-Stopped.ensures.does

pub returns-in-Went-clause-data_as : goal.returns-in-Went-clause-data_as
returns-in-Went-clause-data_as c =
    let x = c.begin_with_x-env.ensures.reaches c.args.top c.requires.1 in
    read-went c.args.list.now c.count_records-n.ensures x.1 c.in-Went.ensures.does c.last_of.result _ (rw (c.cells.ensures, c.sizes.ensures) at c.last_of.ensures)
