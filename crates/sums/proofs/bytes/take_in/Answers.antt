-- `sums::bytes::take_in` meets its contract: each answer is weighed by the tests that led to it.
use Rattle.std.proofs.Common.{◌≡◌, ◌*◌, ◌/◌, length, sym, ◌∙◌, true≢false, arith}
use Rattle.limits.specs.Limits.{sum_entries, entry_bytes}
use Rattle.cells.specs.Contract.Book.{seen, Room}
use Rattle.cells.proofs.Laws.{room-less, room-same}
use Rattle.formats.specs.Bytes.{Bytes}
use Rattle.sums.proofs.bytes.Theorem.{refuse-length, refuse-entry, weigh, laid}
use Rattle.sums.proofs.bytes.take_in.Goals as goal
use Rattle.sums.proofs.bytes.take_in.Goals.{After-answer}

pub returns-then-list-ne0-clause-weighed : goal.returns-then-list-ne0-clause-weighed
returns-then-list-ne0-clause-weighed c = refuse-length _ (λ m p q e. omega arith)

pub returns-then-n-lt1-clause-weighed : goal.returns-then-n-lt1-clause-weighed
returns-then-n-lt1-clause-weighed c = refuse-length _ (λ m p q e. omega arith)

pub returns-then-n-gt-SUM_ENTRIES-clause-weighed : goal.returns-then-n-gt-SUM_ENTRIES-clause-weighed
returns-then-n-gt-SUM_ENTRIES-clause-weighed c = refuse-length _ (λ m p q e. omega arith)

-- an entry isn't clean
pub returns-then-not-read_cells-clause-weighed : goal.returns-then-not-read_cells-clause-weighed
returns-then-not-read_cells-clause-weighed c =
    refuse-entry _ (length c.args.list.now / entry_bytes) (omega arith) (λ f. true≢false (sym (c.read_cells.ensures.loaded.tests.1 f) ∙ c.if-not-read_cells.true))

-- the entries were read, and what lies there tells
long : (c : After-answer) → length c.args.list.now ≡ entry_bytes * (length c.args.list.now / entry_bytes)
long c = omega arith

room : (c : After-answer) → Room (seen c.read_cells.new.book) (length c.args.list.now / entry_bytes)
room c = room-same c.read_cells.ensures.long (room-less {n = sum_entries} c.if-n-gt-SUM_ENTRIES.false c.requires)

pub returns-clause-weighed : goal.returns-clause-weighed
returns-clause-weighed c =
    let bytes : Bytes c.args.list.now = λ i. (c.type_inv.list i).fits in
    weigh c.args.list.now _ (seen c.read_cells.new.book) bytes (long c) c.if-n-lt1.false c.if-n-gt-SUM_ENTRIES.false (room c)
    (c.read_cells.ensures.loaded.tests.0 c.if-not-read_cells.false) (c.read_cells.ensures.loaded.cells c.if-not-read_cells.false) c.answer.result (rw c.cells.ensures at c.answer.ensures)

pub returns-clause-by_index : goal.returns-clause-by_index
returns-clause-by_index c =
    let bytes : Bytes c.args.list.now = λ i. (c.type_inv.list i).fits in
    laid c.args.list.now _ (seen c.read_cells.new.book) bytes (long c) c.if-n-lt1.false c.if-n-gt-SUM_ENTRIES.false (room c)
    (c.read_cells.ensures.loaded.tests.0 c.if-not-read_cells.false) (c.read_cells.ensures.loaded.cells c.if-not-read_cells.false) c.answer.result (rw c.cells.ensures at c.answer.ensures)
