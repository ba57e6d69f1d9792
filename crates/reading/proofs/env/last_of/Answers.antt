-- None, several or one sum is left.
use Rattle.std.proofs.Common.{arith}
use Rattle.cells.specs.Contract.Book.{shown}
use Rattle.stack.proofs.slots.Laws.{stacked-le}
use Rattle.reading.proofs.env.Ends.{handled-is, last_none, last-many, last_one, top-few, some-used}
use Rattle.reading.proofs.env.last_of.Goals as goal

pub returns-then-env-eq-WORKING : goal.returns-then-env-eq-WORKING
returns-then-env-eq-WORKING c v st s = last_none (shown c.args.book.now) st st.stack s.stack (omega arith) (handled-is s c.any_complex.ensures)

pub top_size-n-requires : goal.top_size-n-requires
top_size-n-requires c =
    let y = c.requires.1 in
    let below = y.some.1.below in
    let room = y.space.sizes in
    let low = stacked-le y.some.1.stack in
    (omega arith, omega arith)

pub overflow_add-n : goal.overflow_add-n
overflow_add-n c = let few = top-few c.requires.1 (some-used c.requires.1 c.if-env-eq-WORKING.false) c.top_size-n.ensures in omega arith

pub returns-then-n-env : goal.returns-then-n-env
returns-then-n-env c v st s =
    last-many (shown c.args.book.now) st st.stack s.stack (some-used c.requires.1 c.if-env-eq-WORKING.false) c.top_size-n.ensures c.if-n-env.true (handled-is s c.any_complex.ensures)

pub returns : goal.returns
returns c v st s =
    last_one st st.stack s.stack (some-used c.requires.1 c.if-env-eq-WORKING.false) c.top_size-n.ensures (omega arith) s.complex (handled-is s c.any_complex.ensures) s.pairs
