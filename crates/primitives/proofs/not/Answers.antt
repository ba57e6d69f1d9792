-- The sum is taken from a 1.
use Rattle.std.proofs.Common.{◌+◌, arith}
use Rattle.numbers.specs.Complex.Arith.{one}
use Rattle.cells.specs.Contract.Book.{seen}
use Rattle.cells.specs.Contract.Moves.{Kept}
use Rattle.cells.proofs.Laws.{room-less, room-same, kept-wider, put-kept}
use Rattle.arithmetic.specs.Singles.{constant}
use Rattle.sums.specs.Contract.Lies.{Lies}
use Rattle.arithmetic.proofs.add.Lying.{clear, lies-clear, operand-kept}
use Rattle.primitives.proofs.Constants.{constant-lies, one-finite, one-fits}
use Rattle.primitives.proofs.not.Goals as goal
use Rattle.primitives.proofs.not.Goals.{After-store}

kept : (c : After-store) → Kept (seen c.args.book.now) (seen c.store.new.self) c.args.p (c.args.p + 64)
kept c = kept-wider (omega arith) (omega arith) (put-kept c.store.ensures.put)

laid : (c : After-store) → Lies (seen c.store.new.self) c.args.p (c.args.p + 1) 4 (constant one)
laid c = constant-lies one one-finite c.args.p (room-less {n = c.args.p + 64} (omega arith) c.requires.1) one-fits c.store.ensures.put

pub add_each-requires : goal.add_each-requires
add_each-requires c =
    let d = (goal.at.add_each-requires c).After-store in
    (operand-kept (kept d) c.requires.0, record { few = omega arith; room = room-same (kept d).long c.requires.1; held = (constant one, laid d) })

pub returns-clause-of_one : goal.returns-clause-of_one
returns-clause-of_one c s ls =
    let d = (goal.at.returns-clause-of_one c).After-store in
    c.add_each.ensures.of_two (constant one) s (laid d) (lies-clear (kept d) (clear c.requires.0.apart) ls)
