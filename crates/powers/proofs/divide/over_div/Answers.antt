-- The inside is added, or the product that is formed in the working places.
use Rattle.std.proofs.Common.{◌+◌, arith}
use Rattle.cells.specs.Contract.Book.{seen}
use Rattle.cells.specs.Contract.Moves.{over}
use Rattle.cells.proofs.Laws.{room-same}
use Rattle.sums.specs.Tree.Sums.{Sum}
use Rattle.sums.specs.Contract.Lies.{Lies}
use Rattle.sums.proofs.order.Walk.{lies-below}
use Rattle.arithmetic.specs.Product.{product}
use Rattle.arithmetic.specs.Quotient.{x_to}
use Rattle.arithmetic.proofs.add.Lying.{Agreed, agreed-done}
use Rattle.arithmetic.proofs.add.Places.{room-result}
use Rattle.powers.proofs.divide.over_div.Goals as goal
use Rattle.powers.proofs.divide.over_div.Goals.{In_ok-k}

-- the product
product-of : (c : In_ok-k) (v : Sum) → Lies (seen c.args.book.now) c.args.j (c.args.j + c.args.m) 4 v
    → Agreed (seen c.times_x.new.book) (c.args.w + 64) c.in_ok-k.k (product (x_to c.args.x.num) v)
product-of c v lv =
    agreed-done (seen c.times_x.new.book) (c.args.w + 64) c.in_ok-k.k c.times_x.result (product (x_to c.args.x.num) v) (c.times_x.ensures.of_one v lv) c.in_ok-k.was

-- the sum still lies
stays : (c : In_ok-k) (s : Sum) → Lies (seen c.args.book.now) c.args.w (c.args.w + c.args.n) 4 s → Lies (seen c.times_x.new.book) c.args.w (c.args.w + c.args.n) 4 s
stays c s ls = let few = c.requires.1.few in lies-below c.args.w (c.args.w + c.args.n) 4 s c.times_x.ensures.kept (omega arith) ls

pub add_each-requires-2 : goal.add_each-requires-2
add_each-requires-2 c =
    let d = (goal.at.add_each-requires-2 c).In_ok-k in
    let source = c.requires.0.held in
    let work = c.requires.1 in
    let a = product-of d source.0 source.1 in (
      record { few = a.few; held = (a.s, a.lies); apart = over (omega arith) },
      record { few = work.few; room = room-same c.times_x.ensures.kept.long (room-result c.args.w work.room); held = (work.held.0, stays d work.held.0 work.held.1) },
    )

pub returns-clause-of_two : goal.returns-clause-of_two
returns-clause-of_two c s v ls lv =
    let d = (goal.at.returns-clause-of_two c).In_ok-k in
    let a = product-of d v lv in
    rw (← c.is_one.ensures, c.if-is_one.false, a.is) (c.add_each-2.ensures.of_two s a.s (stays d s ls) a.lies)
