-- The sum goes over to the other book, the term is put in there, and what comes of it goes back.
use Rattle.std.proofs.Common.{◌≡◌, ℕ, ◌+◌, Ok, arith}
use Rattle.std.proofs.lemmas.Result.{err_from_is_err_and}
use Rattle.numbers.specs.Signs.{zero64}
use Rattle.cells.specs.Contract.Book.{seen}
use Rattle.cells.specs.Contract.Moves.{under}
use Rattle.cells.proofs.Laws.{room-less, room-same, kept-wider, copied-kept}
use Rattle.sums.specs.declared.tree.Merge.TheVariants.{Add}
use Rattle.sums.specs.Tree.Kinds.{Div}
use Rattle.sums.specs.Tree.Sums.{Sum, entry}
use Rattle.sums.specs.Tree.Map.{formed}
use Rattle.sums.specs.Contract.Lies.{Lies, Agrees}
use Rattle.sums.proofs.order.Walk.{lies-below, lies-copied}
use Rattle.arithmetic.proofs.add.Lying.{Agreed, agreed-done, agreed-refused, agree-done, agree-refused}
use Rattle.arithmetic.proofs.multiply.Laws.{div-head}
use Rattle.arithmetic.proofs.multiply.put_div.Goals as goal
use Rattle.arithmetic.proofs.multiply.put_div.Goals.{After-copy_in, After-put_block}

-- the sum lies in the other book
copied : (c : After-copy_in) (s : Sum) → Lies (seen c.args.book.now) c.args.p (c.args.p + c.args.n) 4 s → Lies (seen c.copy_in.new.self) 192 (192 + c.args.n) 4 s
copied c s ls = lies-copied (rw c.cells.ensures at c.copy_in.ensures.copied) (room-less {n = 256} (omega (arith, c.requires.growing.few)) c.requires.inner.3) ls

-- and so does the inside
inside : (c : After-copy_in) (w : Sum) → Lies (seen c.args.other.now) 128 (128 + c.args.k) 4 w → Lies (seen c.copy_in.new.self) 128 (128 + c.args.k) 4 w
inside c w lw = lies-below 128 (128 + c.args.k) 4 w (copied-kept c.copy_in.ensures.copied) (omega (arith, c.requires.inner.1)) lw

-- what was answered there
told : (c : After-put_block) (w s : Sum) → Lies (seen c.args.other.now) 128 (128 + c.args.k) 4 w → Lies (seen c.args.book.now) c.args.p (c.args.p + c.args.n) 4 s
    → Agrees c.put_block.result (seen c.put_block.new.book) 192 (formed Add (entry Div c.args.k zero64 c.args.coef) w s)
told c w s lw ls = let d = (goal.at.After-put_block c).After-copy_in in c.put_block.ensures.of_two s w (copied d s ls) (inside d w lw)

-- a sum was made, of the sums that the contract asks for
made : (c : After-put_block) (m : ℕ) → c.put_block.result ≡ Ok m
    → Agreed (seen c.put_block.new.book) 192 m (formed Add (entry Div c.args.k zero64 c.args.coef) c.requires.inner.2.0 c.requires.growing.held.0)
made c m e = agreed-done (seen c.put_block.new.book) 192 m c.put_block.result _ (told c _ _ c.requires.inner.2.1 c.requires.growing.held.1) e

pub put_block-requires-clause-good_head : goal.put_block-requires-clause-good_head
put_block-requires-clause-good_head c =
    let d = (goal.at.put_block-requires-clause-good_head c).After-copy_in in
    let pre = c.requires.inner in
    (div-head c.args.k c.args.coef pre.0, (pre.2.0, inside d pre.2.0 pre.2.1), under (omega (arith, pre.1)))

pub put_block-requires-clause-n_le_sum_entries : goal.put_block-requires-clause-n_le_sum_entries
put_block-requires-clause-n_le_sum_entries c =
    let d = (goal.at.put_block-requires-clause-n_le_sum_entries c).After-copy_in in
    let pre = c.requires.growing in
    (pre.few, room-same c.copy_in.ensures.copied.long c.requires.inner.3, (pre.held.0, copied d pre.held.0 pre.held.1))

pub returns-in_err-m-clause-of_inner : goal.returns-in_err-m-clause-of_inner
returns-in_err-m-clause-of_inner c w s lw ls =
    let d = (goal.at.returns-in_err-m-clause-of_inner c).After-put_block in
    let p = err_from_is_err_and c.from_residual.result c.from_residual.ensures.1 in
    rw (p.1, p.2)
    (agree-refused (seen c.args.book.now) c.args.p _ _ (agreed-refused (seen c.put_block.new.book) 192 _ c.put_block.result _ (told d w s lw ls) c.in_err-m.was))

pub copy_in-requires-2 : goal.copy_in-requires-2
copy_in-requires-2 c =
    let few = (made (goal.at.copy_in-requires-2 c).After-put_block c.in_ok-m.m c.in_ok-m.was).few in
    let room = room-same c.put_block.ensures.kept.long (room-same c.copy_in.ensures.copied.long c.requires.inner.3) in
    rw c.cells-2.ensures (room-less {n = 256} (omega arith) room, room-less {n = c.args.p + 64} (omega arith) c.requires.growing.room)

pub returns-clause-kept : goal.returns-clause-kept
returns-clause-kept c =
    let few = (made (goal.at.returns-clause-kept c).After-put_block c.in_ok-m.m c.in_ok-m.was).few in
    kept-wider (omega arith) (omega arith) (copied-kept c.copy_in-2.ensures.copied)

pub returns-clause-of_inner : goal.returns-clause-of_inner
returns-clause-of_inner c w s lw ls =
    let d = (goal.at.returns-clause-of_inner c).After-put_block in
    let a = agreed-done (seen c.put_block.new.book) 192 _ c.put_block.result _ (told d w s lw ls) c.in_ok-m.was in
    let few = a.few in
    agree-done (seen c.copy_in-2.new.self) c.args.p _ _ a.s a.is a.few
    (lies-copied (rw c.cells-2.ensures at c.copy_in-2.ensures.copied) (room-less {n = c.args.p + 64} (omega arith) c.requires.growing.room) a.lies)
