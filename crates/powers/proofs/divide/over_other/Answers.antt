-- The divisor is laid out as a sum of its own, and its Div is put in.
use Rattle.std.proofs.Common.{ℕ, ◌+◌, subst, arith}
use Rattle.numbers.specs.Complex.Arith as complex
use Rattle.numbers.specs.Signs.{zero64}
use Rattle.cells.specs.Contract.Book.{seen}
use Rattle.cells.specs.Contract.Moves.{Kept, over}
use Rattle.cells.proofs.Laws.{room-same, kept-wider, inserted-kept}
use Rattle.sums.specs.declared.tree.Merge.TheVariants.{Add}
use Rattle.sums.specs.Tree.Kinds.{Div}
use Rattle.sums.specs.Tree.Sums.{Sum, entry}
use Rattle.sums.specs.Tree.Map.{formed}
use Rattle.sums.specs.Contract.Lies.{Lies, Agrees}
use Rattle.sums.proofs.order.Walk.{lies-below}
use Rattle.arithmetic.specs.Singles.{single}
use Rattle.arithmetic.proofs.add.Places.{room-result, room-working}
use Rattle.powers.specs.Divide.Contract.Dividing.{Divisor}
use Rattle.powers.proofs.divide.Heads.{div-head, single-size, single-lies}
use Rattle.powers.proofs.divide.over_other.Goals as goal
use Rattle.powers.proofs.divide.over_other.Goals.{After-insert}

-- only working places were written
kept : (c : After-insert) → Kept (seen c.args.book.now) (seen c.insert.new.self) (c.args.w + 64) (c.args.w + 64 + 64)
kept c = let few = c.requires.0.held.1.few in kept-wider (omega arith) (omega arith) (inserted-kept c.insert.ensures.inserted)

laid : (c : After-insert) (v : Sum) → Divisor (seen c.args.book.now) c.args.y c.args.j v
    → Lies (seen c.insert.new.self) (c.args.w + 64) (c.args.w + 64 + (c.args.y.inside + 1)) 4 (single c.args.y.kind c.args.y.num v complex.one)
laid c v d = single-lies v (room-working c.args.w c.requires.1.room) c.insert.ensures.inserted d

-- the sum still lies
stays : (c : After-insert) (s : Sum) → Lies (seen c.args.book.now) c.args.w (c.args.w + c.args.n) 4 s → Lies (seen c.insert.new.self) c.args.w (c.args.w + c.args.n) 4 s
stays c s ls = let few = c.requires.1.few in lies-below c.args.w (c.args.w + c.args.n) 4 s (kept c) (omega arith) ls

pub put_block-requires-clause-good_head : goal.put_block-requires-clause-good_head
put_block-requires-clause-good_head c =
    let d = (goal.at.put_block-requires-clause-good_head c).After-insert in
    let held = c.requires.0.held in
    let few = held.1.few in
    (div-head (c.args.y.inside + 1) c.args.c (omega arith), (_, laid d held.0 held.1), over (omega arith))

pub put_block-requires-clause-n_le_sum_entries : goal.put_block-requires-clause-n_le_sum_entries
put_block-requires-clause-n_le_sum_entries c =
    let d = (goal.at.put_block-requires-clause-n_le_sum_entries c).After-insert in
    let work = c.requires.1 in
    (work.few, room-same (kept d).long (room-result c.args.w work.room), (work.held.0, stays d work.held.0 work.held.1))

pub returns-clause-of_divisor : goal.returns-clause-of_divisor
returns-clause-of_divisor c s v ls d =
    let ins = (goal.at.returns-clause-of_divisor c).After-insert in
    let t = single c.args.y.kind c.args.y.num v complex.one in
    subst (λ (n : ℕ). Agrees c.put_block.result (seen c.put_block.new.book) c.args.w (formed Add (entry Div n zero64 c.args.c) t s)) (single-size d)
    (c.put_block.ensures.of_two s t (stays ins s ls) (laid ins v d))
