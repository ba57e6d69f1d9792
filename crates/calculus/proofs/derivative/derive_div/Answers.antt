-- The square is formed in the working places, and the Div of it is put in.
use Rattle.std.proofs.Common.{◌+◌, refl, sym, ap, subst, ◌∙◌, arith}
use Rattle.cells.specs.declared.Entry.{Entry}
use Rattle.cells.specs.Contract.Book.{seen}
use Rattle.cells.specs.Contract.Moves.{over}
use Rattle.cells.proofs.Laws.{room-same, kept_trans}
use Rattle.sums.specs.declared.tree.Merge.TheVariants.{Add}
use Rattle.sums.specs.Tree.Kinds as kinds
use Rattle.sums.specs.Tree.Sums.{Sum}
use Rattle.sums.specs.Tree.Map.{Outcome, and_then_sum}
use Rattle.arithmetic.specs.Product.{product}
use Rattle.calculus.specs.Derivative.{turned_to}
use Rattle.sums.specs.Contract.Lies.{Lies, Agrees}
use Rattle.sums.proofs.order.Walk.{lies-below}
use Rattle.arithmetic.proofs.add.Lying.{Agreed, agreed-done}
use Rattle.arithmetic.proofs.add.Places.{kept_result, kept-working, room-result}
use Rattle.calculus.proofs.Into.{over-head}
use Rattle.calculus.proofs.derivative.Steps.{turned_as, square-some}
use Rattle.calculus.proofs.derivative.derive_div.Goals as goal
use Rattle.calculus.proofs.derivative.derive_div.Goals.{In_ok-k}

-- the square, where it was formed
squared : (c : In_ok-k) (t : Sum) → Lies (seen c.args.book.now) c.args.i (c.args.i + c.args.x.inside) 4 t
    → Agreed (seen c.mul.new.book) (c.args.w + 64) c.in_ok-k.k (product t t)
squared c t lt = agreed-done (seen c.mul.new.book) (c.args.w + 64) c.in_ok-k.k c.mul.result (product t t) (c.mul.ensures.of_two t t lt lt) c.in_ok-k.was

-- that of the argument that the contract asks for
square : (c : In_ok-k) → Agreed (seen c.mul.new.book) (c.args.w + 64) c.in_ok-k.k (product c.requires.0.argument.held.0 c.requires.0.argument.held.0)
square c = let held = c.requires.0.argument.held in squared c held.0 held.1

-- the sum still lies
stays : (c : In_ok-k) (s : Sum) → Lies (seen c.args.book.now) c.args.w (c.args.w + c.args.len) 4 s → Lies (seen c.mul.new.book) c.args.w (c.args.w + c.args.len) 4 s
stays c s ls = let few = c.requires.0.few in lies-below c.args.w (c.args.w + c.args.len) 4 s c.mul.ensures.kept (omega arith) ls

-- what becomes of the square
abbrev with-square : Entry → Sum → Outcome → Outcome
with-square x s o = and_then_sum o (λ u. turned_to kinds.Div x.coef u Add s)

pub overflow_cast-y : goal.overflow_cast-y
overflow_cast-y c = let few = (square (goal.at.overflow_cast-y c).In_ok-k).few in omega arith

pub put_block-requires-clause-good_head : goal.put_block-requires-clause-good_head
put_block-requires-clause-good_head c =
    let y = c.requires.0.argument in
    let a = square (goal.at.put_block-requires-clause-good_head c).In_ok-k in
    let some = square-some y.held.1 c.requires.1 y.few a.is in
    let sized = a.sized in
    (over-head kinds.Div _ c.args.x.coef (omega arith) (omega arith) (omega arith), (a.s, a.lies), over (omega arith))

pub put_block-requires-clause-n_le_sum_entries : goal.put_block-requires-clause-n_le_sum_entries
put_block-requires-clause-n_le_sum_entries c =
    let y = c.requires.0 in
    (y.few, room-same c.mul.ensures.kept.long (room-result c.args.w y.room), (y.held.0, stays (goal.at.put_block-requires-clause-n_le_sum_entries c).In_ok-k y.held.0 y.held.1))

pub returns-clause-into : goal.returns-clause-into
returns-clause-into c =
    let d = (goal.at.returns-clause-into c).In_ok-k in
    record {
      kept = kept_trans (kept-working c.mul.ensures.kept) (kept_result c.put_block.ensures.kept);
      agrees =
          λ s t ls lt.
          let a = squared d t lt in
          subst (Agrees c.put_block.result (seen c.put_block.new.book) c.args.w) (turned_as a.s s refl refl refl (sym a.sized) ∙ sym (ap (with-square c.args.x s) a.is))
          (c.put_block.ensures.of_two s a.s (stays d s ls) a.lies);
    }
