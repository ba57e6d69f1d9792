-- `expr_to_node` meets its contract: a sum of powers alone is written by the first writer, which writes the same list.
use Rattle.std.proofs.Common.{◌≡◌, ◌+◌, arith, refl, sym, subst}
use Rattle.cells.specs.Contract.Book.{shown, at}
use Rattle.sums.specs.Tree.Sums.{size}
use Rattle.sums.specs.Contract.Place.{powers}
use Rattle.writing.specs.Draft.Writing.{Written}
use Rattle.writing.specs.Draft.Contract.Lying.{Answered}
use Rattle.writing.proofs.Writers.{alike, all-powers}
use Rattle.writing.proofs.faithful.expr_to_node.Goals as goal

pub returns-then-powers_end-j : goal.returns-then-powers_end-j
returns-then-powers_end-j c s l =
    let end = c.powers_end.ensures.by_index (at (shown c.args.book.now)) s (λ k. refl) l.laid l.good (omega (arith, l.ends)) in
    let same : powers s ≡ size s = omega (arith, l.ends) in
    subst (λ (w : Written). Answered c.args.out.now c.expr_to_node.new.out c.expr_to_node.result w) (sym (alike c.args.complex s (all-powers s same))) (c.expr_to_node.ensures s l)
