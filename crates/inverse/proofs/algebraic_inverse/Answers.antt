-- `algebraic_inverse` meets its contract: what was written is what undoes the sum.
use Rattle.std.proofs.Common.{subst}
use Rattle.writing.specs.Draft.Contract.Lying.{Answered}
use Rattle.inverse.proofs.Searching.{inverse-is}
use Rattle.inverse.proofs.algebraic_inverse.Goals as goal

pub returns : goal.returns
returns c s l =
    subst (Answered _ _ _) (inverse-is c.args.complex s (c.coef_of-a.ensures s l) (c.coef_of-q.ensures s l) (c.coef_of-c.ensures s l) (c.others_of-more.ensures s l))
    (c.answer.ensures _ c.undo-s.ensures.lies)
