-- `copy_out` meets its contract: the bytes lie in front of the rest.
use Rattle.std.proofs.Common.{◌++◌, List, ℕ, drop, ap, ◌∙◌, sym, arith}
use Rattle.writing.proofs.draft.Lying.{sets-range}
use Rattle.writing.proofs.draft.copy_out.Goals as goal

pub returns : goal.returns
returns c =
    ap (λ (l : List ℕ). l ++ drop c.args.n c.args.out.now) c.copy_from_slice.ensures.after
    ∙ sym (sets-range c.args.b.now c.args.out.now c.args.from c.args.n _ (omega arith) (omega arith) (omega arith))
