-- `bring_down` meets its contract: the bytes lie in front of the rest.
use Rattle.std.proofs.Common.{◌+◌, ◌-◌, ◌++◌, List, ℕ, take, drop, ap, ◌∙◌, sym, arith}
use Rattle.writing.proofs.draft.Lying.{sets-range}
use Rattle.writing.proofs.faithful.bring_down.Goals as goal

pub returns : goal.returns
returns c =
    let b : List ℕ = c.args.b.now in
    let k : ℕ = c.args.from + c.args.n - c.args.from in
    c.copy_within.ensures.after
    ∙ ap (λ (x : ℕ). take k (drop c.args.from b) ++ drop x b) (omega arith)
    ∙ sym (sets-range b b c.args.from c.args.n k (omega arith) (omega arith) (omega arith))
