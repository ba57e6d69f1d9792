-- `sums::bytes::answer` meets its contract: a good sum within the levels, a good sum beyond them, or none.
use Rattle.std.proofs.Common.{sym, ◌∙◌, true≢false}
use Rattle.sums.specs.Contract.Steps.{good, deep, bad}
use Rattle.sums.proofs.bytes.Theorem.{from_first}
use Rattle.sums.proofs.bytes.answer.Goals as goal

pub returns-then-good_sum : goal.returns-then-good_sum
returns-then-good_sum c = good ((from_first _ _ 4 _ c.good_sum.ensures).0 c.if-good_sum.true)

pub returns-then-good_sum-2 : goal.returns-then-good_sum-2
returns-then-good_sum-2 c =
    deep ((from_first _ _ 64 _ c.good_sum-2.ensures).0 c.if-good_sum-2.true) (λ h. true≢false (sym ((from_first _ _ 4 _ c.good_sum.ensures).1 h) ∙ c.if-good_sum.false))

pub returns : goal.returns
returns c = bad (λ h. true≢false (sym ((from_first _ _ 64 _ c.good_sum-2.ensures).1 h) ∙ c.if-good_sum-2.false))
