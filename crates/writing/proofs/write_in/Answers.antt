-- `write_in` meets its contract: the sum is written into a buffer with room for it, and what was said is answered.
use Rattle.writing.specs.ToNodes.{to_nodes}
use Rattle.writing.proofs.Whole.{ready-start, said-whole}
use Rattle.writing.proofs.write_in.Goals as goal

pub write_sum-s-requires : goal.write_sum-s-requires
write_sum-s-requires c = (c.requires.0, ready-start c.requires.1)

pub answer-requires : goal.answer-requires
answer-requires c = let h = c.requires.0 in (to_nodes c.args.complex h.0, said-whole c.args.complex h.0 c.requires.1 (c.write_sum-s.ensures h.0 h.1))

pub returns : goal.returns
returns c s l = c.answer.ensures (to_nodes c.args.complex s) (said-whole c.args.complex s c.requires.1 (c.write_sum-s.ensures s l))
