-- Of a power of x there is nothing inside.
use Rattle.arithmetic.proofs.add.Lying.{put-power-term}
use Rattle.arithmetic.proofs.add.put_term.Goals as goal

pub returns-then-x-eq-X-clause-of_two : goal.returns-then-x-eq-X-clause-of_two
returns-then-x-eq-X-clause-of_two c s t ls lt =
    put-power-term _ c.args.p c.put_power.result c.args.how s c.requires.good_head.0 c.if-x-eq-X.true lt (c.put_power.ensures.of_one s ls)
