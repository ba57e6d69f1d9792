-- In each arm the primitive is the arm's; only a product and a power count pairs.
use Rattle.std.proofs.Common.{sym}
use Rattle.primitives.proofs.Cases.{pairs-none, pairs-mul, pairs-pow}
use Rattle.primitives.proofs.form_two.Goals as goal

pub returns-in-Mul-clause-of_two_2 : goal.returns-in-Mul-clause-of_two_2
returns-in-Mul-clause-of_two_2 c b a lb la = rw (c.in-Mul.is, pairs-mul b a) (c.multiplied.ensures.of_two_2 b a lb la)

pub returns-in-Pow-clause-of_two_2 : goal.returns-in-Pow-clause-of_two_2
returns-in-Pow-clause-of_two_2 c b a lb la = rw (c.in-Pow.is, pairs-pow b a) (c.pow.ensures.of_two_2 b a lb la)

pub returns-in_default : goal.returns-in_default
returns-in_default c = record {
  kept = c.form_uncounted.ensures.kept;
  of_two = c.form_uncounted.ensures.of_two;
  of_two_2 = λ b a lb la n e. sym (pairs-none _ b a (c.in_default.not-Mul, c.in_default.not-Pow));
  same_slices = c.form_uncounted.ensures.same_slices;
}
