-- Two constants take one operation each, anything else a product and a sum.
use Rattle.std.proofs.Common.{sym, ◌∙◌}
use Rattle.arithmetic.specs.Singles.{as_constant}
use Rattle.powers.proofs.divide.Divisors.{constant-is, constant-other}
use Rattle.primitives.proofs.complex.Goals as goal

pub returns-in_default-clause-of_two : goal.returns-in_default-clause-of_two
returns-in_default-clause-of_two c b a lb la =
    rw (constant-other (as_constant a) (sym ((rw c.cells-2.ensures at c.as_constant-second.ensures) a la) ∙ c.in_default.is)) (c.add_times_i.ensures.of_two b a lb la)

pub returns-in_default-first-clause-of_two : goal.returns-in_default-first-clause-of_two
returns-in_default-first-clause-of_two c b a lb la =
    let e = constant-is (as_constant a) (sym ((rw c.cells-2.ensures at c.as_constant-second.ensures) a la) ∙ c.in-Some.is) in
    let d = constant-other (as_constant b) (sym ((rw c.cells.ensures at c.as_constant-first.ensures) b lb) ∙ c.in_default-first.is) in
    rw (e, d) (c.add_times_i-in_default-first.ensures.of_two b a lb la)
