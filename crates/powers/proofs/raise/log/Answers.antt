-- The base is a real number, or there is no logarithm.
use Rattle.std.proofs.Common.{refl, sym, ap, ◌∙◌}
use Rattle.powers.specs.Raise.Contract.Reals.{real_of}
use Rattle.powers.proofs.raise.Reals.{log-real, log-not}
use Rattle.powers.proofs.raise.log.Goals as goal

pub returns-in-Some-clause-of_two : goal.returns-in-Some-clause-of_two
returns-in-Some-clause-of_two c s t ls lt =
    let base = ap real_of (sym ((rw c.cells.ensures at c.as_constant.ensures) t lt)) ∙ sym c.real_of.ensures ∙ c.in-Some.is in
    rw (log-real s t _ base) (c.over.ensures.of_one s ls)

pub returns-in-None-clause-of_two : goal.returns-in-None-clause-of_two
returns-in-None-clause-of_two c s t ls lt =
    let base = ap real_of (sym ((rw c.cells.ensures at c.as_constant.ensures) t lt)) ∙ sym c.real_of.ensures ∙ c.in-None.is in
    rw (log-not s t base) refl
