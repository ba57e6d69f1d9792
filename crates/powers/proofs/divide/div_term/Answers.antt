-- A power of x by Div, where the inside of the divisor is a sum to divide by.
use Rattle.std.proofs.Common.{sym, ap, subst, ◌∙◌}
use Rattle.numbers.specs.declared.complex.Complex.{Complex}
use Rattle.cells.specs.Contract.Book.{seen}
use Rattle.sums.specs.Contract.Lies.{Agrees}
use Rattle.arithmetic.proofs.add.Lying.{lies-deeper}
use Rattle.powers.specs.Divide.Contract.Dividing.{over_div}
use Rattle.powers.proofs.divide.Places.{inside-source}
use Rattle.powers.proofs.divide.Terms.{by-div}
use Rattle.powers.proofs.divide.div_term.Goals as goal

pub over_div-requires : goal.over_div-requires
over_div-requires c = (inside-source c.requires.2, c.requires.3)

pub returns-then-code-eq-X_BY_DIV-clause-of_divisor : goal.returns-then-code-eq-X_BY_DIV-clause-of_divisor
returns-then-code-eq-X_BY_DIV-clause-of_divisor c s v ls d =
    let x = c.args.x in
    let y = c.args.y in
    subst (Agrees c.over_div.result (seen c.over_div.new.book) c.args.w)
    (ap (λ (k : Complex). over_div x k s v) c.div-c.ensures ∙ sym (by-div x y v s (sym c.quotient_code-code.ensures ∙ c.if-code-eq-X_BY_DIV.true)))
    (c.over_div.ensures.of_two s v ls (lies-deeper d.lies))
