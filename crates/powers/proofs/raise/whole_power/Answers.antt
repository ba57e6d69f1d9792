-- Which whole number it is decides.
use Rattle.std.proofs.Common.{sym, ◌∙◌, arith}
use Rattle.numbers.proofs.Wholes.{small-whole}
use Rattle.powers.proofs.raise.Pairs.{counted-agrees}
use Rattle.powers.proofs.raise.Whole.{whole-zero}
use Rattle.powers.proofs.raise.whole_power.Goals as goal

pub returns-then-k-eq0-clause-of_one : goal.returns-then-k-eq0-clause-of_one
returns-then-k-eq0-clause-of_one c s ls =
    let is = sym c.small_whole.ensures ∙ c.in-Some.is in
    counted-agrees _ _ _ _ c.counted.ensures (rw (is, whole-zero s _ c.if-k-eq0.true) c.constant_sum.ensures.agrees)

pub raise-requires : goal.raise-requires
raise-requires c =
    let most = ((small-whole c.args.e _).0 (sym c.small_whole.ensures ∙ c.in-Some.is)).0 in
    (omega (arith, most, c.if-k-eq0.false), c.requires.0, c.requires.1)
