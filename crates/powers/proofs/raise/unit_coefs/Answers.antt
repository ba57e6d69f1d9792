-- Each cell is read: a coefficient that isn't 1 ends the walk, or its inside is what is asked.
use Rattle.std.proofs.Common.{◌+◌, sym, ◌∙◌, arith}
use Rattle.arithmetic.specs.Power.{unit_coefs}
use Rattle.powers.proofs.raise.Down.{down-start, down-reads, down-next, units-stop, units-more, units-none}
use Rattle.powers.proofs.raise.unit_coefs.Goals as goal

pub loop-k-init : goal.loop-k-init
loop-k-init c s l = (c.args.i + c.args.n, omega arith, (λ h. h), down-start unit_coefs l)

pub load-x-requires : goal.load-x-requires
load-x-requires c = let w = c.loop-k.invariant _ c.requires.1 in down-reads w.3 (w.2 c.loop-k-test.true)

pub returns-then-not-is_one : goal.returns-then-not-is_one
returns-then-not-is_one c s l =
    let w = c.loop-k.invariant s l in
    sym (units-stop c.load-x.ensures w.3 (w.2 c.loop-k-test.true) (sym c.is_one.ensures ∙ c.if-not-is_one.true))

pub returns-then-x-eq0 : goal.returns-then-x-eq0
returns-then-x-eq0 c s l =
    let w = c.loop-k.invariant s l in
    sym (units-none (units-more c.load-x.ensures w.3 (w.2 c.loop-k-test.true) (sym c.is_one.ensures ∙ c.if-not-is_one.false)) (omega arith))

pub loop-k-preserved : goal.loop-k-preserved
loop-k-preserved c s l =
    let w = c.loop-k.invariant s l in
    let h = w.2 c.loop-k-test.true in
    let n = down-next w.3 c.load-x.ensures h in (
      c.loop-k.k + 1 + c.load-x.result.inside,
      omega (arith, n.within, w.1),
      (λ g. omega arith),
      units-more c.load-x.ensures w.3 h (sym c.is_one.ensures ∙ c.if-not-is_one.false),
    )

pub returns : goal.returns
returns c s l = let w = c.loop-k.invariant s l in sym (units-none w.3 (omega (arith, w.1)))
