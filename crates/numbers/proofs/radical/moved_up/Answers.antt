-- Each turn doubles the digits and takes one from the power. Assumes nothing.
use mathlib.Core.Path.{refl}
use native.Mathlib.Omega.{arith}
use Rattle.numbers.proofs.radical.Scaling.{above, doubled}
use Rattle.numbers.proofs.radical.moved_up.Goals as goal

pub loop-digits-init : goal.loop-digits-init
loop-digits-init c = (refl, omega arith, omega arith, omega arith)

pub overflow_mul-digits : goal.overflow_mul-digits
overflow_mul-digits c = omega (arith, c.loop-digits-test.true)

pub overflow_sub-power : goal.overflow_sub-power
overflow_sub-power c = let i = c.loop-digits.invariant in omega (arith, above _ _ _ 1074 52 i.0 c.requires.0 c.loop-digits-test.true)

pub loop-digits-smaller : goal.loop-digits-smaller
loop-digits-smaller c = omega (arith, c.loop-digits-test.true, c.loop-digits.invariant.1)

pub loop-digits-preserved : goal.loop-digits-preserved
loop-digits-preserved c =
    let i = c.loop-digits.invariant in
    let a = above _ _ _ 1074 52 i.0 c.requires.0 c.loop-digits-test.true in
    (doubled _ _ _ _ (omega (arith, a)) i.0, omega (arith, i.1), omega (arith, c.loop-digits-test.true), omega (arith, i.3))

pub returns : goal.returns
returns c =
    let i = c.loop-digits.invariant in
    let a = above _ _ _ 1074 53 i.0 c.requires.0 i.2 in
    record { least = omega (arith, c.loop-digits-test.false); most = i.2; is = i.0; low = omega (arith, a); high = omega (arith, i.3) }
