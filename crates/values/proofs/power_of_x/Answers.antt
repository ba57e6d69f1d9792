-- It goes on from the last power formed, or begins anew.
use native.Mathlib.Omega.{arith}
use mathlib.Core.Path.{refl, ◌∙◌}
use Rattle.running.specs.Primitives.{times}
use Rattle.values.proofs.Laws.{times-from}
use Rattle.values.proofs.power_of_x.Goals as goal

pub returns-then-f-n : goal.returns-then-f-n
returns-then-f-n c =
    let f = c.args.f in
    let last = c.requires.0 in
    c.multiplied_on.ensures ∙ times-from f.exponent c.args.n c.args.x f.power last.low (omega (arith, c.if-f-n.true)) last.formed

pub multiplied_on-requires-2 : goal.multiplied_on-requires-2
multiplied_on-requires-2 c = omega (arith, c.requires.1)

pub returns : goal.returns
unfolding times
returns c = c.multiplied_on-2.ensures ∙ times-from 1 c.args.n c.args.x c.args.x (omega arith) (omega (arith, c.requires.1)) refl
