-- The number is below zero, or isn't finite, or has a root. Assumes nothing.
use mathlib.Core.Path.{sym, ap, ◌∙◌}
use lib.Ieee.{Float}
use Rattle.std.specs.Prelude.{Ok}
use Rattle.running.specs.declared.Left.TheVariants.{One}
use Rattle.running.proofs.Laws.{root_below, root-else, root-not-finite}
use Rattle.running.proofs.act.square_root.Goals as goal

pub returns-then-a : goal.returns-then-a
returns-then-a c = sym (root_below c.args.a c.if-a.true)

pub returns-then-not-is_finite : goal.returns-then-not-is_finite
returns-then-not-is_finite c = sym (root-not-finite c.args.a c.if-a.false (sym c.is_finite.ensures ∙ c.if-not-is_finite.true))

pub returns : goal.returns
returns c = ap (λ (v : Float). Ok (One v)) c.sqrt.ensures ∙ sym (root-else c.args.a c.if-a.false)
