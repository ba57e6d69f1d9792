-- A plain record that is no push is a primitive. Assumes nothing.
use mathlib.Core.Path.{sym, ◌∙◌}
use Rattle.running.proofs.Laws.{push-way, work-way}
use Rattle.running.proofs.deed_of.Goals as goal

pub returns-then-is_a : goal.returns-then-is_a
returns-then-is_a c = push-way c.args.kind (sym c.is_a.ensures ∙ c.if-is_a.true)

pub returns-else-is_a : goal.returns-else-is_a
returns-else-is_a c = work-way c.args.kind c.requires (sym c.is_a.ensures ∙ c.if-is_a.false)
