-- By the number of bodies that the modifier has.
use Rattle.std.proofs.Common.{◌≡◌, sym, ◌∙◌}
use Rattle.formats.specs.declared.record.Modifier.{Modifier}
use Rattle.modifiers.specs.Contract.Plans.{way_of}
use Rattle.modifiers.specs.declared.Way.{Way}
use Rattle.modifiers.proofs.Plans.{use-one, use-two, not_listed}
use Rattle.modifiers.proofs.use_of.Goals as goal

-- the way, from what the two calls say and what the match told
way-is : {w v : Way} {m n : Modifier} → w ≡ way_of m → m ≡ n → w ≡ v → way_of n ≡ v
way-is {w} {v} {m} {n} p q e = rw (← q) (sym p ∙ e)

pub returns-in-One : goal.returns-in-One
returns-in-One c =
    use-one _ _ _ c.count_nodes-n.result c.count_nodes-n.ensures _ (way-is c.way_of.ensures c.modifier_of.ensures c.in-One.is) c.counted.ensures

pub returns-in-Two : goal.returns-in-Two
returns-in-Two c =
    use-two _ _ _ c.count_nodes-n.result c.count_nodes-n.ensures _ (way-is c.way_of.ensures c.modifier_of.ensures c.in-Two.is) c.counted-in-Two.ensures

pub returns-in-Unlisted : goal.returns-in-Unlisted
returns-in-Unlisted c h st = not_listed _ (way-is c.way_of.ensures c.modifier_of.ensures c.in-Unlisted.is) _ _ h st
