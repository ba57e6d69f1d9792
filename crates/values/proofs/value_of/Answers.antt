-- What was found is judged, where x is finite.
use mathlib.Core.Path.{refl, sym, ◌∙◌}
use Rattle.values.specs.ValueOf.{value_of}
use Rattle.values.proofs.Laws.{judged-all}
use Rattle.values.proofs.value_of.Goals as goal

pub returns-then-not-is_finite : goal.returns-then-not-is_finite
unfolding value_of
returns-then-not-is_finite c s l = rw (sym c.is_finite.ensures ∙ c.if-not-is_finite.true) refl

pub returns : goal.returns
unfolding value_of
returns c s l = c.judge.ensures ∙ judged-all _ s c.find-f.result (sym c.is_finite.ensures ∙ c.if-not-is_finite.false) (c.find-f.ensures s l)
