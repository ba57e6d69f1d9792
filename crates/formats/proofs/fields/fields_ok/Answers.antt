-- A modifier uses its code and what is inside it, a body its argument count and what is inside it. Assumes nothing.
use mathlib.Core.Path.{◌≡◌, refl, sym, ◌∙◌}
use mathlib.Core.Bool.{Bool, true, false, ◌&&◌}
use borrow.Author.Tests.{eqb-true}
use lib.Dec.{eqb}
use Rattle.formats.specs.Names.{kind_of}
use Rattle.formats.specs.Rules.{fields_ok}
use Rattle.formats.specs.declared.record.Record.{Record}
use Rattle.formats.proofs.fields.fields_ok.Goals as goal

of-modifier : (r : Record) → r.kind ≡ 6 → (eqb r.blank 0 && eqb r.args 0 && eqb r.re 0 && eqb r.im 0) ≡ fields_ok r
unfolding fields_ok kind_of
of-modifier r k = rw k (by (eqb r.blank 0) (eqb r.args 0) (eqb r.re 0) (eqb r.im 0))
  where
    by : (p q r s : Bool) → (p && q && r && s) ≡ (p && true && q && true && r && s)
    by true true r s = refl
    by true false r s = refl
    by false q r s = refl

of-body : (r : Record) → r.kind ≡ 7 → (eqb r.blank 0 && eqb r.code 0 && eqb r.re 0 && eqb r.im 0) ≡ fields_ok r
unfolding fields_ok kind_of
of-body r k = rw k (by (eqb r.blank 0) (eqb r.code 0) (eqb r.re 0) (eqb r.im 0))
  where
    by : (p q r s : Bool) → (p && q && r && s) ≡ (p && q && true && true && r && s)
    by true true r s = refl
    by true false r s = refl
    by false q r s = refl

pub returns-then-is_a : goal.returns-then-is_a
returns-then-is_a c = of-modifier c.args.r
    (eqb-true _ _ (sym c.is_a.ensures ∙ c.if-is_a.true))

pub returns-then-is_a-2 : goal.returns-then-is_a-2
returns-then-is_a-2 c = of-body c.args.r
    (eqb-true _ _ (sym c.is_a-2.ensures ∙ c.if-is_a-2.true))
