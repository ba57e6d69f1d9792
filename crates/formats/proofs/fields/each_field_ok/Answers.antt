-- The tests are those of the rule, grouped the other way. Assumes nothing.
use mathlib.Core.Path.{◌≡◌, refl, ap, ap₂}
use mathlib.Core.Bool.{Bool, true, false, ◌&&◌, ◌||◌}
use lib.Dec.{eqb}
use Rattle.formats.specs.Names.{kind_of}
use Rattle.formats.specs.Rules.{is_a, is_known, fields_ok}
use Rattle.formats.specs.declared.record.Kind.TheVariants.{RealPush, ComplexPush, Primitive, Modifier, Body, Run, CustomInverse}
use Rattle.formats.proofs.fields.each_field_ok.Goals as goal

one : (x z : Bool) → (x || z) ≡ (x || false || z)
one true z = refl
one false z = refl

two : (x y z : Bool) → (x || y || z) ≡ (x || (y || false) || z)
two true y z = refl
two false y z = one y z

four : (x y v w z : Bool) → (x || y || v || w || z) ≡ (x || (y || (v || (w || false))) || z)
four true y v w z = refl
four false true v w z = refl
four false false true w z = refl
four false false false w z = one w z

pub returns : goal.returns
unfolding fields_ok
returns c =
    let r = c.args.r in
    rw (
      c.is_known-known.ensures,
      c.is_a-real.ensures,
      c.is_a-complex.ensures,
      c.is_a-primitive.ensures,
      c.is_a-modifier.ensures,
      c.is_a-body.ensures,
      c.is_a-run.ensures,
      c.is_a-custom.ensures,
    )
    (ap₂ ◌&&◌
    (ap₂ ◌&&◌
    (ap₂ ◌&&◌ (ap₂ ◌&&◌ (ap (◌&&◌ (is_known (kind_of r.kind) && eqb r.blank 0)) (two (is_a r Primitive) (is_a r Modifier) (eqb r.code 0))) (one (is_a r Body) (eqb r.args 0)))
    (four (is_a r Modifier) (is_a r Body) (is_a r Run) (is_a r CustomInverse) (eqb r.inside 0)))
    (two (is_a r RealPush) (is_a r ComplexPush) (eqb r.re 0)))
    (one (is_a r ComplexPush) (eqb r.im 0)))
