-- Laws of the logarithms of bases. Assumes nothing.
use mathlib.Core.Path.{◌≡◌, refl}
use mathlib.Core.Bool.{true, false}
use lib.Ieee.{Float, eq}
use Rattle.numbers.specs.Constants.{euler, ln2, ln10, two64}
use Rattle.numbers.specs.Signs.{one64}
use Rattle.std.specs.Prelude.{Some, None}
use Rattle.calculus.specs.Derivative.{ln_of, ten64}

module _ (b : Float) {x : Float} (e : x ≡ euler) where
  pub ln-one : eq b x ≡ true → Some one64 ≡ ln_of b
  ln-one h = rw (rw (e) at h) refl

  module _ (h : eq b x ≡ false) where
    pub ln-two : {l : Float} → l ≡ ln2 → eq b two64 ≡ true → Some l ≡ ln_of b
    ln-two m q = rw (rw e at h) (rw q (rw m refl))

    pub ln-ten : {l : Float} → l ≡ ln10 → eq b two64 ≡ false → eq b ten64 ≡ true → Some l ≡ ln_of b
    ln-ten m q r = rw (rw e at h) (rw q (rw r (rw m refl)))

    pub ln-other : eq b two64 ≡ false → eq b ten64 ≡ false → None ≡ ln_of b
    ln-other q r = rw (rw e at h) (rw q (rw r refl))
