-- Sums without imaginary parts.
use Rattle.numbers.specs.Signs.{Zero}
use Rattle.sums.specs.Tree.Sums.{Sum, none, and}

-- every coefficient, at every level, has the imaginary part +0 or -0
unfoldable pub RealSum : Sum → Type 0
RealSum none = Unit {0}
RealSum (and k p i c r) = Zero c.im × RealSum i × RealSum r
