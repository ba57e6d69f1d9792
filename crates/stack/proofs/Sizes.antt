-- A sum that may lie on the stack has an entry. Assumes nothing.
use Prim.Native.Nat.{◌≤◌}
use native.Mathlib.Omega.{arith}
use mathlib.Core.Path.{◌≡◌, refl}
use mathlib.Core.Bool.{false}
use Rattle.sums.specs.Tree.Sums.{Sum, none, and, size}
use Rattle.sums.specs.Tree.Good.{is_empty}
use Rattle.arithmetic.specs.Singles.{GoodSum}
use Rattle.arithmetic.proofs.Steps.{differ}

size-some : (s : Sum) → is_empty s ≡ false → 1 ≤ size s
unfolding size
size-some none e = differ e
size-some (and k p i c r) e = omega arith

pub good-some : {s : Sum} → GoodSum s → 1 ≤ size s
good-some {s} g = size-some s g.some

pub not-empty : (s : Sum) → 1 ≤ size s → is_empty s ≡ false
unfolding size
not-empty none h = absurd (omega arith)
not-empty (and k p i c r) h = refl
