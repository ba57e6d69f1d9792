-- The root in whole numbers is rounded by what is left. Assumes nothing.
use Prim.Native.Nat.{ℕ, ◌+◌, ◌-◌, ◌*◌, ◌%◌, ◌^◌, ◌≤◌, ◌<◌}
use mathlib.Core.Path.{◌≡◌}
use mathlib.Core.Logic.{inl, inr}
use native.Mathlib.Omega.{arith}
use Rattle.numbers.specs.declared.radical.Scaled.{Scaled}
use Rattle.numbers.specs.declared.radical.Rooted.{Rooted}
use Rattle.numbers.specs.Radical.Contract.Steps.{WholeRoot, Rounds}
use Rattle.numbers.proofs.radical.Squares.{Largest, largest, long, short}
use Rattle.numbers.proofs.radical.Scaling.{times-least, times-most, no_more}
use Rattle.numbers.proofs.radical.rounded.Goals as goal

-- the digits are taken once or twice
module _ (s : Scaled) (d : Rooted) (least : 2 ^ 52 ≤ s.digits) (most : s.digits < 2 ^ 53) (is : WholeRoot (s.digits * (s.power % 2 + 1)) d) where
  abbrev m : ℕ
  m = s.digits * (s.power % 2 + 1)

  below : m ≤ 2 ^ 54 - 2
  below = times-most s.digits (s.power % 2) most (omega arith)

  floor : Largest (m * 2 ^ 52) d.root
  floor = largest (m * 2 ^ 52) d.root d.rem is.square is.left

  few : d.root < 2 ^ 53
  few = short (m * 2 ^ 52) d.root floor (omega (arith, below))

  many : 2 ^ 52 ≤ d.root
  many = long (m * 2 ^ 52) d.root floor (omega (arith, times-least s.digits (s.power % 2) least))

  down : (k bits : ℕ) → k < 2000 → d.rem ≤ d.root → bits ≡ k * 2 ^ 52 + d.root → Rounds m k bits
  down k bits h r e = record {
    q = d.root;
    rem = d.rem;
    square = is.square;
    left = is.left;
    long = many;
    fits = omega (arith, few);
    gives = inl (r, e, few);
  }

  up : (k bits : ℕ) → k < 2000 → d.root < d.rem → bits ≡ k * 2 ^ 52 + (d.root + 1) → Rounds m k bits
  up k bits h r e =
      let more : d.root + 1 < 2 ^ 53 = no_more m d.root d.rem is.square is.left below r in
      record { q = d.root; rem = d.rem; square = is.square; left = is.left; long = many; fits = omega arith; gives = inr (r, e, more) }

pub overflow_add-low : goal.overflow_add-low
overflow_add-low c =
    let pre = c.requires in
    record { fits = omega (arith, few _ _ pre.0 pre.1 c.whole_root-d.ensures, pre.3) }

pub overflow_add-result : goal.overflow_add-result
overflow_add-result c =
    let pre = c.requires in
    record { fits = omega (arith, few _ _ pre.0 pre.1 c.whole_root-d.ensures, pre.3) }

pub returns-then-d : goal.returns-then-d
returns-then-d c =
    let pre = c.requires in
    up _ _ pre.0 pre.1 c.whole_root-d.ensures _ _ (omega (arith, pre.3)) (omega (arith, c.if-d.true)) (omega arith)

pub returns-else-d : goal.returns-else-d
returns-else-d c =
    let pre = c.requires in
    down _ _ pre.0 pre.1 c.whole_root-d.ensures _ _ (omega (arith, pre.3)) (omega (arith, c.if-d.false)) (omega arith)
