-- The square of q by its two halves, taken from m * 2 ^ 52 part by part. Assumes nothing.
use Prim.Native.Nat.{ℕ, ◌+◌, ◌-◌, ◌*◌, ◌/◌, ◌%◌, ◌^◌, ◌≤◌}
use mathlib.Core.Path.{◌≡◌, refl, subst}
use native.Mathlib.Omega.{arith}
use native.Mathlib.Nat.{div-add-mod'}
use Rattle.numbers.proofs.radical.left_by.Goals as goal

-- f and s are what is left after the first part and the second
parts : (q h l m f s r : ℕ) → h * 2 ^ 27 + l ≡ q → h * h * 4 ≤ m → f ≡ m - h * h * 4 → h * l * 2 ≤ f * 2 ^ 25 → s ≡ f * 2 ^ 25 - h * l * 2 → l * l ≤ s * 2 ^ 27 → r ≡ s * 2 ^ 27 - l * l
    → q * q + r ≡ m * 2 ^ 52
parts q h l m f s r e a b c d g i = subst (λ (z : ℕ). z * z + r ≡ m * 2 ^ 52) e (omega arith)

pub returns : goal.returns
returns c =
    let q = c.args.q in
    let first = c.in_ok-first.ensures in
    let second = c.in_ok-second.ensures in
    let third = c.in_ok-rem.ensures in (
      parts q (q / 2 ^ 27) (q % 2 ^ 27) c.args.m _ _ _ (div-add-mod' q (2 ^ 27)) first.0 first.1 second.0 second.1 third.0 third.1,
      refl,
      omega (arith, third.1, c.if-second-ge-LITTLE.false),
    )
