-- Two digits of the number go in at each turn, and one digit of its root comes out. Assumes nothing.
use Prim.Native.Nat.{ℕ, suc, ◌+◌, ◌-◌, ◌*◌, ◌/◌, ◌%◌, ◌^◌, ◌≤◌, ◌<◌}
use mathlib.Core.Path.{◌≡◌}
use native.Mathlib.Omega.{arith}
use native.Mathlib.Nat.{div-add-mod', mul-le-mul_left, mul-le-mul_right, pow-succ', le_trans}
use lib.Pow.{pow_pos}
use Rattle.numbers.proofs.radical.root_by_digits.Goals as goal

-- two digits h of the number taken in: l are the others
taken_in : (S h l w C : ℕ) → (S * 2 ^ 54 + (h * 2 ^ 52 + l)) * (2 * w * (2 * w)) ≡ C → ((S * 4 + h) * 2 ^ 54 + l * 4) * (w * w) ≡ C
taken_in S h l w C e = omega arith

turned : (S T a left n C : ℕ) → left ≡ suc n → T ≡ S * 4 + a / 2 ^ 52 → (S * 2 ^ 54 + a) * (2 ^ left * 2 ^ left) ≡ C → (T * 2 ^ 54 + a % 2 ^ 52 * 4) * (2 ^ n * 2 ^ n) ≡ C
turned S T a left n C s t e =
    rw t (taken_in S (a / 2 ^ 52) (a % 2 ^ 52) (2 ^ n) C (rw (div-add-mod' a (2 ^ 52), ← pow-succ' 2 n, ← s) e))

room : (r s left n : ℕ) → left ≡ suc n → s ≤ 2 * r + 1 → (r + 1) * 2 ^ left ≤ 2 ^ 53 → (s + 1) * 2 ^ n ≤ 2 ^ 53
room r s left n z i e = le_trans (mul-le-mul_right {m = s + 1} {n = 2 * r + 2} (2 ^ n) (omega arith)) (omega (arith, rw (z, pow-succ' 2 n) at e))

few : (r left : ℕ) → (r + 1) * 2 ^ left ≤ 2 ^ 53 → r < 2 ^ 53
few r left e = omega (arith, mul-le-mul_left (r + 1) (pow_pos left), e)

begins : (m w : ℕ) → ((0 * 0 + 0) * 2 ^ 54 + m) * w ≡ m * w
begins m w = omega arith

pub loop-init : goal.loop-init
loop-init c = (begins c.args.m (2 ^ 53 * 2 ^ 53), omega arith, c.requires, omega arith)

pub digit-d-requires : goal.digit-d-requires
digit-d-requires c = (omega arith, few _ _ c.loop.invariant.3, omega arith)

pub loop-preserved : goal.loop-preserved
loop-preserved c =
    let i = c.loop.invariant in
    let e = c.digit-d.ensures in
    (turned _ _ _ _ _ _ (omega arith) e.0 i.0, e.1, omega arith, room _ _ _ _ (omega arith) e.2 i.3)

pub returns : goal.returns
returns c =
    let z : 53 - c.loop.counter ≡ 0 = omega arith in
    let i = rw z at c.loop.invariant in
    record { square = omega (arith, i.0, i.2); left = c.loop.invariant.1 }
