-- Squares and powers of two in whole numbers, and the largest whole number whose square fits. Assumes nothing.
use Prim.Native.Nat.{ℕ, zero, suc, ◌+◌, ◌-◌, ◌*◌, ◌/◌, ◌^◌, ◌≤◌, ◌<◌}
use native.Mathlib.Omega.{arith}
use native.Mathlib.Nat.{mul-le-mul, mul-le-mul_left, mul-lt-mul_of_pos_right, lt_of_le_of_lt, pow-succ'}
use mathlib.Core.Path.{◌≡◌, refl, sym, ap, ◌∙◌}
use mathlib.Core.Bool.{Bool, true, false, not, cond}
use borrow.Author.Tests.{leb-true, leb-false}
use lib.Dec.{T, leb, leb→le, nleb→lt}
use lib.Pow.{pow-add, pow_mono}
use Rattle.numbers.specs.Radical.Root.{whole_root}

pub by-order : (a b : ℕ) {A : Type 0} → (a ≤ b → A) → (b < a → A) → A
by-order a b {A} f g = go (leb a b) (leb→le a b) (nleb→lt a b)
  where
    go : (t : Bool) → (T t → a ≤ b) → (T (not t) → b < a) → A
    go true l r = f (l tt)
    go false l r = g (r tt)

-- ---- squares rise

pub sq-le : {x y : ℕ} → x ≤ y → x * x ≤ y * y
sq-le h = mul-le-mul h h

pub sq-lt : {x y : ℕ} → x < y → x * x < y * y
sq-lt {x} {y} h = lt_of_le_of_lt (mul-le-mul_left x (omega arith)) (mul-lt-mul_of_pos_right h (omega arith))

pub sq-back : (x y : ℕ) → x * x < y * y → x < y
sq-back x y h = by-order y x (λ l. let s : y * y ≤ x * x = sq-le l in absurd (omega arith)) (λ l. l)

pub square-of : (x w : ℕ) → x * w * (x * w) ≡ x * x * (w * w)
square-of x w = omega arith

-- ---- powers of two

pub pow-back : (i j : ℕ) → 2 ^ i < 2 ^ j → i < j
pow-back i j h = by-order j i (λ l. let s : 2 ^ j ≤ 2 ^ i = pow_mono l in absurd (omega arith)) (λ l. l)

pub split : (i k : ℕ) → k ≤ i → 2 ^ i ≡ 2 ^ (i - k) * 2 ^ k
split i k h = let e : i - k + k ≡ i = omega arith in ap (λ (n : ℕ). 2 ^ n) (sym e) ∙ pow-add 2 (i - k) k

-- ---- q is the largest whole number whose square is at most M

pub record Largest (M q : ℕ) : Type 0 where
  pub low : q * q ≤ M
  pub high : M < (q + 1) * (q + 1)

pub largest : (M q rem : ℕ) → q * q + rem ≡ M → rem ≤ 2 * q → Largest M q
largest M q rem e h = record { low = omega arith; high = omega arith }

pub rest : {M q : ℕ} → Largest M q → (q * q + (M - q * q) ≡ M) × (M - q * q ≤ 2 * q)
rest r = (omega (arith, r.low), omega (arith, r.high))

-- 105 or 106 digits of M make 53 of q
pub long : (M q : ℕ) → Largest M q → 2 ^ 104 ≤ M → 2 ^ 52 ≤ q
long M q r h = let l : 2 ^ 52 < q + 1 = sq-back (2 ^ 52) (q + 1) (omega (arith, r.high)) in omega arith

pub short : (M q : ℕ) → Largest M q → M < 2 ^ 106 → q < 2 ^ 53
short M q r h = sq-back q (2 ^ 53) (omega (arith, r.low))

one_more : (b : Bool) (n r : ℕ) → leb ((r + 1) * (r + 1)) n ≡ b → r * r ≤ n → n < (r + 2) * (r + 2) → Largest n (cond b (r + 1) r)
one_more true n r e l h = record { low = leb-true _ _ e; high = omega arith }
one_more false n r e l h = record { low = l; high = leb-false _ _ e }

four : (k n : ℕ) → n < 2 ^ suc k * 2 ^ suc k → n / 4 < 2 ^ k * 2 ^ k
four k n h = let h' : n < 2 * 2 ^ k * (2 * 2 ^ k) = rw (pow-succ' 2 k) at h in omega arith

pub whole-root : (k n : ℕ) → n < 2 ^ k * 2 ^ k → Largest n (whole_root k n)
unfolding whole_root
whole-root zero n h = record { low = omega arith; high = omega arith }
whole-root (suc k) n h =
    let i = whole-root k (n / 4) (four k n h) in
    let r = whole_root k (n / 4) in
    one_more (leb ((2 * r + 1) * (2 * r + 1)) n) n (2 * r) refl (omega (arith, i.low)) (omega (arith, i.high))
