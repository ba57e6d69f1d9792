-- 1 more and 1 less: no finite number lies so near the largest that 1 would take it beyond, so both are finite. Assumes nothing.
use Prim.Native.Nat.{ℕ, zero, suc, ◌+◌, ◌-◌, ◌*◌, ◌%◌, ◌^◌, ◌≤◌, ◌<◌, zero-le}
use native.Mathlib.Nat.{add_comm, add-le-add, le_of_eq, le_of_lt, le_refl, le_trans, lt_of_lt_of_le, lt_of_mul-lt-mul_right, mul_assoc, mul-le-mul, mul-le-mul_right, mul-one, mul-pos, one-mul, suc-mul, zero-mul}
use native.Mathlib.Omega.{arith}
use mathlib.Core.Path.{◌≡◌, sym, ap, subst, ◌∙◌}
use mathlib.Core.Bool.{Bool, true, false, not, ◌&&◌, beq, cond}
use lib.Dec.{T, leb, ltb, eqb, leb→le, nleb→lt, ltb→lt, lit<, lit≤}
use lib.Pow.{pow-add, pow_pos, pow_mono}
use lib.IntN.{ℤ, pos, negsuc}
use lib.Ieee.{Float, nan, inf, fin, binary64, up, down, odd, units, size, span, climb, round, sum, add, sub, neg, le, fits}
use lib.Ieee.Exact.{odd_sign}
use lib.Ieee.Fits.{round_is, down_pos, and_l, and_r}
use lib.Ieee.Order.{round_mono}
use lib.Ieee.Scale.{finite}
use Rattle.numbers.specs.Ops.{◌⊕◌, ◌⊖◌}
use Rattle.numbers.specs.Signs.{one64, ±1}
use Rattle.numbers.proofs.Values.{bits-1, value-finite}

-- ---- the largest number

abbrev largest : ℕ
largest = 2 ^ 1024 - 2 ^ 971

-- it and 1 is rounded back to it
more-finite : T (finite (round binary64 false (suc largest) 1))
unfolding round units odd size span climb
more-finite = tt

under : (m n : ℕ) → m < n → m ≤ n - 1
under m n h = omega arith

-- a finite number's size is at most that
at_most : (m k : ℕ) → m < 2 ^ 53 → m * 2 ^ k < 2 ^ 1024 → m * 2 ^ k ≤ largest
at_most m k few below = go (leb k 971) (leb→le k 971) (nleb→lt k 971)
  where
    go : (b : Bool) → (T b → k ≤ 971) → (T (not b) → 971 < k) → m * 2 ^ k ≤ largest
    go true l g = le_trans (mul-le-mul (under m (2 ^ 53) few) (pow_mono (l tt))) (lit≤ tt)
    go false l g =
        let h : k ≡ k - 972 + 972 = let more = g tt in omega arith in
        let split : m * 2 ^ k ≡ m * 2 ^ (k - 972) * 2 ^ 972 = ap (λ (j : ℕ). m * 2 ^ j) h ∙ ap (λ (j : ℕ). m * j) (pow-add 2 (k - 972) 972) ∙ sym (mul_assoc m (2 ^ (k - 972)) (2 ^ 972)) in
        let part : m * 2 ^ (k - 972) < 2 ^ 52 = lt_of_mul-lt-mul_right (2 ^ 972) (subst (λ (j : ℕ). j < 2 ^ 1024) split below) in
        le_trans (le_of_eq split) (le_trans (mul-le-mul_right (2 ^ 972) (under (m * 2 ^ (k - 972)) (2 ^ 52) part)) (lit≤ tt))

no-larger : (s : Bool) (m : ℕ) (e : ℤ) → T (fits binary64 (fin s m e)) → m * up e ≤ largest * down e
unfolding fits
no-larger s zero e f = le_trans (le_of_eq (zero-mul (up e))) zero-le
no-larger s (suc m) e f =
    let a : Bool = eqb (suc m % 2) 1 in
    let b : Bool = ltb (suc m) (2 ^ 53) in
    let c : Bool = leb (down e) (2 ^ 1074) in
    let d : Bool = ltb (suc m * up e) (2 ^ 1024 * down e) in
    go e (ltb→lt (suc m) (2 ^ 53) (and_r a b (and_l (a && b) c (and_l (a && b && c) d f)))) (ltb→lt (suc m * up e) (2 ^ 1024 * down e) (and_r (a && b && c) d f))
  where
    go : (e : ℤ) → suc m < 2 ^ 53 → suc m * up e < 2 ^ 1024 * down e → suc m * up e ≤ largest * down e
    go (pos k) few below = le_trans (at_most (suc m) k few (subst (λ (j : ℕ). suc m * 2 ^ k < j) (mul-one (2 ^ 1024)) below)) (le_of_eq (sym (mul-one largest)))
    go (negsuc k) few below = mul-le-mul (le_of_lt (lt_of_lt_of_le few (lit≤ tt))) (pow_pos (suc k))

-- ---- what is rounded

-- what is no larger than a finite number is finite, whatever its sign
units-finite : (s : Bool) (q k : ℕ) (y : Float) → T (finite y) → T (le (units binary64 false q k) y) → T (finite (units binary64 s q k))
unfolding units le
units-finite s q k y f h = go (ltb (q * 2 ^ k) (2 ^ 2098)) y f h
  where
    go : (b : Bool) (y : Float) → T (finite y) → T (le (cond b (odd 54 false q k 1074) (inf false)) y) → T (finite (cond b (odd 54 s q k 1074) (inf s)))
    go true y f h = value-finite (odd 54 s q k 1074) s (q * 2 ^ k) (2 ^ 1074) (odd_sign 54 s q k 1074)
    go false nan f h = absurd f
    go false (inf t) f h = absurd f
    go false (fin t n d) f h = absurd h

-- a fraction that is at most the largest number and 1
rounds-finite : (s : Bool) (a c : ℕ) → 0 < c → a ≤ suc largest * c → T (finite (round binary64 s a c))
rounds-finite s a c C h =
    let most = round_mono binary64 a c (suc largest) 1 C (lit< tt) (le_trans (le_of_eq (mul-one a)) h) in
    rw (round_is binary64 s a c) (units-finite s _ _ (round binary64 false (suc largest) 1) more-finite (rw (round_is binary64 false a c) at most))

less : (i j : ℕ) → i - j ≤ i + j
less i j = omega arith

sum-finite : (s t : Bool) (a b c : ℕ) → 0 < c → a + b ≤ suc largest * c → T (finite (sum binary64 s a t b c))
unfolding sum
sum-finite s t a b c C h = go (beq s t) (ltb a b)
  where
    go : (x y : Bool) → T (finite (cond x (round binary64 s (a + b) c) (cond y (round binary64 t (b - a) c) (round binary64 (s && ltb b a) (a - b) c))))
    go true y = rounds-finite s (a + b) c C h
    go false true = rounds-finite t (b - a) c C (le_trans (less b a) (le_trans (le_of_eq (add_comm b a)) h))
    go false false = rounds-finite (s && ltb b a) (a - b) c C (le_trans (less a b) h)

-- ---- 1 more and 1 less

by_one : (t : Bool) (p : Float) → T (finite p) → T (fits binary64 p) → T (finite (p ⊕ ±1 t))
unfolding add
by_one t (fin s m e) h f = sum-finite s t (m * up e * 1) (1 * down e) (down e * 1) (mul-pos (down_pos e) (lit< tt)) (fits_one (m * up e) (down e) (no-larger s m e f))
  where
    fits_one : (a c : ℕ) → a ≤ largest * c → a * 1 + 1 * c ≤ suc largest * (c * 1)
    fits_one a c h = rw (mul-one a, one-mul c, mul-one c, suc-mul largest c) (add-le-add h (le_refl c))
by_one t nan h f = absurd h
by_one t (inf s) h f = absurd h

pub more-1-finite : (p : Float) → T (finite p) → T (fits binary64 p) → T (finite (p ⊕ one64))
more-1-finite p h f = rw bits-1 (by_one false p h f)

pub less-1-finite : (p : Float) → T (finite p) → T (fits binary64 p) → T (finite (p ⊖ one64))
unfolding sub neg
less-1-finite p h f = rw bits-1 (by_one true p h f)
