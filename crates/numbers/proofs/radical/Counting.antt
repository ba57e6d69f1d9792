-- Numbers from 0 up, counted in the smallest one. Assumes nothing.
use Prim.Native.Nat.{ℕ, zero, suc, ◌+◌, ◌-◌, ◌*◌, ◌%◌, ◌^◌, ◌≤◌, ◌<◌}
use native.Mathlib.Omega.{arith}
use native.Mathlib.Nat.{zero-mul, mul_assoc, mul-one, eq_of_mul-eq-mul_right, lt_of_le_of_lt}
use mathlib.Core.Path.{◌≡◌, sym, ap, ◌∙◌, subst}
use mathlib.Core.Bool.{Bool, false, ◌&&◌}
use lib.Dec.{T, leb, ltb, eqb, ltb→lt, leb→le}
use lib.IntN.{ℤ, pos, negsuc}
use lib.Pow.{pow-add, pow_pos, pow-lt, shl_lt}
use lib.Ieee.{Float, nan, inf, fin, binary64, up, down, fits}
use lib.Ieee.Fits.{and_l, and_r, down_pos}
use lib.Ieee.Exact.{HasValue}
use lib.Ieee.Scale.{finite}
use Rattle.numbers.specs.Signs.{Zero}
use Rattle.numbers.proofs.Bools.{no_part}
use Rattle.numbers.proofs.Values.{value-unique, value-finite}
use Rattle.numbers.specs.Radical.Root.{Counts}
use Rattle.numbers.proofs.radical.Squares.{pow-back, split}

pub counts-finite : (y : Float) (b : ℕ) → Counts y b → T (finite y)
counts-finite y b c = value-finite y false b (2 ^ 1074) c.value

-- a number has one count, and a count one number
pub one-count : (y : Float) (a b : ℕ) → Counts y a → Counts y b → a ≡ b
one-count nan a b c d = absurd c.value
one-count (inf s) a b c d = absurd c.value
one-count (fin s m e) a b c d = eq_of_mul-eq-mul_right (down e) (down_pos e) a b (sym c.value.1 ∙ d.value.1)

pub one_number : (x y : Float) (a b : ℕ) → a ≡ b → Counts x a → Counts y b → x ≡ y
one_number x y a b e c d =
    value-unique binary64 x y false b (2 ^ 1074) c.holds d.holds (subst (λ (z : ℕ). HasValue x false z (2 ^ 1074)) e c.value) d.value (pow_pos 1074)

pub counts-none : (s : Bool) (b : ℕ) (e : ℤ) → Counts (fin s 0 e) b → b ≡ 0
counts-none s b e c = no_part b (down e) (down_pos e) (sym c.value.1 ∙ ap (λ (n : ℕ). n * 2 ^ 1074) (zero-mul (up e)) ∙ zero-mul (2 ^ 1074))

pub counts_some : (v : Float) (n : ℕ) → Counts v n → (Zero v → ⊥) → 0 < n
counts_some nan n c z = absurd c.value
counts_some (inf s) n c z = absurd c.value
counts_some (fin s m e) zero c z = absurd (z (no_part (m * up e) (2 ^ 1074) (pow_pos 1074) (c.value.1 ∙ zero-mul (down e))))
counts_some (fin s m e) (suc n) c z = omega arith

-- ---- 53 digits and a power of two

pub record Short (b : ℕ) : Type 0 where
  pub m : ℕ
  pub i : ℕ
  pub few : m < 2 ^ 53
  pub is : b ≡ m * 2 ^ i

module _ (l : ℕ) where
  by-up : (m b j : ℕ) → m * 2 ^ j * 2 ^ l ≡ b * 1 → b ≡ m * 2 ^ (j + l)
  by-up m b j e = sym (mul-one b) ∙ sym e ∙ mul_assoc m (2 ^ j) (2 ^ l) ∙ ap (λ (n : ℕ). m * n) (sym (pow-add 2 j l))

  by_down : (m b j : ℕ) → 2 ^ j ≤ 2 ^ l → m * 1 * 2 ^ l ≡ b * 2 ^ j → b ≡ m * 2 ^ (l - j)
  by_down m b j h e =
      let t : j < suc l = pow-back j (suc l) (lt_of_le_of_lt h (pow-lt {i = l} {j = suc l} (omega arith))) in
      let k : j ≤ l = omega arith in
      eq_of_mul-eq-mul_right (2 ^ j) (pow_pos j) b (m * 2 ^ (l - j))
      (sym e ∙ ap (λ (n : ℕ). n * 2 ^ l) (mul-one m) ∙ ap (λ (n : ℕ). m * n) (split l j k) ∙ sym (mul_assoc m (2 ^ (l - j)) (2 ^ j)))

middle : (A B C D : Bool) → T (A && B && C && D) → T B × T C
middle A B C D t = let u = and_l (A && B && C) D t in (and_r A B (and_l (A && B) C u), and_r (A && B) C u)

within : (s : Bool) (m : ℕ) (e : ℤ) → T (fits binary64 (fin s (suc m) e)) → (suc m < 2 ^ 53) × (down e ≤ 2 ^ 1074)
unfolding fits
within s m e t =
    let h = middle (eqb (suc m % 2) 1) (ltb (suc m) (2 ^ 53)) (leb (down e) (2 ^ 1074)) (ltb (suc m * up e) (2 ^ 1024 * down e)) t in
    (ltb→lt (suc m) (2 ^ 53) h.0, leb→le (down e) (2 ^ 1074) h.1)

pub short-count : (y : Float) (b : ℕ) → Counts y b → Short b
short-count nan b c = absurd c.value
short-count (inf s) b c = absurd c.value
short-count (fin s zero e) b c = record { m = 0; i = 0; few = pow_pos 53; is = counts-none s b e c }
short-count (fin s (suc m) (pos j)) b c = record { m = suc m; i = j + 1074; few = (within s m (pos j) c.holds).0; is = by-up 1074 (suc m) b j c.value.1 }
short-count (fin s (suc m) (negsuc j)) b c =
    let h = within s m (negsuc j) c.holds in
    record { m = suc m; i = 1074 - suc j; few = h.0; is = by_down 1074 (suc m) b (suc j) h.1 c.value.1 }

-- ---- from 2 ^ 52 * 2 ^ k up the numbers are multiples of 2 ^ k

module _ (b m i k : ℕ) (few : m < 2 ^ 53) (is : b ≡ m * 2 ^ i) (high : 2 ^ (52 + k) ≤ b) where
  reaches : k ≤ i
  reaches =
      let l : b < 2 ^ (53 + i) = rw is (shl_lt 53 i few) in
      let h : 52 + k < 53 + i = pow-back (52 + k) (53 + i) (lt_of_le_of_lt high l) in
      omega arith

  multiple-of : (z : ℕ) × (b ≡ z * 2 ^ k)
  multiple-of = (m * 2 ^ (i - k), is ∙ ap (λ (n : ℕ). m * n) (split i k reaches) ∙ sym (mul_assoc m (2 ^ (i - k)) (2 ^ k)))

pub multiple : (y : Float) (b k : ℕ) → Counts y b → 2 ^ (52 + k) ≤ b → (z : ℕ) × (b ≡ z * 2 ^ k)
multiple y b k c h = let w = short-count y b c in multiple-of b w.m w.i k w.few w.is h
