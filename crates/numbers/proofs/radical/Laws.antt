-- What is promised of roots: there is at most one, it is strictly nearest, and `root` gives it for every number above zero. Assumes nothing.
use Prim.Native.Nat.{ℕ, ◌+◌, ◌*◌, ◌^◌, ◌≤◌, ◌<◌}
use native.Mathlib.Omega.{arith}
use native.Mathlib.Nat.{mul-le-mul_right, ne_of_lt, lt_of_le_of_lt}
use mathlib.Core.Logic.{⊎_elim}
use mathlib.Core.Path.{◌≡◌, refl, sym, ap, ◌∙◌, subst}
use mathlib.Core.Bool.{Bool, true, false, true≢false}
use lib.Dec.{T}
use lib.Pow.{pow_mono}
use lib.Ieee.{Float, binary64, fits, lt, of_bits}
use lib.Ieee.Scale.{finite}
use Rattle.numbers.specs.Signs.{zero64, Zero, ±0, sign}
use Rattle.numbers.proofs.Order.{lt-irreflexive, lt-asymmetric, lt-eq-right}
use Rattle.numbers.proofs.Values.{bits-0}
use Rattle.numbers.proofs.Zeros.{zero_is, zero_of, zero-finite, zero_or_not, eq-zeros}
use Rattle.numbers.specs.Radical.Root.{Counts, IsRoot, Normal, root}
use Rattle.numbers.specs.declared.radical.Rooted.{Rooted}
use Rattle.numbers.specs.Radical.Contract.Steps.{units_of, WholeRoot}
use Rattle.numbers.proofs.radical.Squares.{by-order, sq-lt, sq-back, largest}
use Rattle.numbers.proofs.radical.Counting.{counts-finite, counts_some, one-count, one_number}
use Rattle.numbers.proofs.radical.Patterns.{bits-count}
use Rattle.numbers.proofs.radical.Function.{root-nearest}

-- of two roots of v each would be nearer than the other
clash : (v r t : Float) (p : IsRoot v r) (q : IsRoot v t) → p.a < q.a → ⊥
clash v r t p q h = apart p.a q.a (p.n * 2 ^ 1074) (q.n * 2 ^ 1074) (ap (λ (z : ℕ). z * 2 ^ 1074) same) (p.above t q.a q.is h) (q.below r p.a p.is h)
  where
    same : p.n ≡ q.n
    same = one-count v p.n q.n p.of q.of

    apart : (x y N N' : ℕ) → N ≡ N' → 4 * N < (x + y) * (x + y) → (y + x) * (y + x) < 4 * N' → ⊥
    apart x y N N' e h k = omega arith

-- at most one number is the root of v
pub one-root : (v r t : Float) → IsRoot v r → IsRoot v t → r ≡ t
one-root v r t p q = by-order p.a q.a
    (λ l. by-order q.a p.a (λ g. let e : p.a ≡ q.a = omega arith in one_number r t p.a q.a e p.is q.is) (λ g. absurd (clash v r t p q g)))
    (λ g. absurd (clash v t r q p g))

-- no tie arises: the root of v is never the middle between r and another number
pub no_tie : (v r : Float) (p : IsRoot v r) (y : Float) (b : ℕ) → Counts y b → (b ≡ p.a → ⊥) → (p.a + b) * (p.a + b) ≡ 4 * (p.n * 2 ^ 1074) → ⊥
no_tie v r p y b c other e = by-order b p.a
    (λ l. ne_of_lt (p.below y b c (less b p.a l other)) e)
    (λ l. ne_of_lt (p.above y b c l) (sym e))
  where
    less : (b a : ℕ) → b ≤ a → (b ≡ a → ⊥) → b < a
    less b a l n = omega arith

-- a root that is itself a number is the root: no other is as near
pub exact-root : (v r : Float) (n a : ℕ) → Counts v n → Counts r a → a * a ≡ n * 2 ^ 1074 → IsRoot v r
exact-root v r n a c d e =
    record { n = n; a = a; of = c; is = d; below = λ y b g l. down b (n * 2 ^ 1074) e l; above = λ y b g l. up b (n * 2 ^ 1074) e l }
  where
    down : (b N : ℕ) → a * a ≡ N → b < a → (a + b) * (a + b) < 4 * N
    down b N i l = let s : (a + b) * (a + b) < (a + a) * (a + a) = sq-lt {x = a + b} {y = a + a} (omega arith) in omega arith

    up : (b N : ℕ) → a * a ≡ N → a < b → 4 * N < (a + b) * (a + b)
    up b N i l = let s : (a + a) * (a + a) < (a + b) * (a + b) = sq-lt {x = a + a} {y = a + b} (omega arith) in omega arith

above-not-zero : (v : Float) → T (finite v) → lt zero64 v ≡ true → Zero v → ⊥
above-not-zero v f h z =
    let o = zero_of zero64 false bits-0 in
    let g = zero-finite zero64 o in
    true≢false (sym h ∙ lt-eq-right zero64 v zero64 g f g (eq-zeros v zero64 z o) ∙ lt-irreflexive zero64)

-- every finite number above zero has a root, and `root` gives it
pub root-is-root : (v : Float) → T (fits binary64 v) → T (finite v) → lt zero64 v ≡ true → IsRoot v (root v)
root-is-root v fv f h = root-nearest v fv f (lt-asymmetric zero64 v h) (above-not-zero v f h)

-- both zeros are their own roots
pub root-zero : (v : Float) → T (fits binary64 v) → Zero v → root v ≡ v
unfolding root
root-zero v fv z = subst (λ (y : Float). root y ≡ y) (sym (zero_is binary64 v fv z)) (zero-root (sign v))
  where
    zero-root : (s : Bool) → root (±0 s) ≡ ±0 s
    zero-root s = refl

-- 2 ^ -1021, in the smallest numbers
lowest-but-one : Counts (of_bits binary64 (2 * 2 ^ 52)) (2 ^ 53)
unfolding units_of
lowest-but-one = bits-count (2 * 2 ^ 52) (omega arith)

-- the root of a number above zero is normal: were it below 2 ^ -1022, then 2 ^ -1021 would be nearer
pub normal-root : (v r : Float) → IsRoot v r → (Zero v → ⊥) → Normal r
normal-root v r p z = by-order (2 ^ 52) p.a
    (λ l. record { a = p.a; is = p.is; least = l })
    (λ l.
    let more : p.a < 2 ^ 53 = omega arith in
    let some = counts_some v p.n p.of z in
    absurd (far p.a p.n (2 ^ 1074) l some (pow_mono {i = 106} {j = 1074} (omega arith)) (p.above (of_bits binary64 (2 * 2 ^ 52)) (2 ^ 53) lowest-but-one more)))
  where
    far : (a n w : ℕ) → a < 2 ^ 52 → 0 < n → 2 ^ 106 ≤ w → 4 * (n * w) < (a + 2 ^ 53) * (a + 2 ^ 53) → ⊥
    far a n w l s h e =
        let t : (a + 2 ^ 53) * (a + 2 ^ 53) < 2 ^ 54 * 2 ^ 54 = sq-lt {x = a + 2 ^ 53} {y = 2 ^ 54} (omega arith) in
        let u : 1 * w ≤ n * w = mul-le-mul_right w s in
        omega arith

pub root-normal : (v : Float) → T (fits binary64 v) → T (finite v) → lt zero64 v ≡ true → Normal (root v)
root-normal v fv f h = normal-root v (root v) (root-is-root v fv f h) (above-not-zero v f h)

-- so the root of a number that isn't below zero is a finite number of the format
pub root-finite : (v : Float) → T (fits binary64 v) → T (finite v) → lt v zero64 ≡ false → T (finite (root v)) × T (fits binary64 (root v))
root-finite v fv f l = ⊎_elim
    (λ z. let e = sym (root-zero v fv z) in (subst (λ (y : Float). T (finite y)) e f, subst (λ (y : Float). T (fits binary64 y)) e fv))
    (λ n. let p = root-nearest v fv f l n in (counts-finite (root v) p.a p.is, p.is.holds))
    (zero_or_not v)

-- ---- the code's ways to a root

-- the root in whole numbers is one: a guess that passes its check and the digits taken one by one give the same
pub one-whole-root : (m : ℕ) (d e : Rooted) → WholeRoot m d → WholeRoot m e → d ≡ e
one-whole-root m d e p q =
    let f = largest (m * 2 ^ 52) d.root d.rem p.square p.left in
    let g = largest (m * 2 ^ 52) e.root e.rem q.square q.left in
    let low : d.root < e.root + 1 = sq-back d.root (e.root + 1) (lt_of_le_of_lt f.low g.high) in
    let high : e.root < d.root + 1 = sq-back e.root (d.root + 1) (lt_of_le_of_lt g.low f.high) in
    let same : d.root ≡ e.root = omega arith in
    let rest : d.rem ≡ e.rem = left-too d.root e.root d.rem e.rem (m * 2 ^ 52) same p.square q.square in
    λ i. record { root = same i; rem = rest i }
  where
    left-too : (r s x y M : ℕ) → r ≡ s → r * r + x ≡ M → s * s + y ≡ M → x ≡ y
    left-too r s x y M e f g = let h : r * r ≡ s * s = ap (λ (z : ℕ). z * z) e in omega arith
