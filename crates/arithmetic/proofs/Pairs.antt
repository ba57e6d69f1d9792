-- How many pairs a product and a power multiply: as many as its definition tries, and how many that can be. Assumes nothing.
use Prim.Native.Nat.{ℕ, zero, suc, ◌+◌, ◌*◌, ◌≤◌}
use native.Mathlib.Omega.{arith}
use native.Mathlib.Nat.{le_trans, mul-le-mul_right, mul-le-mul_left, zero-mul}
use mathlib.Core.Path.{◌≡◌, refl, sym, ap, ap₂, subst, ◌∙◌}
use mathlib.Core.Bool.{Bool, true, false, ◌&&◌, cond}
use mathlib.Core.List.{List, [], ◌∷◌, ◌++◌}
use lib.ListN.{length, length-append}
use lib.Ieee.{Float, le}
use Rattle.std.specs.Prelude.{Option, Some, None}
use Rattle.numbers.specs.Numbers.{is_whole, small_whole}
use Rattle.numbers.specs.Signs.{zero64}
use Rattle.numbers.specs.Complex.Arith as complex
use Rattle.numbers.proofs.Wholes.{small-whole}
use Rattle.cells.specs.declared.Entry.{Entry}
use Rattle.sums.specs.Tree.Sums.{Sum, none, and, size, len, entry}
use Rattle.sums.specs.Tree.Map.{Outcome, sum, refused, Found, at, absent, and_then_sum, each_into}
use Rattle.arithmetic.specs.Singles.{GoodSum, as_constant, is_x}
use Rattle.arithmetic.specs.Product.{mul_term, mul_into, product}
use Rattle.arithmetic.specs.Power.{is_euler}
use Rattle.arithmetic.specs.Pairs.{row_pairs, pairs, unless_refused, raised_pairs, whole_pairs, power_pairs, real_pairs, pow_pairs, Pair, tried_row, tried, try_each}
use Rattle.arithmetic.proofs.Goodness.{good-product}

-- ---- the number of pairs is that of the pairs tried

-- what follows a step decides
then_same : (o : Outcome) {f g : Sum → Outcome} → ((u : Sum) → f u ≡ g u) → and_then_sum o f ≡ and_then_sum o g
then_same (sum u) h = h u
then_same (refused e) h = refl

-- one step after another
then-then : (o : Outcome) (f g : Sum → Outcome) → and_then_sum (and_then_sum o f) g ≡ and_then_sum o (λ u. and_then_sum (f u) g)
then-then (sum u) f g = refl
then-then (refused e) f g = refl

-- after the first pairs the others
try-more : (ps qs : List Pair) (s : Sum) → try_each (ps ++ qs) s ≡ and_then_sum (try_each ps s) (λ u. try_each qs u)
unfolding try_each
try-more [] qs s = refl
try-more (p ∷ ps) qs s =
    let o = mul_term p.x p.within p.y p.inside s in
    then_same o (λ u. try-more ps qs u) ∙ sym (then-then o (λ u. try_each ps u) (λ u. try_each qs u))

-- one term with each of b
tried-row : (x : Entry) (f : Sum → Outcome) (b s : Sum) → each_into (mul_term x f) s b ≡ try_each (tried_row x f b) s
unfolding each_into tried_row try_each
tried-row x f none s = refl
tried-row x f (and l q j d b) s = then_same (mul_term x f (entry l (size j) q d) j s) (λ u. tried-row x f b u)

-- the product multiplies each pair of the list once and in order, and nothing else
pub tried-all : (a b s : Sum) → mul_into a b s ≡ try_each (tried a b) s
unfolding mul_into tried try_each
tried-all none b s = refl
tried-all (and k p i c r) b s =
    let x = entry k (size i) p c in
    let row = tried_row x (λ v. mul_into i v none) b in
    ap (λ (o : Outcome). and_then_sum o (λ u. mul_into r b u)) (tried-row x (λ v. mul_into i v none) b s)
    ∙ then_same (try_each row s) (λ u. tried-all r b u) ∙ sym (try-more row (tried r b) s)

row-length : (x : Entry) (f : Sum → Outcome) (b : Sum) → length (tried_row x f b) ≡ row_pairs b
unfolding tried_row row_pairs
row-length x f none = refl
row-length x f (and l q j d b) = ap suc (row-length x f b)

-- so many pairs are counted
pub tried-length : (a b : Sum) → length (tried a b) ≡ pairs a b
unfolding tried pairs
tried-length none b = refl
tried-length (and k p i c r) b =
    let row = tried_row (entry k (size i) p c) (λ v. mul_into i v none) b in
    length-append row (tried r b) ∙ ap₂ ◌+◌ (row-length (entry k (size i) p c) (λ v. mul_into i v none) b) (tried-length r b)

-- ---- how many that is

-- one for each term of b
pub row-pairs-len : (b : Sum) → row_pairs b ≡ len b
unfolding row_pairs len
row-pairs-len none = refl
row-pairs-len (and l q j d s) = ap suc (row-pairs-len s)

-- the terms of a times the terms of b
pub pairs_len : (a b : Sum) → pairs a b ≡ len a * len b
unfolding pairs len
pairs_len none b = sym (zero-mul (len b))
pairs_len (and k p i c r) b = ap₂ ◌+◌ (row-pairs-len b) (pairs_len r b) ∙ omega arith

-- no more products
pub raised-pairs-none : (acc s : Sum) → raised_pairs zero acc s ≡ 0
unfolding raised_pairs
raised-pairs-none acc s = refl

-- one more, which gives a sum
pub raised-pairs-more : (n : ℕ) (acc s u : Sum) → product acc s ≡ sum u → raised_pairs (suc n) acc s ≡ pairs acc s + raised_pairs n u s
unfolding raised_pairs
raised-pairs-more n acc s u h = rw h

-- ---- how many it can be

-- no more terms than entries
pub len-most : (s : Sum) → len s ≤ size s
unfolding len size
len-most none = omega arith
len-most (and k p i c r) = omega (arith, len-most r)

-- at most 64 terms with at most 64
pub product-most : {m n : ℕ} → m ≤ 64 → n ≤ 64 → m * n ≤ 4096
product-most {m} {n} a b = le_trans (mul-le-mul_right n a) (mul-le-mul_left 64 b)

-- a product of good sums
pub pairs-most : {a b : Sum} → GoodSum a → GoodSum b → pairs a b ≤ 4096
pairs-most {a} {b} g h =
    let few : len a ≤ 64 = omega (arith, len-most a, g.room) in
    let few' : len b ≤ 64 = omega (arith, len-most b, h.room) in
    subst (λ (n : ℕ). n ≤ 4096) (sym (pairs_len a b)) (product-most few few')

-- n products, each of the product so far
pub raised-pairs-most : (n : ℕ) {acc s : Sum} → GoodSum acc → GoodSum s → raised_pairs n acc s ≤ n * 4096
unfolding raised_pairs
raised-pairs-most zero g h = omega arith
raised-pairs-most (suc n) {acc} {s} g h = go (product acc s) refl (λ u k. raised-pairs-most n {acc = u} k h)
  where
    go : (o : Outcome) → product acc s ≡ o → ((u : Sum) → GoodSum u → raised_pairs n u s ≤ n * 4096) → pairs acc s + unless_refused o (λ u. raised_pairs n u s) ≤ suc n * 4096
    go (sum u) e ih = omega (arith, pairs-most g h, ih u (good-product g h e))
    go (refused q) e ih = omega (arith, pairs-most g h)

whole-pairs-most : {s : Sum} (k : Option ℕ) → GoodSum s → ((n : ℕ) → k ≡ Some n → n ≤ 64) → whole_pairs s k ≤ 258048
whole-pairs-most (Some zero) g h = omega arith
whole-pairs-most {s} (Some (suc n)) g h = omega (arith, raised-pairs-most n {acc = s} g g, h (suc n) refl)
whole-pairs-most None g h = omega arith

-- a good sum to the power of a number
pub power-pairs-most : {s : Sum} (e : Float) → GoodSum s → power_pairs s e ≤ 258048
power-pairs-most {s} e g = go (is_whole e && le zero64 e)
  where
    go : (b : Bool) → cond b (whole_pairs s (small_whole e)) 0 ≤ 258048
    go true = whole-pairs-most (small_whole e) g (λ n h. ((small-whole e n).0 h).0)
    go false = omega arith

-- a good sum to the power of another: at most 63 products
pub pow-pairs-most : {s t : Sum} → GoodSum s → GoodSum t → pow_pairs s t ≤ 258048
unfolding pow_pairs
pow-pairs-most {s} {t} g h = other (is_euler (as_constant s) && is_x t)
  where
    real : (f : Found) → real_pairs f (power_pairs s) ≤ 258048
    real absent = omega arith
    real (at c) = go (complex.is_real c)
      where
        go : (b : Bool) → cond b (power_pairs s c.re) 0 ≤ 258048
        go true = power-pairs-most c.re g
        go false = omega arith

    other : (b : Bool) → cond b 0 (real_pairs (as_constant t) (power_pairs s)) ≤ 258048
    other true = omega arith
    other false = real (as_constant t)
