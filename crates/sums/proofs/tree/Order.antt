-- The order of terms and sums: strict and total on finite numbers, up to -0 = 0. Assumes nothing.
use Prim.Native.Nat.{ℕ, zero, suc, ◌<◌}
use native.Mathlib.Omega.{arith}
use mathlib.Core.Path.{◌≡◌, refl, sym, ap, ap₂, ◌∙◌}
use mathlib.Core.Bool.{Bool, true, false, cond}
use lib.Dec.{T, ltb}
use lib.Ieee.{Float, binary64, fits}
use lib.Ieee.Fits.{and_l}
use lib.Ieee.Scale.{finite}
use borrow.Author.Tests.{ltb-true, ltb-false, lt-ltb, le-ltb}
use Rattle.std.specs.declared.cmp.Ordering.{Ordering}
use Rattle.std.specs.declared.cmp.Ordering.TheVariants.{Less, Equal, Greater}
use Rattle.numbers.specs.Order.{cmp_num, and_then, flipped}
use Rattle.numbers.proofs.Order.{cmp-self, cmp-flip, cmp-chain, flipped-then, then-equal-both, Chain, chain-then}
use Rattle.numbers.specs.declared.complex.Complex.{Complex}
use Rattle.numbers.specs.Complex.Arith.{cmp_complex}
use Rattle.cells.specs.declared.Entry.{Entry}
use Rattle.sums.specs.Tree.Sums.{Sum, none, and, size, len, entry}
use Rattle.sums.specs.Tree.Order.{cmp_nat, cmp_head, cmp_each, cmp_sum, cmp_term}
use Rattle.sums.specs.Tree.Good.{is_number, GoodEntry, Good}

-- ---- whole numbers

-- Less says that the first is below the second
pub nat-less : (a b : ℕ) → cmp_nat a b ≡ Less → a < b
nat-less a b h = ltb-true a b (go (ltb a b) (ltb b a) h)
  where
    go : (p q : Bool) → cond p Less (cond q Greater Equal) ≡ Less → p ≡ true
    go true q h = refl
    go false true h = cc
    go false false h = cc

-- a smaller number comes first
pub less-nat : (a b : ℕ) → a < b → cmp_nat a b ≡ Less
less-nat a b h = rw (lt-ltb a b h)

-- Equal says that the two are one
pub nat-equal : (a b : ℕ) → cmp_nat a b ≡ Equal → a ≡ b
nat-equal a b h = go (ltb a b) (ltb b a) refl refl h
  where
    go : (p q : Bool) → ltb a b ≡ p → ltb b a ≡ q → cond p Less (cond q Greater Equal) ≡ Equal → a ≡ b
    go true q e f h = cc
    go false true e f h = cc
    go false false e f h = omega (arith, ltb-false a b e, ltb-false b a f)

-- a number is equal to itself
pub nat-self : (a : ℕ) → cmp_nat a a ≡ Equal
nat-self a = rw (le-ltb a a (omega arith))

-- the order of two numbers, the other way round
pub nat-flip : (a b : ℕ) → cmp_nat b a ≡ flipped (cmp_nat a b)
nat-flip a b = go (ltb a b) (ltb b a) refl refl
  where
    go : (p q : Bool) → ltb a b ≡ p → ltb b a ≡ q → cond q Less (cond p Greater Equal) ≡ flipped (cond p Less (cond q Greater Equal))
    go true true e f = absurd (omega (arith, ltb-true a b e, ltb-true b a f))
    go true false e f = refl
    go false true e f = refl
    go false false e f = refl

-- whole numbers are in an order
pub nat-chain : (a b c : ℕ) → Chain (cmp_nat a b) (cmp_nat b c) (cmp_nat a c)
nat-chain a b c = record {
  less = λ p q. less-nat a c (omega (arith, nat-less a b p, nat-less b c q));
  left = λ p. ap (λ (n : ℕ). cmp_nat n c) (nat-equal a b p);
  right = λ p. ap (cmp_nat a) (sym (nat-equal b c p));
}

-- ---- orders, one after the other

-- an order, and then one that need be an order only where the first says Equal
pub chain-where : {a b c a' b' c' : Ordering} → Chain a b c → (a ≡ Equal → b ≡ Equal → Chain a' b' c') → Chain (and_then a a') (and_then b b') (and_then c c')
chain-where {a} {b} {c} {a'} {b'} {c'} k l = record { less = less a b k l; left = left a b k l; right = right a b k l }
  where
    less : (a b : Ordering) → Chain a b c → (a ≡ Equal → b ≡ Equal → Chain a' b' c') → and_then a a' ≡ Less → and_then b b' ≡ Less → and_then c c' ≡ Less
    less Less Less k l h g = rw (k.less refl refl)
    less Less Equal k l h g = rw (k.right refl)
    less Less Greater k l h g = cc
    less Equal Less k l h g = rw (k.left refl)
    less Equal Equal k l h g = rw (k.left refl) ((l refl refl).less h g)
    less Equal Greater k l h g = cc
    less Greater b k l h g = cc

    left : (a b : Ordering) → Chain a b c → (a ≡ Equal → b ≡ Equal → Chain a' b' c') → and_then a a' ≡ Equal → and_then c c' ≡ and_then b b'
    left Less b k l h = cc
    left Equal Less k l h = rw (k.left refl)
    left Equal Equal k l h = rw (k.left refl) ((l refl refl).left h)
    left Equal Greater k l h = rw (k.left refl)
    left Greater b k l h = cc

    right : (a b : Ordering) → Chain a b c → (a ≡ Equal → b ≡ Equal → Chain a' b' c') → and_then b b' ≡ Equal → and_then c c' ≡ and_then a a'
    right a Less k l h = cc
    right Less Equal k l h = rw (k.right refl)
    right Equal Equal k l h = rw (k.right refl) ((l refl refl).right h)
    right Greater Equal k l h = rw (k.right refl)
    right a Greater k l h = cc

-- two orders that each say Equal
then-self : {o p : Ordering} → o ≡ Equal → p ≡ Equal → and_then o p ≡ Equal
then-self e f = rw e f

-- p is the order o of the same two the other way round
record Flips (o p : Ordering) : Type 0 where
  is : p ≡ flipped o

-- two orders flip together
then_flip : {o o' p p' : Ordering} → Flips o o' → Flips p p' → Flips (and_then o p) (and_then o' p')
then_flip {o} {p = p} e f = record { is = ap₂ and_then e.is f.is ∙ sym (flipped-then o p) }

-- ---- numbers that are finite

-- a coefficient of finite numbers
pub record FinitePair (c : Complex) : Type 0 where
  pub re : T (finite c.re)
  pub im : T (finite c.im)

-- every number of the sum is finite, at each level
unfoldable pub Finite : Sum → Type 0
Finite none = Unit {0}
Finite (and k p i c r) = T (finite p) × Finite i × FinitePair c × Finite r

-- every number of the term with the head x and the inside i is finite
pub record Key (x : Entry) (i : Sum) : Type 0 where
  pub num : T (finite x.num)
  pub inside : Finite i

-- a number is finite
number-finite : (x : Float) → T (is_number x) → T (finite x)
number-finite x h = and_l (finite x) (fits binary64 x) h

-- a good sum has finite numbers
pub good-finite : (left : ℕ) (s : Sum) → Good left s → Finite s
unfolding Good Finite
good-finite left none h = tt
good-finite zero (and k p i c r) h = absurd h
good-finite (suc left) (and k p i c r) h = (
  number-finite p h.0.number,
  good-finite left i h.1,
  record { re = number-finite c.re h.0.re; im = number-finite c.im h.0.im },
  good-finite (suc left) r h.3,
)

-- the term of a good entry has finite numbers
pub good-key : (left k n : ℕ) (p : Float) (i : Sum) (c : Complex) → GoodEntry k p i c → Good left i → Key (entry k n p c) i
good-key left k n p i c g h = record { num = number-finite p g.number; inside = good-finite left i h }

-- ---- heads and coefficients

-- heads are in an order
pub head-chain : (x y z : Entry) → T (finite x.num) → T (finite y.num) → T (finite z.num) → Chain (cmp_head x y) (cmp_head y z) (cmp_head x z)
head-chain x y z p q r = chain-then (nat-chain x.kind y.kind z.kind) (cmp-chain x.num y.num z.num p q r)

-- coefficients are in an order
pub complex-chain : (a b c : Complex) → FinitePair a → FinitePair b → FinitePair c → Chain (cmp_complex a b) (cmp_complex b c) (cmp_complex a c)
complex-chain a b c p q r = chain-then (cmp-chain a.re b.re c.re p.re q.re r.re) (cmp-chain a.im b.im c.im p.im q.im r.im)

-- a head is Equal to itself
pub head-self : (x : Entry) → cmp_head x x ≡ Equal
head-self x = then-self (nat-self x.kind) (cmp-self x.num)

-- a coefficient is Equal to itself
pub complex-self : (c : Complex) → cmp_complex c c ≡ Equal
complex-self c = then-self (cmp-self c.re) (cmp-self c.im)

nat-flips : (a b : ℕ) → Flips (cmp_nat a b) (cmp_nat b a)
nat-flips a b = record { is = nat-flip a b }

num-flips : (x y : Float) → Flips (cmp_num x y) (cmp_num y x)
num-flips x y = record { is = cmp-flip x y }

head-flips : (x y : Entry) → Flips (cmp_head x y) (cmp_head y x)
head-flips x y = then_flip (nat-flips x.kind y.kind) (num-flips x.num y.num)

complex-flips : (c d : Complex) → Flips (cmp_complex c d) (cmp_complex d c)
complex-flips c d = then_flip (num-flips c.re d.re) (num-flips c.im d.im)

-- ---- a sum is Equal to itself, and so is a term

-- entry by entry
pub each-self : (s : Sum) → cmp_each s s ≡ Equal
unfolding cmp_each
each-self none = refl
each-self (and k p i c r) = then-self (then-self (then-self (head-self (entry k (size i) p c)) (then-self (nat-self (len i)) (each-self i))) (complex-self c)) (each-self r)

-- as a whole
pub sum_self : (s : Sum) → cmp_sum s s ≡ Equal
sum_self s = then-self (nat-self (len s)) (each-self s)

-- as a term
pub term-self : (x : Entry) (i : Sum) → cmp_term x i x i ≡ Equal
term-self x i = then-self (head-self x) (sum_self i)

-- ---- the order of two sums or terms, the other way round

each-flips : (s t : Sum) → Flips (cmp_each s t) (cmp_each t s)
unfolding cmp_each
each-flips none none = record { is = refl }
each-flips none (and l q j d t) = record { is = refl }
each-flips (and k p i c s) none = record { is = refl }
each-flips (and k p i c s) (and l q j d t) =
    then_flip (then_flip (then_flip (head-flips (entry k (size i) p c) (entry l (size j) q d)) (then_flip (nat-flips (len i) (len j)) (each-flips i j))) (complex-flips c d)) (each-flips s t)

-- entry by entry
pub each-flip : (s t : Sum) → cmp_each t s ≡ flipped (cmp_each s t)
each-flip s t = (each-flips s t).is

sum-flips : (s t : Sum) → Flips (cmp_sum s t) (cmp_sum t s)
sum-flips s t = then_flip (nat-flips (len s) (len t)) (each-flips s t)

-- as a whole
pub sum-flip : (s t : Sum) → cmp_sum t s ≡ flipped (cmp_sum s t)
sum-flip s t = (sum-flips s t).is

-- as a term
pub term-flip : (x : Entry) (i : Sum) (y : Entry) (j : Sum) → cmp_term y j x i ≡ flipped (cmp_term x i y j)
term-flip x i y j = (then_flip (head-flips x y) (sum-flips i j)).is

-- where the first comes after the second, the second comes before the first
pub greater-less : (x : Entry) (i : Sum) (y : Entry) (j : Sum) → cmp_term x i y j ≡ Greater → cmp_term y j x i ≡ Less
greater-less x i y j h = term-flip x i y j ∙ ap flipped h

-- ---- three sums or terms of finite numbers are in an order: Less goes on, and Equal ones lie alike to any other

-- entry by entry, where the lengths are alike
pub each-chain : (s t u : Sum) → Finite s → Finite t → Finite u → len s ≡ len t → len t ≡ len u → Chain (cmp_each s t) (cmp_each t u) (cmp_each s u)
unfolding Finite len cmp_each
each-chain none none u f g h e d = record { less = λ p q. p; left = λ p. refl; right = λ p. refl }
each-chain none (and l q j d t) u f g h e d' = absurd (omega arith)
each-chain (and k p i c s) none u f g h e d = absurd (omega arith)
each-chain (and k p i c s) (and l q j d t) none f g h e d' = absurd (omega arith)
each-chain (and k p i c s) (and l q j d t) (and n o w b u) f g h e d' =
    chain-then
    (chain-then
    (chain-then (head-chain (entry k (size i) p c) (entry l (size j) q d) (entry n (size w) o b) f.0 g.0 h.0)
    (chain-where (nat-chain (len i) (len j) (len w)) (λ a b. each-chain i j w f.1 g.1 h.1 (nat-equal _ _ a) (nat-equal _ _ b))))
    (complex-chain c d b f.2 g.2 h.2))
    (each-chain s t u f.3 g.3 h.3 (omega arith) (omega arith))

-- as a whole
pub sum-chain : (s t u : Sum) → Finite s → Finite t → Finite u → Chain (cmp_sum s t) (cmp_sum t u) (cmp_sum s u)
sum-chain s t u f g h = chain-where (nat-chain (len s) (len t) (len u)) (λ a b. each-chain s t u f g h (nat-equal _ _ a) (nat-equal _ _ b))

-- as a term
pub term-chain : (x : Entry) (i : Sum) (y : Entry) (j : Sum) (z : Entry) (k : Sum) → Key x i → Key y j → Key z k → Chain (cmp_term x i y j) (cmp_term y j z k) (cmp_term x i z k)
term-chain x i y j z k f g h = chain-then (head-chain x y z f.num g.num h.num) (sum-chain i j k f.inside g.inside h.inside)

-- ---- sums that are Equal

-- they have as many outermost entries
pub equal-len : (s t : Sum) → cmp_sum s t ≡ Equal → len s ≡ len t
equal-len s t h = nat-equal _ _ (then-equal-both (cmp_nat (len s) (len t)) (cmp_each s t) h).0

-- they are Equal entry by entry
pub equal-each : (s t : Sum) → cmp_sum s t ≡ Equal → cmp_each s t ≡ Equal
equal-each s t h = (then-equal-both (cmp_nat (len s) (len t)) (cmp_each s t) h).1

-- where they are Equal entry by entry, so are the first heads, insides and coefficients, and the rests
pub equal-and : (x : Entry) (i s : Sum) (y : Entry) (j t : Sum) → cmp_each (and x.kind x.num i x.coef s) (and y.kind y.num j y.coef t) ≡ Equal
    → (cmp_head x y ≡ Equal) × (cmp_sum i j ≡ Equal) × (cmp_complex x.coef y.coef ≡ Equal) × (cmp_each s t ≡ Equal)
unfolding cmp_each
equal-and x i s y j t h =
    let a = then-equal-both (and_then (and_then (cmp_head x y) (cmp_sum i j)) (cmp_complex x.coef y.coef)) (cmp_each s t) h in
    let b = then-equal-both (and_then (cmp_head x y) (cmp_sum i j)) (cmp_complex x.coef y.coef) a.0 in
    let c = then-equal-both (cmp_head x y) (cmp_sum i j) b.0 in
    (c.0, c.1, b.1, a.1)

each-size : (s t : Sum) → len s ≡ len t → cmp_each s t ≡ Equal → size s ≡ size t
unfolding len size
each-size none none e h = refl
each-size none (and l q j d t) e h = absurd (omega arith)
each-size (and k p i c s) none e h = absurd (omega arith)
each-size (and k p i c s) (and l q j d t) e h =
    let a = equal-and (entry k (size i) p c) i s (entry l (size j) q d) j t h in
    omega (arith, each-size i j (equal-len i j a.1) (equal-each i j a.1), each-size s t (omega arith) a.3)

-- they have as many entries, insides counted
pub equal-size : (s t : Sum) → cmp_sum s t ≡ Equal → size s ≡ size t
equal-size s t h = each-size s t (equal-len s t h) (equal-each s t h)
