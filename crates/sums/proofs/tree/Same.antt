-- The Rust's `==` beside the order: Equal terms are `==`, and terms with no inside are Equal where they are `==`; with coefficients inside they need not be. Assumes nothing.
use Prim.Native.Nat.{ℕ}
use native.Mathlib.Omega.{arith}
use mathlib.Core.Path.{◌≡◌, refl, sym, ap, ap₂}
use mathlib.Core.Logic.{◌↔◌}
use mathlib.Core.Bool.{Bool, true, false, ◌&&◌, true≢false, false≢true}
use lib.Dec.{T, eqb, lit≤}
use lib.Ieee.{Float, lt, eq, fits, binary64, of_bits}
use lib.Ieee.Scale.{finite}
use borrow.Author.Tests.{eqb-true, eq-eqb}
use Rattle.std.specs.declared.cmp.Ordering.TheVariants.{Less, Equal}
use Rattle.numbers.specs.Order.{cmp_num}
use Rattle.numbers.proofs.Bools.{eqb-by}
use Rattle.numbers.proofs.Zeros.{eq_self}
use Rattle.numbers.proofs.Order.{cmp-equal-eq, eq-symmetric, eq-transitive, then-equal-both}
use Rattle.numbers.specs.Complex.Arith as complex
use Rattle.cells.specs.declared.Entry.{Entry}
use Rattle.sums.specs.Tree.Kinds.{X, Sin, Cos}
use Rattle.sums.specs.Tree.Sums.{Sum, none, and, size, len, entry}
use Rattle.sums.specs.Tree.Order.{cmp_nat, cmp_head, cmp_each, cmp_sum, cmp_term}
use Rattle.sums.specs.Tree.Good.{Good}
use Rattle.sums.specs.Tree.Same.{same_head, same_sum, same_term}
use Rattle.sums.proofs.tree.Order.{Finite, Key, nat-self, nat-equal, equal-len, equal-each, equal-and}

-- two tests that pass
both : {a b : Bool} → a ≡ true → b ≡ true → a && b ≡ true
both e f = rw e f

-- both tests passed
each_of : (a b : Bool) → a && b ≡ true → (a ≡ true) × (b ≡ true)
each_of true b h = (refl, h)
each_of false b h = (h, cc)

-- ---- Equal and `==`

-- heads are Equal where they are `==`
pub head-same : (x y : Entry) → T (finite x.num) → T (finite y.num) → (cmp_head x y ≡ Equal) ↔ (same_head x y ≡ true)
head-same x y f g = (
  λ h. let a = then-equal-both (cmp_nat x.kind y.kind) (cmp_num x.num y.num) h in
      both (eq-eqb x.kind y.kind (nat-equal x.kind y.kind a.0)) ((cmp-equal-eq x.num y.num f g).0 a.1),
  λ h. let a = each_of (eqb x.kind y.kind) (eq x.num y.num) h in
      rw (eqb-true x.kind y.kind a.0, nat-self y.kind) ((cmp-equal-eq x.num y.num f g).1 a.1),
)

-- sums that are Equal entry by entry, and as long, are `==`
equal-same-each : (s t : Sum) → Finite s → Finite t → len s ≡ len t → cmp_each s t ≡ Equal → same_sum s t ≡ true
unfolding Finite len same_sum
equal-same-each none none f g e h = refl
equal-same-each none (and l q j d t) f g e h = absurd (omega arith)
equal-same-each (and k p i c s) none f g e h = absurd (omega arith)
equal-same-each (and k p i c s) (and l q j d t) f g e h =
    let a = equal-and (entry k (size i) p c) i s (entry l (size j) q d) j t h in
    both (both ((head-same (entry k (size i) p c) (entry l (size j) q d) f.0 g.0).0 a.0) (equal-same-each i j f.1 g.1 (equal-len i j a.1) (equal-each i j a.1)))
    (equal-same-each s t f.3 g.3 (omega arith) a.3)

-- Equal sums are `==`
pub equal-same-sum : (s t : Sum) → Finite s → Finite t → cmp_sum s t ≡ Equal → same_sum s t ≡ true
equal-same-sum s t f g h = equal-same-each s t f g (equal-len s t h) (equal-each s t h)

-- Equal terms are `==`
pub equal-same-term : (x : Entry) (i : Sum) (y : Entry) (j : Sum) → Key x i → Key y j → cmp_term x i y j ≡ Equal → same_term x i y j ≡ true
equal-same-term x i y j f g h =
    let a = then-equal-both (cmp_head x y) (cmp_sum i j) h in
    both ((head-same x y f.num g.num).0 a.0) (equal-same-sum i j f.inside g.inside a.1)

-- terms with no inside are Equal where they are `==`
pub alone-same : (x y : Entry) → T (finite x.num) → T (finite y.num) → (cmp_term x none y none ≡ Equal) ↔ (same_term x none y none ≡ true)
unfolding cmp_each same_sum len
alone-same x y f g = (
  λ h. both ((head-same x y f g).0 (then-equal-both (cmp_head x y) Equal h).0) refl,
  λ h. rw ((head-same x y f g).1 (each_of (same_head x y) true h).0),
)

-- ---- examples

-- n times x
abbrev pub multiple : Float → Sum
multiple n = and X (complex.one).re none (complex.real n) none

-- the function of kind k of a sum
abbrev pub of : ℕ → Sum → Sum
of k i = and k (of_bits binary64 0) i complex.one none

abbrev pub 2x : Sum
2x = multiple (of_bits binary64 0x4000000000000000)

abbrev pub 3x : Sum
3x = multiple (of_bits binary64 0x4008000000000000)

-- sin(2x) is a good sum
pub good-example : Good 2 (of Sin 2x)
unfolding Good of_bits fits
good-example = (
  record { least = lit≤ tt; most = lit≤ tt; number = tt; none_else = λ h. refl; re = tt; im = tt; inside = refl },
  (record { least = lit≤ tt; most = lit≤ tt; number = tt; none_else = λ h. absurd (true≢false h); re = tt; im = tt; inside = refl }, tt, tt, tt),
  tt,
  tt,
)

-- sin(2x) and sin(3x) are `==`, and the first comes before the second
pub same-unequal : (same_sum (of Sin 2x) (of Sin 3x) ≡ true) × (cmp_sum (of Sin 2x) (of Sin 3x) ≡ Less)
unfolding same_sum cmp_each len size eq lt of_bits
same-unequal = (refl, refl)

-- sin(2x) and cos(2x) aren't `==`, and the first comes before the second
pub other-unequal : (same_sum (of Sin 2x) (of Cos 2x) ≡ false) × (cmp_sum (of Sin 2x) (of Cos 2x) ≡ Less)
unfolding same_sum cmp_each len size eq lt of_bits
other-unequal = (refl, refl)

-- ---- `==` is an equivalence

-- a head is `==` to itself
head-self : (x : Entry) → T (finite x.num) → same_head x x ≡ true
head-self x f = both (eq-eqb x.kind x.kind refl) (eq_self x.num f)

-- a sum is `==` to itself
pub same_self : (s : Sum) → Finite s → same_sum s s ≡ true
unfolding Finite same_sum
same_self none f = refl
same_self (and k p i c s) f = both (both (head-self (entry k (size i) p c) f.0) (same_self i f.1)) (same_self s f.3)

-- the other way round
head-flip : (x y : Entry) → same_head x y ≡ same_head y x
head-flip x y = ap₂ ◌&&◌ (eqb-by x.kind y.kind y.kind x.kind sym sym) (eq-symmetric x.num y.num)

-- it goes both ways
pub same-flip : (s t : Sum) → same_sum s t ≡ same_sum t s
unfolding same_sum
same-flip none none = refl
same-flip none (and l q j d t) = refl
same-flip (and k p i c s) none = refl
same-flip (and k p i c s) (and l q j d t) = ap₂ ◌&&◌ (ap₂ ◌&&◌ (head-flip (entry k (size i) p c) (entry l (size j) q d)) (same-flip i j)) (same-flip s t)

-- heads that are `==` are `==` to the same heads
head-like : (x y z : Entry) → T (finite x.num) → T (finite y.num) → T (finite z.num) → same_head x y ≡ true → same_head x z ≡ same_head y z
head-like x y z f g h e =
    let a = each_of (eqb x.kind y.kind) (eq x.num y.num) e in
    ap₂ ◌&&◌ (ap (λ (n : ℕ). eqb n z.kind) (eqb-true x.kind y.kind a.0)) (eq-transitive x.num y.num z.num f g h a.1)

-- sums that are `==` are `==` to the same sums
pub same-like : (s t u : Sum) → Finite s → Finite t → Finite u → same_sum s t ≡ true → same_sum s u ≡ same_sum t u
unfolding Finite same_sum
same-like none none u f g h e = refl
same-like none (and l q j d t) u f g h e = absurd (false≢true e)
same-like (and k p i c s) none u f g h e = absurd (false≢true e)
same-like (and k p i c s) (and l q j d t) none f g h e = refl
same-like (and k p i c s) (and l q j d t) (and n o w b u) f g h e =
    let a = each_of (same_head (entry k (size i) p c) (entry l (size j) q d) && same_sum i j) (same_sum s t) e in
    let v = each_of (same_head (entry k (size i) p c) (entry l (size j) q d)) (same_sum i j) a.0 in
    ap₂ ◌&&◌ (ap₂ ◌&&◌ (head-like (entry k (size i) p c) (entry l (size j) q d) (entry n (size w) o b) f.0 g.0 h.0 v.0) (same-like i j w f.1 g.1 h.1 v.1))
    (same-like s t u f.3 g.3 h.3 a.1)
