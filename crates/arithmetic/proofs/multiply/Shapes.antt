-- Which sums have a product, as kinds and inside counts tell: a walk over a sum, entry by entry. Assumes nothing.
use Prim.Native.Nat.{ℕ, ◌+◌, ◌-◌, ◌≤◌, ◌<◌}
use native.Mathlib.Omega.{arith}
use mathlib.Core.Path.{◌≡◌, refl, sym, ap, subst, ◌∙◌}
use mathlib.Core.Bool.{Bool, true, false, ◌&&◌}
use mathlib.Core.List.{List}
use lib.ListN.{get_or}
use lib.Ieee.{Float}
use Rattle.numbers.specs.declared.complex.Complex.{Complex}
use Rattle.cells.specs.Contract.Book.{Book, at}
use Rattle.sums.specs.Tree.Sums.{Sum, none, and}
use Rattle.sums.specs.Tree.Good.{Good}
use Rattle.arithmetic.specs.Product.{pairable, rowable, mulable}
use Rattle.sums.specs.Contract.Lies.{At, Lies}
use Rattle.sums.proofs.order.Walk.{opened, good-and, empty}
use Rattle.arithmetic.specs.Multiply.Contract.Shapes.{Shape}

-- a sum that lies in a book has the shape that the book's kinds and inside counts tell
pub shape_of : {b : Book} {i e left : ℕ} {s : Sum} → Lies b i e left s → Shape b.kinds b.insides i e left s
shape_of {b} l = record { f = at b; kinds = λ k. refl; insides = λ k. refl; laid = l.laid; good = l.good; ends = l.ends; room_k = l.room.kinds; room_n = l.room.insides }

-- the first entry, of d entries inside, and the rest
pub record Part (ks ns : List ℕ) (k e left d : ℕ) (s : Sum) : Type 0 where
  pub inner : Sum
  pub rest : Sum
  pub num : Float
  pub coef : Complex
  pub is : s ≡ and (get_or ks k 0) num inner coef rest
  pub shape-inner : Shape ks ns (k + 1) (k + 1 + d) (left - 1) inner
  pub shape-rest : Shape ks ns (k + 1 + d) e left rest
  pub deep : 1 ≤ left
  pub least : 1 ≤ get_or ks k 0
  pub most : get_or ks k 0 ≤ 8
  pub within : k + 1 + d ≤ e

pub part : (ks ns : List ℕ) (k e left : ℕ) (s : Sum) → Shape ks ns k e left s → k < e → Part ks ns k e left (get_or ns k 0) s
part ks ns k e left s l p =
    let ends = l.ends in
    let o = opened l.f k s l.laid (omega arith) in
    let h = good-and left (l.f k) o.inner o.rest (subst (Good left) o.is l.good) in
    let n = l.insides k in
    let kd = l.kinds k in
    let g = h.entry-good in
    let rk = l.room_k in
    let rn = l.room_n in
    record {
      inner = o.inner;
      rest = o.rest;
      num = (l.f k).num;
      coef = (l.f k).coef;
      is = o.is ∙ ap (λ (m : ℕ). and m (l.f k).num o.inner (l.f k).coef o.rest) kd;
      shape-inner = record { f = l.f; kinds = l.kinds; insides = l.insides; laid = o.laid-inner; good = h.inner; ends = omega arith; room_k = omega arith; room_n = omega arith };
      shape-rest = record {
        f = l.f;
        kinds = l.kinds;
        insides = l.insides;
        laid = subst (λ (m : ℕ). At l.f (k + 1 + m) o.rest) n o.laid-rest;
        good = h.rest;
        ends = omega arith;
        room_k = rk;
        room_n = rn;
      };
      deep = h.deep;
      least = omega (arith, g.least);
      most = omega (arith, g.most);
      within = omega arith;
    }

-- ---- a test h of a whole sum, which is a test g of each entry

-- what is left from q on decides
pub record Tests (ks ns : List ℕ) (q e left : ℕ) (h : Sum → Bool) (s : Sum) : Type 0 where
  pub s' : Sum
  pub shape : Shape ks ns q e left s'
  pub same : h s ≡ h s'

-- an entry was tested: the first that fails decides, and else the rest
pub record Tested (ks ns : List ℕ) (q e left : ℕ) (h : Sum → Bool) (s : Sum) (r : Bool) : Type 0 where
  pub s' : Sum
  pub shape : Shape ks ns q e left s'
  pub same : h s ≡ r && h s'

pub tested : (ks ns : List ℕ) (q e left : ℕ) (h : Sum → Bool) (g : ℕ → Sum → Bool) (s : Sum) (r : Bool)
    → ((k : ℕ) (p : Float) (i : Sum) (c : Complex) (u : Sum) → h (and k p i c u) ≡ g k i && h u)
    → Tests ks ns q e left h s → q < e → ((i : Sum) → Shape ks ns (q + 1) (q + 1 + get_or ns q 0) (left - 1) i → r ≡ g (get_or ks q 0) i)
    → Tested ks ns (q + 1 + get_or ns q 0) e left h s r
tested ks ns q e left h g s r law w p call =
    let x = part ks ns q e left w.s' w.shape p in
    record { s' = x.rest; shape = x.shape-rest; same = w.same ∙ ap h x.is ∙ law _ _ _ _ _ ∙ ap (λ (b : Bool). b && h x.rest) (sym (call x.inner x.shape-inner)) }

pub test-no : {ks ns : List ℕ} {q e left : ℕ} {h : Sum → Bool} {s : Sum} {r : Bool} → Tested ks ns q e left h s r → r ≡ false → false ≡ h s
test-no {h = h} x z = sym (x.same ∙ ap (λ (b : Bool). b && h x.s') z)

pub test_on : {ks ns : List ℕ} {q e left : ℕ} {h : Sum → Bool} {s : Sum} {r : Bool} → Tested ks ns q e left h s r → r ≡ true → Tests ks ns q e left h s
test_on {h = h} x z = record { s' = x.s'; shape = x.shape; same = x.same ∙ ap (λ (b : Bool). b && h x.s') z }

pub test-end : {ks ns : List ℕ} {q e left : ℕ} {h : Sum → Bool} {s : Sum} → h none ≡ true → Tests ks ns q e left h s → e ≤ q → true ≡ h s
test-end {h = h} n w p = let ends = w.shape.ends in sym (w.same ∙ ap h (empty w.s' (omega arith)) ∙ n)

-- ---- the tests of a row, and of a sum

pub row-and : (kind : ℕ) (f : Sum → Bool) (k : ℕ) (p : Float) (i : Sum) (c : Complex) (u : Sum) → rowable kind f (and k p i c u) ≡ pairable kind f k i && rowable kind f u
unfolding rowable
row-and kind f k p i c u = refl

pub row-none : (kind : ℕ) (f : Sum → Bool) → rowable kind f none ≡ true
unfolding rowable
row-none kind f = refl

pub sum-and : (b : Sum) (k : ℕ) (p : Float) (i : Sum) (c : Complex) (u : Sum) → mulable (and k p i c u) b ≡ rowable k (mulable i) b && mulable u b
unfolding mulable
sum-and b k p i c u = refl

pub sum-none : (b : Sum) → mulable none b ≡ true
unfolding mulable
sum-none b = refl
