-- The root of the laws of powers::roots.
use Prim.Native.Nat.{ℕ, zero, suc, ◌+◌, ◌≤◌, ◌<◌}
use native.Mathlib.Omega.{arith}
use native.Mathlib.Decide.{dec_le}
use mathlib.Core.Path.{◌≡◌, refl, sym, ap, ◌∙◌}
use mathlib.Core.Bool.{Bool, true, false, ◌&&◌, cond}
use mathlib.Core.Logic.{◌⊎◌, inl, inr, ⊎_elim}
use lib.Dec.{T, eqb}
use lib.IntN.{pos}
use lib.Ieee.{Float, fin, binary64, fits, of_bits, eq}
use lib.Ieee.Scale.{finite}
use lib.Ieee.Bits.{of_bits-fits, is_true}
use lib.Ieee.Fits.{and_i, mul-fits, cond-fits}
use borrow.Author.Tests.{eqb-true, le-leb}
use Rattle.numbers.specs.Numbers.{is_whole}
use Rattle.numbers.specs.Ops.{◌⊗◌}
use Rattle.numbers.specs.Signs.{zero64, one64}
use Rattle.numbers.proofs.Bools.{T_of}
use Rattle.numbers.proofs.Finite.{zero-is-finite}
use Rattle.numbers.proofs.Values.{bits-0}
use Rattle.numbers.proofs.Zeros.{zero_test, mul-zero-left, zero-finite}
use Rattle.numbers.specs.declared.complex.Complex.{Complex}
use Rattle.numbers.specs.Complex.Arith as complex
use Rattle.cells.specs.declared.Entry.{Entry}
use Rattle.limits.specs.declared.Refusal.TheVariants.{PowerNotFinite}
use Rattle.sums.specs.Tree.Kinds.{X, Div, has_number}
use Rattle.sums.specs.Tree.Sums.{Sum, none, and, size, levels, entry}
use Rattle.sums.specs.Tree.Good.{is_number, is_empty, GoodEntry, Good}
use Rattle.sums.specs.Tree.Map.{put_in, coef_in, formed, sum, refused}
use Rattle.sums.proofs.tree.Keeps.{good-levels}
use Rattle.arithmetic.specs.Singles.{alone}
use Rattle.arithmetic.specs.Power.{rootable, unit_coefs, root_of_one, rooted}
use Rattle.arithmetic.proofs.Steps.{differ, and_both}
use Rattle.arithmetic.proofs.Agree.{root-test, rooted-x, rooted-sum, rooted-refused, x-size, empty-size}
use Rattle.sums.specs.Contract.Lies.{At}
use Rattle.powers.specs.Raise.Contract.Roots.{root_entry}

-- ---- numbers

pub one-is-finite : finite one64 ≡ true
unfolding of_bits
one-is-finite = refl

zero_number : T (is_number zero64)
zero_number = and_i (finite zero64) (fits binary64 zero64) (T_of zero-is-finite) (of_bits-fits binary64 0)

-- the root of a coefficient that is 1 is finite
pub root-finite : (c : Complex) (e : Float) → T (finite e) → complex.same c complex.one ≡ true → T (finite (root_of_one c e).im)
root-finite c e h u = go (is_whole e)
  where
    go : (w : Bool) → T (finite (cond w zero64 (c.im ⊗ e)))
    go true = T_of zero-is-finite
    go false = zero-finite (c.im ⊗ e) (mul-zero-left binary64 c.im e ((zero_test c.im).0 (and_both (eq c.re one64) (eq c.im zero64) u).1) h)

pub root-fits : (c : Complex) (e : Float) → T (fits binary64 (root_of_one c e).im)
root-fits c e = cond-fits binary64 (is_whole e) zero64 (c.im ⊗ e) (of_bits-fits binary64 0) (mul-fits binary64 c.im e)

-- ---- one term

-- a term with finite numbers, whose inside leaves it room, is formed as it stands
pub alone-is : (k : ℕ) (p : Float) (i : Sum) (c : Complex) → finite p ≡ true → finite c.re ≡ true → finite c.im ≡ true → levels i ≤ 3 → size i ≤ 63 → alone k p i c ≡ sum (and k p i c none)
unfolding formed coef_in put_in size
alone-is k p i c a re im d n = rw (a, re, im, le-leb (levels i) 3 d, le-leb (suc (size i + 0)) 64 (omega arith))

-- a rootable sum: one term, an X, or a Div of a rootable sum
record Link (k : ℕ) (t r : Sum) : Type 0 where
  only : r ≡ none
  kind : (eqb k X ≡ true) ⊎ ((eqb k X ≡ false) × (k ≡ Div) × (rootable t ≡ true))

link : (k : ℕ) (p : Float) (t : Sum) (c : Complex) (r : Sum) → rootable (and k p t c r) ≡ true → Link k t r
link k p t c r h =
    let w = and_both (is_empty r) (cond (eqb k X) true (eqb k Div && rootable t)) (sym (root-test k p t c r) ∙ h) in
    record { only = none_of r w.0; kind = go (eqb k X) w.1 }
  where
    none_of : (r : Sum) → is_empty r ≡ true → r ≡ none
    none_of none h = refl
    none_of (and l q j d s) h = differ (sym h)

    go : (b : Bool) → cond b true (eqb k Div && rootable t) ≡ true → (b ≡ true) ⊎ ((b ≡ false) × (k ≡ Div) × (rootable t ≡ true))
    go true h = inl refl
    go false h = let w = and_both (eqb k Div) (rootable t) h in inr (refl, eqb-true k Div w.0, w.1)

-- ---- the cells of the root

x-cell : (e : Float) (k n : ℕ) (p : Float) (c : Complex) → k ≡ X → n ≡ 0 → root_entry e (entry k n p c) ≡ entry X 0 (p ⊗ e) (root_of_one c e)
x-cell e k n p c h z = rw (h, z)

div-cell : (e : Float) (k n m : ℕ) (p : Float) (c : Complex) → k ≡ Div → m ≡ n → root_entry e (entry k n p c) ≡ entry Div m zero64 (root_of_one c e)
div-cell e k n m p c h z = rw (h, z)

-- the root is a sum: it lies from i on, and is as good and as large as s
pub record Root (e : Float) (g : ℕ → Entry) (i left : ℕ) (s : Sum) : Type 0 where
  pub root : Sum
  pub is : rooted e s ≡ sum root
  pub laid : At g i root
  pub good : Good left root
  pub sized : size root ≡ size s

-- what is known of one cell: its coefficient is 1, and where its root's power isn't finite that is the answer
pub record Spot (e : Float) (x : Entry) (s : Sum) : Type 0 where
  pub unit : complex.same x.coef complex.one ≡ true
  pub stops : finite (root_entry e x).num ≡ false → rooted e s ≡ refused PowerNotFinite

module _ (e : Float) (fe : T (finite e)) where
  -- one term, once its inside is known
  node : (g : ℕ → Entry) (i left k : ℕ) (q : Float) (t : Sum) (c : Complex) (s : Sum) → g i ≡ entry k (size t) q (root_of_one c e) → At g (i + 1) t → Good left t → left ≤ 3 → size t ≤ 63
      → size s ≡ suc (size t)
      → GoodEntry k q t (root_of_one c e) → finite q ≡ true → finite (root_of_one c e).im ≡ true → rooted e s ≡ alone k q t (root_of_one c e) → Root e g i (suc left) s
  unfolding At Good size
  node g i left k q t c s here laid good l n sized h fq fi is =
      record {
        root = and k q t (root_of_one c e) none;
        is = is ∙ alone-is k q t (root_of_one c e) fq one-is-finite fi (omega (arith, good-levels left t good)) n;
        laid = (here, laid, tt);
        good = (h, good, tt, tt);
        sized = omega arith;
      }

  -- an entry of finite numbers is a good one
  good-root : (k : ℕ) (q : Float) (t : Sum) (c : Complex) → 1 ≤ k → k ≤ 8 → (has_number k ≡ false → q ≡ fin false 0 (pos 0)) → is_empty t ≡ eqb k X → finite q ≡ true → T (fits binary64 q)
      → complex.same c complex.one ≡ true → GoodEntry k q t (root_of_one c e)
  good-root k q t c least most plus inside fq fits-q u =
      let im = (root_of_one c e).im in
      record {
        least = least;
        most = most;
        number = and_i (finite q) (fits binary64 q) (T_of fq) fits-q;
        none_else = plus;
        re = and_i (finite one64) (fits binary64 one64) (T_of one-is-finite) (of_bits-fits binary64 0x3ff0000000000000);
        im = and_i (finite im) (fits binary64 im) (root-finite c e fe u) (root-fits c e);
        inside = inside;
      }

  -- the cell at i was made a root, whose power is finite
  abbrev Made : (ℕ → Entry) → ℕ → ℕ → ℕ → Float → Complex → Type 0
  Made g i k n p c = (g i ≡ root_entry e (entry k n p c)) × (finite (g i).num ≡ true)

  x-node : (g : ℕ → Entry) (i left k : ℕ) (p : Float) (t : Sum) (c : Complex) (s : Sum) → Made g i k (size t) p c → left ≤ 3 → eqb k X ≡ true → size t ≡ 0 → s ≡ none
      → complex.same c complex.one ≡ true → Root e g i (suc left) (and k p t c s)
  unfolding At Good size
  x-node g i left k p t c s made few x no-inside only u =
      let is = made.0 ∙ x-cell e k (size t) p c (eqb-true k X x) no-inside in
      let fq : finite (p ⊗ e) ≡ true = ap (λ (y : Entry). finite y.num) (sym is) ∙ made.1 in
      let rest : size s ≡ 0 = rw only refl in
      node g i left X (p ⊗ e) none c (and k p t c s) is tt tt few (omega arith) (omega arith)
      (good-root X (p ⊗ e) none c (omega arith) (omega arith) (λ z. differ z) refl fq (mul-fits binary64 p e) u)
      fq (is_true _ (root-finite c e fe u)) (rooted-x k p t c s e x)

  div-node : (g : ℕ → Entry) (i left k : ℕ) (p : Float) (t : Sum) (c : Complex) (s : Sum) → Made g i k (size t) p c → left ≤ 3 → size t ≤ 63 → eqb k X ≡ false → k ≡ Div → is_empty t ≡ false
      → s ≡ none → complex.same c complex.one ≡ true
      → Root e g (i + 1) left t → Root e g i (suc left) (and k p t c s)
  unfolding size
  div-node g i left k p t c s made few n x d some only u inner =
      let sized = inner.sized in
      let rest : size s ≡ 0 = rw only refl in
      node g i left Div zero64 inner.root c (and k p t c s) (made.0 ∙ div-cell e k (size t) (size inner.root) p c d sized) inner.laid inner.good few (omega arith) (omega arith)
      (good-root Div zero64 inner.root c (omega arith) (omega arith) (λ z. bits-0) (empty-size inner.root ∙ ap (λ (m : ℕ). eqb m 0) sized ∙ sym (empty-size t) ∙ some) zero-is-finite
      (of_bits-fits binary64 0) u)
      zero-is-finite (is_true _ (root-finite c e fe u)) (rooted-sum k p t c s e inner.root x inner.is)

  -- the root lies where each cell was made the root of what it was, and the powers are finite
  pub root-laid : (f g : ℕ → Entry) (i left : ℕ) (s : Sum) → left ≤ 4 → size s ≤ 64 → At f i s → Good left s → rootable s ≡ true → unit_coefs s ≡ true
      → ((j : ℕ) → i ≤ j → j < i + size s → (g j ≡ root_entry e (f j)) × (finite (g j).num ≡ true)) → Root e g i left s
  unfolding At Good size rootable unit_coefs
  root-laid f g i left none few n a h r u made = differ (sym r)
  root-laid f g i zero (and k p t c s) few n a h r u made = absurd h
  root-laid f g i (suc left) (and k p t c s) few n a h r u made =
      let w = link k p t c s r in
      let v = and_both (complex.same c complex.one) (unit_coefs t) u in
      let here : Made g i k (size t) p c = (let m = made i (omega arith) (omega arith) in (m.0 ∙ ap (root_entry e) a.0, m.1)) in
      ⊎_elim
      (λ x. x-node g i left k p t c s here (omega arith) x (x-size k p t c h.0 x) w.only v.0)
      (λ d. div-node g i left k p t c s here (omega arith) (omega arith) d.0 d.1 (h.0.inside ∙ d.0) w.only v.0
      (root-laid f g (i + 1) left t (omega arith) (omega arith) a.1 h.1 d.2 v.1 (λ j lo hi. made j (omega arith) (omega arith))))
      w.kind

  -- each cell of such a sum
  pub root-spot : (f : ℕ → Entry) (i left : ℕ) (s : Sum) → At f i s → Good left s → rootable s ≡ true → unit_coefs s ≡ true → (j : ℕ) → i ≤ j → j < i + size s → Spot e (f j) s
  unfolding At Good size rootable unit_coefs formed
  root-spot f i left none a h r u j lo hi = differ (sym r)
  root-spot f i zero (and k p t c s) a h r u j lo hi = absurd h
  root-spot f i (suc left) (and k p t c s) a h r u j lo hi =
      let w = link k p t c s r in
      let v = and_both (complex.same c complex.one) (unit_coefs t) u in
      let rest : size s ≡ 0 = rw w.only refl in
      ⊎_elim (λ x.
      let no-inside = x-size k p t c h.0 x in
      let is : f j ≡ entry k (size t) p c = ap f (omega arith) ∙ a.0 in
      record { unit = rw is v.0; stops = λ n. rooted-x k p t c s e x ∙ rw (rw (is, x) at n) refl })
      (λ d.
      elim (dec_le (i + 1) j) [
        | yes m ↦
            let inner = root-spot f (i + 1) left t a.1 h.1 d.2 v.1 j m (omega arith) in
            record { unit = inner.unit; stops = λ n. rooted-refused k p t c s e PowerNotFinite d.0 (inner.stops n) }
        | no m ↦
            let is : f j ≡ entry k (size t) p c = ap f (omega arith) ∙ a.0 in
            record { unit = rw is v.0; stops = λ n. differ (sym zero-is-finite ∙ rw (is, d.0) at n) }
      ])
      w.kind
