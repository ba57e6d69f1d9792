-- Laws of the product of two sums: which facts a step needs, and what it gives. Assumes nothing.
use Prim.Native.Nat.{ℕ, ◌+◌, ◌-◌, ◌≤◌, ◌<◌}
use native.Mathlib.Omega.{arith}
use mathlib.Core.Path.{◌≡◌, refl, sym, ap, subst, ◌∙◌}
use mathlib.Core.Bool.{Bool, true, false, ◌&&◌, cond, true≢false}
use lib.Dec.{eqb, lit≤}
use lib.Ieee.{Float, of_bits}
use borrow.Author.Tests.{eq-eqb, ne_eqb, eqb-true}
use Rattle.std.specs.declared.cmp.Ordering.{Ordering}
use Rattle.std.specs.declared.cmp.Ordering.TheVariants.{Less, Equal, Greater}
use Rattle.numbers.specs.Ops.{◌⊕◌}
use Rattle.numbers.specs.Signs.{zero64}
use Rattle.numbers.specs.declared.complex.Complex.{Complex}
use Rattle.numbers.specs.Complex.Arith as complex
use Rattle.cells.specs.declared.Entry.{Entry}
use Rattle.cells.specs.Contract.Book.{Book, cell, decoded, at, Room}
use Rattle.sums.proofs.order.Walk.{at_moved}
use Rattle.cells.specs.Contract.Moves.{under, Kept, Copied}
use Rattle.cells.proofs.Laws.{room-less, room-same}
use Rattle.sums.specs.declared.tree.Merge.{Merge}
use Rattle.sums.specs.declared.tree.Merge.TheVariants.{Add}
use Rattle.limits.specs.declared.Refusal.{Refusal}
use Rattle.limits.specs.declared.Refusal.TheVariants.{TooComplex}
use Rattle.sums.specs.Tree.Kinds.{X, Div}
use Rattle.sums.specs.Tree.Sums.{Sum, none, and, size, entry}
use Rattle.sums.specs.Tree.Order.{cmp_term}
use Rattle.sums.specs.Tree.Good.{is_empty}
use Rattle.sums.specs.Tree.Map.{put_in, Outcome, sum, refused, and_then_sum, formed, each_into}
use Rattle.sums.proofs.tree.Keeps.{put_by, formed-sum}
use Rattle.arithmetic.specs.Outcomes.{product_code, add_powers}
use Rattle.arithmetic.specs.Product.{pairable, rowable, mulable, mul_term, mul_into, product}
use Rattle.std.specs.Prelude.{Result, Ok, Err}
use Rattle.sums.specs.Contract.Heads.{GoodHead}
use Rattle.sums.specs.Contract.Lies.{Lies, Agrees}
use Rattle.arithmetic.specs.Add.Contract.Operands.{Operand}
use Rattle.arithmetic.specs.Multiply.Contract.Factors.{Factor, Term, Pair, Row, Sums, Beside}
use Rattle.arithmetic.proofs.multiply.Shapes.{row-and, sum-and}
use Rattle.arithmetic.proofs.add.Lying.{apart-part, clear, lies-clear, Agreed, agreed-done, agreed-refused}
use Rattle.arithmetic.proofs.add.Folding.{Folding, here, tests}

-- ---- operands

-- a stretch whose cells are those of another lies as that one does
lies_same : (g b : Book) (i n k left : ℕ) (s : Sum) → ((j : ℕ) → j < n → cell b (k + j) ≡ cell g (i + j)) → Room b (k + n) → Lies g i (i + n) left s → Lies b k (k + n) left s
lies_same g b i n k left s same room l =
    let ends = l.ends in
    record {
      laid = at_moved (at g) (at b) i k s (λ u v lo hi e. ap (at b) (omega arith) ∙ ap decoded (same (u - i) (omega arith)) ∙ ap (at g) (omega arith)) l.laid;
      good = l.good;
      ends = omega arith;
      room = room;
    }

-- what lies apart from the result stays an operand
pub factor-kept : {b b' : Book} {i n p left : ℕ} {s : Sum} → Kept b b' p (p + 64) → Factor b i n p left s → Factor b' i n p left s
factor-kept k o = record { lies = lies-clear k (clear o.apart) o.lies; few = o.few; apart = o.apart }

-- ---- a product of sums is a step for each entry of the first

-- the products of one term with each of b
abbrev pub row_of : Sum → Entry → Sum → Sum → Outcome
row_of b x i s = each_into (mul_term x (λ v. mul_into i v none)) s b

pub mul-each : (a b s : Sum) → mul_into a b s ≡ each_into (row_of b) s a
unfolding mul_into each_into
mul-each none b s = refl
mul-each (and k p i c r) b s = go (row_of b (entry k (size i) p c) i s) (λ u. mul-each r b u)
  where
    go : (o : Outcome) → ((u : Sum) → mul_into r b u ≡ each_into (row_of b) u r) → and_then_sum o (λ u. mul_into r b u) ≡ and_then_sum o (λ u. each_into (row_of b) u r)
    go (sum u) e = e u
    go (refused q) e = refl

-- ---- a product of sums that aren't empty isn't empty

-- a sum isn't a refusal
clash : {q : Refusal} {s : Sum} → refused q ≡ sum s → ⊥
clash h = let z : ◌≡◌ {A = ℕ} 0 1 = cc in omega arith

put_some : (m : Merge) (x : Entry) (t s : Sum) → 0 < size (put_in m x t s)
unfolding put_in size
put_some m x t none = omega arith
put_some m x t (and l q j d r) = go (cmp_term x t (entry l (size j) q d) j)
  where
    go : (o : Ordering) → 0 < size (put_by m x t l q j d r o)
    go Less = omega arith
    go Equal = omega arith
    go Greater = omega arith

formed-some : (m : Merge) (x : Entry) (t s s' : Sum) → formed m x t s ≡ sum s' → 0 < size s'
formed-some m x t s s' h = rw (formed-sum m x t s s' h).is (put_some m x t s)

each-some : (f : Entry → Sum → Sum → Outcome) → ((x : Entry) (j s s' : Sum) → f x j s ≡ sum s' → 0 < size s')
    → (b s s' : Sum) → each_into f s b ≡ sum s' → 0 < size b + size s → 0 < size s'
unfolding each_into size
each-some f k none s s' h n = let e : s ≡ s' = cc in subst (λ (u : Sum). 0 < size u) e (omega arith)
each-some f k (and l q j d r) s s' h n = go (f (entry l (size j) q d) j s) refl h (λ u. each-some f k r u s')
  where
    go : (o : Outcome) → f (entry l (size j) q d) j s ≡ o → and_then_sum o (λ u. each_into f u r) ≡ sum s' → ((u : Sum) → each_into f u r ≡ sum s' → 0 < size r + size u → 0 < size s') → 0 < size s'
    go (sum u) e h c = c u h (omega (arith, k _ _ _ u e))
    go (refused q) e h c = absurd (clash h)

term-some : (x : Entry) (f : Sum → Outcome) (y : Entry) (v s s' : Sum) → mul_term x f y v s ≡ sum s' → 0 < size s'
term-some x f y v s s' h = go (eqb x.kind X) (f v) h
  where
    go : (c : Bool) (o : Outcome)
        → cond c (formed Add (entry X 0 (x.num ⊕ y.num) (complex.times x.coef y.coef)) none s)
        (and_then_sum o (λ w. formed Add (entry Div (size w) zero64 (complex.times x.coef y.coef)) w s)) ≡ sum s'
        → 0 < size s'
    go true o h = formed-some Add _ none s s' h
    go false (sum w) h = formed-some Add _ w s s' h
    go false (refused q) h = absurd (clash h)

pub mul-some : (a b s' : Sum) → mul_into a b none ≡ sum s' → 0 < size a → 0 < size b → 0 < size s'
mul-some a b s' h n m =
    each-some (row_of b) (λ x i s u e. each-some (mul_term x (λ v. mul_into i v none)) (term-some x (λ v. mul_into i v none)) b s u e (omega arith)) a none s'
    (sym (mul-each a b none) ∙ h) (omega arith)

-- ---- what has a product

-- of a pair whose first is no X the insides have one, and the second is a Div
pair-insides : (k l : ℕ) (f : Sum → Bool) (v : Sum) → (k ≡ X → ⊥) → pairable k f l v ≡ true → (f v ≡ true) × (l ≡ Div)
pair-insides k l f v n h = go (eqb k Div) (eqb l Div) refl (rw (ne_eqb k X n) at h)
  where
    go : (a b : Bool) → eqb l Div ≡ b → cond (eqb (cond (a && b) 2 0) 1) true (cond (eqb (cond (a && b) 2 0) 2) (f v) false) ≡ true → (f v ≡ true) × (l ≡ Div)
    go true true e h = (h, eqb-true l Div e)
    go true false e h = absurd (true≢false (sym h))
    go false b e h = absurd (true≢false (sym h))

-- powers are added of two X alone
pub by-powers : (k l : ℕ) {n : ℕ} → n ≡ product_code k l → n ≡ add_powers → k ≡ X
by-powers k l {n} e h = go (eqb k X) (eqb l X) (eqb k Div && eqb l Div) refl (sym e ∙ h)
  where
    go : (a b d : Bool) → eqb k X ≡ a → cond (a && b) 1 (cond d 2 0) ≡ add_powers → k ≡ X
    go true b d z h = eqb-true k X z
    go false b true z h = absurd (omega arith)
    go false b false z h = absurd (omega arith)

-- of a pair that has a product and whose powers aren't added, the first is no X
pub by-insides : (k l : ℕ) (f : Sum → Bool) (v : Sum) {n : ℕ} → pairable k f l v ≡ true → n ≡ product_code k l → (n ≡ add_powers → ⊥) → k ≡ X → ⊥
by-insides k l f v {n} able e not-added is_x = go (eqb l X) (rw (eq-eqb k X is_x, ne_eqb k Div (λ z. omega (arith, is_x, z))) at able) (rw (eq-eqb k X is_x) at e)
  where
    go : (b : Bool) → cond (eqb (cond b 1 0) 1) true (cond (eqb (cond b 1 0) 2) (f v) false) ≡ true → n ≡ cond b 1 (cond (eqb k Div && eqb l Div) 2 0) → ⊥
    go true h z = not-added z
    go false h z = true≢false (sym h)

some-inside : {b : Book} {x : Entry} {i p left : ℕ} {t : Sum} → Term b x i p left t → (x.kind ≡ X → ⊥) → 0 < x.inside
unfolding size
some-inside {x = x} {t = t} w n =
    let ends = w.inside.lies.ends in
    omega (arith, go t (w.good.inside ∙ ne_eqb x.kind X n))
  where
    go : (t : Sum) → is_empty t ≡ false → 0 < size t
    go none h = absurd (true≢false h)
    go (and k p i c r) h = omega arith

pub record Insides (b : Book) (i n j m p left : ℕ) : Type 0 where
  pub sums : Sums b i n j m p left
  pub some_first : 0 < n
  pub some-second : 0 < m

pub insides : {b : Book} {x : Entry} {i : ℕ} {y : Entry} {j p left : ℕ} → Pair b x i y j p left → (x.kind ≡ X → ⊥) → Insides b i x.inside j y.inside p left
insides {x = x} {y = y} w n =
    let a = pair-insides x.kind y.kind (mulable w.t) w.v n w.able in
    let d = a.1 in
    record {
      sums = record { s = w.t; t = w.v; first = w.first.inside; second = w.second.inside; able = a.0 };
      some_first = some-inside w.first n;
      some-second = some-inside w.second (λ e. omega arith);
    }

-- the second copy leaves the first as it was
pub beside : {g b b₁ b₂ : Book} {i n j m : ℕ} → Copied g b b₁ i n 0 → Copied g b₁ b₂ j m 64 → n ≤ 64 → Room b 256 → Beside g b₂ i n j m
beside c d few room = record { first = λ k h. d.below (0 + k) (omega arith) ∙ c.copied k h; second = d.copied; room = room-same d.long (room-same c.long room) }

-- the copies of two sums
module _ {b b' : Book} {i n j m left : ℕ} (c : Beside b b' i n j m) where
  pub first-copy : {s : Sum} → n ≤ 64 → Lies b i (i + n) left s → Lies b' 0 (0 + n) left s
  first-copy {s} few l = lies_same b b' i n 0 left s c.first (room-less (omega arith) c.room) l

  pub second-copy : {s : Sum} → m ≤ 64 → Lies b j (j + m) left s → Lies b' 64 (64 + m) left s
  second-copy {s} few l = lies_same b b' j m 64 left s c.second (room-less (omega arith) c.room) l

  pub copies : {p : ℕ} → Sums b i n j m p left → Sums b' 0 n 64 m 128 left
  copies w =
      let few-s = w.first.few in
      let few-t = w.second.few in
      record {
        s = w.s;
        t = w.t;
        first = record { lies = first-copy few-s w.first.lies; few = few-s; apart = under (omega arith) };
        second = record { lies = second-copy few-t w.second.lies; few = few-t; apart = under (omega arith) };
        able = w.able;
      }

-- a product of insides that was formed has entries
pub made_some : {b g : Book} {i n j m p k left : ℕ} (w : Sums b i n j m p left) → 0 < n → 0 < m → Agreed g 128 k (mul_into w.s w.t none) → 0 < k
made_some w n m a =
    let ends-s = w.first.lies.ends in
    let ends-t = w.second.lies.ends in
    let sized = a.sized in
    omega (arith, mul-some w.s w.t a.s a.is (omega arith) (omega arith))

-- ---- a turn of a row: the next pair

module _ {b₀ b : Book} {x : Entry} {i j m p n q left : ℕ} {s : Sum} (w : Row b₀ x i j m p left) (kept : Kept b₀ b p (p + 64)) (y : Entry) (low : j ≤ q)
    (now : Folding (mul_term x (λ u. mul_into w.t u none)) (rowable x.kind (mulable w.t)) b p n q (j + m) left s w.v) (ey : y ≡ at b q) (l : q < j + m) where
  pub next-pair : Pair b x i y (q + 1) p (left - 1)
  next-pair =
      let k = here y now ey l in
      let few = w.second.few in
      let within = k.within in
      record {
        t = w.t;
        v = k.inner;
        first = record { good = w.first.good; inside = factor-kept kept w.first.inside };
        second = record { good = k.first.entry-good; inside = record { lies = k.lies-inner; few = omega arith; apart = apart-part (omega arith) within w.second.apart } };
        able = (tests _ _ (pairable x.kind (mulable w.t)) (row-and x.kind (mulable w.t)) now k w.able).0;
      }

-- ---- a turn of a product: the next row

module _ {b₀ b : Book} {i n j m p len q left : ℕ} (w : Sums b₀ i n j m p left) (kept : Kept b₀ b p (p + 64)) (x : Entry) (low : i ≤ q)
    (now : Folding (row_of w.t) (λ u. mulable u w.t) b p len q (i + n) left none w.s) (ex : x ≡ at b q) (l : q < i + n) where
  pub next_row : Row b x (q + 1) j m p left
  next_row =
      let k = here x now ex l in
      let few = w.first.few in
      let within = k.within in
      record {
        t = k.inner;
        v = w.t;
        first = record { good = k.first.entry-good; inside = record { lies = k.lies-inner; few = omega arith; apart = apart-part (omega arith) within w.first.apart } };
        second = factor-kept kept w.second;
        able = (tests _ _ (λ l i. rowable l (mulable i) w.t) (sum-and w.t) now k w.able).0;
      }

-- ---- the heads that are put in

pub x-head : (q : Float) (c : Complex) → GoodHead (entry X 0 q c)
x-head q c = record { least = lit≤ tt; most = lit≤ tt; none_else = λ h. absurd (true≢false h); inside = refl }

pub div-head : (k : ℕ) (c : Complex) → 0 < k → GoodHead (entry Div k zero64 c)
unfolding of_bits
div-head k c n = record { least = lit≤ tt; most = lit≤ tt; none_else = λ h. refl; inside = ne_eqb k 0 (λ e. omega arith) }

-- ---- one pair

-- X · X
pub pair-x : (b : Book) (p : ℕ) (x y : Entry) (f : Sum → Outcome) (v s : Sum) (q : Float) (c : Complex) (r : Result ℕ Refusal) → x.kind ≡ X → q ≡ x.num ⊕ y.num → c ≡ complex.times x.coef y.coef
    → Agrees r b p (formed Add (entry X 0 q c) none s) → Agrees r b p (mul_term x f y v s)
pair-x b p x y f v s q c r k eq ec a = rw (eq-eqb _ _ k, ← eq, ← ec) a

-- Div · Div
pub pair-div : (b : Book) (p : ℕ) (x y : Entry) (f : Sum → Outcome) (v s : Sum) (c : Complex) (r : Result ℕ Refusal) → (x.kind ≡ X → ⊥) → c ≡ complex.times x.coef y.coef
    → Agrees r b p (and_then_sum (f v) (λ w. formed Add (entry Div (size w) zero64 c) w s)) → Agrees r b p (mul_term x f y v s)
pair-div b p x y f v s c r k ec a = rw (ne_eqb _ _ k, ← ec) a

-- its inside was formed, as a sum of k entries
pub div-done : (g b : Book) (p k : ℕ) (c : Complex) (o : Outcome) (s : Sum) (r r' : Result ℕ Refusal) → Agrees r g 128 o → r ≡ Ok k
    → ((w : Sum) → Lies g 128 (128 + k) 4 w → Agrees r' b p (formed Add (entry Div k zero64 c) w s))
    → Agrees r' b p (and_then_sum o (λ w. formed Add (entry Div (size w) zero64 c) w s))
div-done g b p k c o s r r' a e put =
    let d = agreed-done g 128 k r o a e in
    rw (d.is, d.sized) (put d.s d.lies)

-- or refused
pub div-refused : (g b : Book) (p : ℕ) (q : Refusal) (o : Outcome) (r : Result ℕ Refusal) (next : Sum → Outcome) → Agrees r g 128 o → r ≡ Err q → Agrees (Err q) b p (and_then_sum o next)
div-refused g b p q o r next a e = rw (agreed-refused g 128 q r o a e) refl

-- ---- the whole

pub whole : {b : Book} {i n j m p : ℕ} (v : Operand b i n p) (w : Operand b j m p) → mulable v.held.0 w.held.0 ≡ true → Sums b i n j m p 4
whole v w able =
    record {
      s = v.held.0;
      t = w.held.0;
      first = record { lies = v.held.1; few = v.few; apart = v.apart };
      second = record { lies = w.held.1; few = w.few; apart = w.apart };
      able = able;
    }

pub product-able : (b : Book) (p : ℕ) (s t : Sum) (r : Result ℕ Refusal) → mulable s t ≡ true → Agrees r b p (mul_into s t none) → Agrees r b p (product s t)
unfolding product
product-able b p s t r e a = rw e a

pub product-not : (b : Book) (p : ℕ) (s t : Sum) → mulable s t ≡ false → Agrees (Err TooComplex) b p (product s t)
unfolding product
product-not b p s t e = rw e refl
