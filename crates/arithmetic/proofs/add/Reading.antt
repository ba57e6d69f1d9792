-- What can be read off a sum that lies in a book: whether it is a constant, x itself, or has another power of x. Assumes nothing.
use Prim.Native.Nat.{ℕ, zero, suc, ◌+◌, ◌-◌, ◌≤◌, ◌<◌}
use native.Mathlib.Omega.{arith}
use mathlib.Core.Path.{◌≡◌, refl, sym, ap, ap₂, ◌∙◌}
use mathlib.Core.Bool.{Bool, true, false, ◌&&◌, ◌||◌, cond}
use mathlib.Core.List.{List, [], ◌++◌, append_assoc, append-nil}
use lib.Dec.{eqb}
use lib.Ieee.{Float, eq}
use Rattle.numbers.specs.Signs.{one64}
use Rattle.numbers.specs.declared.complex.Complex.{Complex}
use Rattle.cells.specs.declared.Entry.{Entry}
use Rattle.cells.specs.Contract.Book.{Book, at}
use Rattle.sums.specs.Tree.Kinds.{X}
use Rattle.sums.specs.Tree.Sums.{Sum, none, and, size, flat}
use Rattle.sums.specs.Tree.Good.{Good, GoodEntry}
use Rattle.sums.specs.Tree.Map as map
use Rattle.arithmetic.specs.Singles.{is_one, as_constant, is_x, is_complex}
use Rattle.arithmetic.proofs.Agree.{x-size, complex_entry, any_complex, complex-flat}
use Rattle.sums.specs.Contract.Lies.{At, Lies}
use Rattle.sums.proofs.order.Walk.{next, empty}

-- ---- a sum of one cell, and any other

-- the kind is no X where there is an inside
no-x : {k : ℕ} {p : Float} {i : Sum} {c : Complex} → GoodEntry k p i c → (size i ≡ 0 → ⊥) → eqb k X ≡ false
no-x {k} {p} {i} {c} g h = go (eqb k X) refl
  where
    go : (b : Bool) → eqb k X ≡ b → b ≡ false
    go true e = absurd (h (x-size k p i c g e))
    go false e = refl

-- a good sum that is not one entry without an inside is neither a constant nor x
not-single : (s : Sum) → Good 4 s → (size s ≡ 1 → ⊥) → (as_constant s ≡ map.absent) × (is_x s ≡ false)
unfolding as_constant is_x size Good
not-single none g h = (refl, refl)
not-single (and k p i c none) g h = let e = no-x g.0 (λ z. h (omega arith)) in (rw e, rw e)
not-single (and k p i c (and l q j d r)) g h = (refl, refl)

pub not-one : {b : Book} {i n : ℕ} {s : Sum} → Lies b i (i + n) 4 s → (n ≡ 1 → ⊥) → (as_constant s ≡ map.absent) × (is_x s ≡ false)
not-one {s = s} l h = let ends = l.ends in not-single s l.good (λ e. h (omega arith))

-- one cell is one entry, which decides
single-is : (s : Sum) (x : Entry) (i r : Sum) → s ≡ and x.kind x.num i x.coef r → size r ≡ 0
    → (as_constant s ≡ cond (is_one x.kind x.num) (map.at x.coef) map.absent) × (is_x s ≡ eqb x.kind X && eq x.num one64)
unfolding as_constant is_x
single-is s x i r e z = rw (e, empty r z) (refl, refl)

pub one : {b : Book} {i n : ℕ} {s : Sum} (x : Entry) → x ≡ at b i → Lies b i (i + n) 4 s → n ≡ 1
    → (as_constant s ≡ cond (is_one x.kind x.num) (map.at x.coef) map.absent) × (is_x s ≡ eqb x.kind X && eq x.num one64)
one {b} {i} {n} {s} x ex l e =
    let m = next b i (i + n) 4 s x ex l (omega arith) in
    let rest = m.lies-rest.ends in
    single-is s x m.inner m.rest m.is (omega arith)

-- ---- every cell in turn

-- one of the n entries from k on makes a sum complex
unfoldable pub scan : (ℕ → Entry) → ℕ → ℕ → Bool
scan f k zero = false
scan f k (suc n) = complex_entry (f k) || scan f (k + 1) n

scan-same : (f : ℕ → Entry) (k k' n n' : ℕ) → k ≡ k' → n ≡ n' → scan f k n ≡ scan f k' n'
scan-same f k k' n n' e h = ap₂ (scan f) e h

scan-flat : (f : ℕ → Entry) (i : ℕ) (s : Sum) (es : List Entry) (m : ℕ) → At f i s → any_complex es ≡ scan f (i + size s) m → any_complex (flat s ++ es) ≡ scan f i (size s + m)
unfolding At size flat scan
scan-flat f i none es m a h = h ∙ scan-same f (i + zero) i m (zero + m) (omega arith) (omega arith)
scan-flat f i (and k p t c r) es m a h =
    let after = h ∙ scan-same f (i + suc (size t + size r)) (i + 1 + size t + size r) m m (omega arith) refl in
    let rest = scan-flat f (i + 1 + size t) r es m a.2 after in
    ap₂ ◌||◌ (ap complex_entry (sym a.0)) (ap any_complex (append_assoc (flat t) (flat r) es) ∙ scan-flat f (i + 1) t (flat r ++ es) (size r + m) a.1 rest)
    ∙ scan-same f i i (suc (size t + (size r + m))) (suc (size t + size r) + m) refl (omega arith)

-- a sum that lies there is complex where one of its cells makes it so
pub scan-all : {b : Book} {i e : ℕ} (s : Sum) → Lies b i e 4 s → is_complex s ≡ scan (at b) i (e - i)
unfolding scan
scan-all {b} {i} {e} s l =
    let ends = l.ends in
    complex-flat 4 s l.good ∙ ap any_complex (sym (append-nil (flat s))) ∙ scan-flat (at b) i s [] 0 l.laid refl ∙ scan-same (at b) i i (size s + 0) (e - i) refl (omega arith)

module _ (f : ℕ → Entry) (k e : ℕ) where
  -- the next cell makes it so
  pub scan-found : k < e → complex_entry (f k) ≡ true → scan f k (e - k) ≡ true
  unfolding scan
  scan-found h t = scan-same f k k (e - k) (suc (e - (k + 1))) refl (omega arith) ∙ ap (λ (v : Bool). v || scan f (k + 1) (e - (k + 1))) t

  -- it does not
  pub scan-past : k < e → complex_entry (f k) ≡ false → scan f k (e - k) ≡ scan f (k + 1) (e - (k + 1))
  unfolding scan
  scan-past h t = scan-same f k k (e - k) (suc (e - (k + 1))) refl (omega arith) ∙ ap (λ (v : Bool). v || scan f (k + 1) (e - (k + 1))) t

  -- nothing is left
  pub scan-end : e ≤ k → scan f k (e - k) ≡ false
  unfolding scan
  scan-end h = scan-same f k k (e - k) zero refl (omega arith)
