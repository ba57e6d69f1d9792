-- Sums gone through from the top down: where they begin, and whether any is complex. Assumes nothing.
use Prim.Native.Nat.{ℕ, zero, suc, ◌+◌, ◌-◌, ◌≤◌, ◌<◌}
use native.Mathlib.Omega.{arith}
use mathlib.Core.Path.{◌≡◌, refl, sym, ap, subst, ◌∙◌}
use mathlib.Core.Bool.{Bool, true, false, ◌||◌}
use mathlib.Core.List.{List, ◌∷◌}
use lib.ListN.{get_or}
use Rattle.sums.specs.Tree.Sums.{Sum}
use Rattle.arithmetic.specs.Singles.{is_complex}
use Rattle.sums.specs.Contract.Lies.{Lies, Held}
use Rattle.stack.specs.Contract.Arena.{Arena}
use Rattle.stack.specs.Stack.{any_complex}
use Rattle.stack.specs.Contract.Stacked.{Stacked, Sized, no_size, one_more, deep}
use Rattle.std.specs.Prelude.{Some, None}
use Rattle.stack.proofs.slots.Laws.{One, stacked-one, stacked-some, stacked-end, stacked-size}

-- the size that stands at the last cell
pub sized-top : {z : List ℕ} {lo hi n : ℕ} {ns : List ℕ} → Sized z lo hi (n ∷ ns) → get_or z (hi - 1) 0 ≡ n
sized-top (one_more e some told st) = told

-- ---- where the top k begin

-- at p the search has the same answer
pub record Sought (z : List ℕ) (lo hi k p left : ℕ) : Type 0 where
  pub low : p ≤ hi
  pub held : (ns : List ℕ) × Sized z lo p ns
  pub same : (ns : List ℕ) → Sized z lo hi ns → (ms : List ℕ) × Sized z lo p ms × (deep k ns hi ≡ deep left ms p)

pub sought-start : {z : List ℕ} {lo hi : ℕ} (k : ℕ) → (ns : List ℕ) × Sized z lo hi ns → Sought z lo hi k hi k
sought-start k held = record { low = omega arith; held = held; same = λ ns s. (ns, s, refl) }

sized-le : {z : List ℕ} {lo hi : ℕ} {ns : List ℕ} → Sized z lo hi ns → lo ≤ hi
sized-le no_size = omega arith
sized-le (one_more e some told st) = let low = sized-le st in omega arith

deep_none : {z : List ℕ} {lo hi : ℕ} {ns : List ℕ} (k : ℕ) → Sized z lo hi ns → hi ≤ lo → 0 < k → deep k ns hi ≡ None
unfolding deep
deep_none zero st h p = absurd (omega arith)
deep_none (suc k) no_size h p = refl
deep_none (suc k) (one_more e some told st) h p = let low = sized-le st in absurd (omega arith)

-- no sum is left, and one is asked
pub sought-short : {z : List ℕ} {lo hi k p left : ℕ} → Sought z lo hi k p left → p ≤ lo → 0 < left → (ns : List ℕ) → Sized z lo hi ns → None ≡ deep k ns hi
sought-short {left = left} s h q ns st = let m = s.same ns st in sym (m.2 ∙ deep_none left m.1 h q)

-- what the next sum tells
record Passed (z : List ℕ) (lo p left r : ℕ) (ms : List ℕ) : Type 0 where
  within : r ≤ p
  rest : List ℕ
  sized : Sized z lo (p - r) rest
  same : deep left ms p ≡ deep (left - 1) rest (p - r)

deep-same : (k k' : ℕ) (ns : List ℕ) (h h' : ℕ) → k ≡ k' → h ≡ h' → deep k ns h ≡ deep k' ns h'
deep-same k k' ns h h' e f = ap (λ (u : ℕ). deep u ns h) e ∙ ap (deep k' ns) f

deep_more : (k n : ℕ) (ns : List ℕ) (h : ℕ) → 0 < k → deep k (n ∷ ns) h ≡ deep (k - 1) ns (h - n)
unfolding deep
deep_more zero n ns h p = absurd (omega arith)
deep_more (suc k) n ns h p = deep-same k (suc k - 1) ns (h - n) (h - n) (omega arith) refl

passed : {z : List ℕ} {lo p : ℕ} {ms : List ℕ} (left r : ℕ) → Sized z lo p ms → lo < p → 0 < left → ((n : ℕ) (ns : List ℕ) → Sized z lo p (n ∷ ns) → r ≡ n) → Passed z lo p left r ms
passed left r no_size h q is = absurd (omega arith)
passed {z} {lo} {p} left r (one_more {m} {n = n} {ns = ns} e some told st) h q is =
    let top = is n ns (one_more e some told st) in
    record {
      within = omega arith;
      rest = ns;
      sized = subst (λ (u : ℕ). Sized z lo u ns) (omega arith) st;
      same = deep_more left n ns p q ∙ deep-same (left - 1) (left - 1) ns (p - n) (p - r) refl (omega arith);
    }

-- the next sum is passed
pub sought-more : {z : List ℕ} {lo hi k p left : ℕ} (r : ℕ) → Sought z lo hi k p left → lo < p → 0 < left → ((n : ℕ) (ns : List ℕ) → Sized z lo p (n ∷ ns) → r ≡ n)
    → (r ≤ p) × Sought z lo hi k (p - r) (left - 1)
sought-more {left = left} r s h q is =
    let here = passed left r s.held.1 h q is in
    let low = s.low in (
      here.within,
      record {
        low = omega arith;
        held = (here.rest, here.sized);
        same = λ ns st. let m = s.same ns st in let on = passed left r m.1 h q is in (on.rest, on.sized, m.2 ∙ on.same);
      },
    )

pub sought-done : {z : List ℕ} {lo hi k p left : ℕ} → Sought z lo hi k p left → left ≤ 0 → (ns : List ℕ) → Sized z lo hi ns → Some p ≡ deep k ns hi
unfolding deep
sought-done {p = p} {left = left} s h ns st = let m = s.same ns st in sym (m.2 ∙ deep-same left zero m.0 p p (omega arith) refl)

-- ---- whether any sum is complex

-- at p the same is left to find
pub record Scanned (a : Arena) (u p : ℕ) : Type 0 where
  pub low : p ≤ u
  pub held : (ss : List Sum) × Stacked a 128 p ss
  pub same : (ss : List Sum) → Stacked a 128 u ss → (ts : List Sum) × Stacked a 128 p ts × (any_complex ss ≡ any_complex ts)

pub scanned-start : {a : Arena} {u : ℕ} → (ss : List Sum) × Stacked a 128 u ss → Scanned a u u
scanned-start held = record { low = omega arith; held = held; same = λ ss st. (ss, st, refl) }

-- the sum that ends at p has n cells
abbrev pub Told : Arena → ℕ → ℕ → Type 0
Told a p n = (m : ℕ) (ns : List ℕ) → Sized a.sizes 128 p (m ∷ ns) → n ≡ m

first : {a : Arena} {p n : ℕ} {ss : List Sum} → Stacked a 128 p ss → 128 < p → Told a p n → (s : Sum) × (ts : List Sum) × (ss ≡ s ∷ ts) × One a 128 p n s ts
first {n = n} st h told = let f = stacked-some st h in (f.0, f.1, f.2, stacked-one (told _ _ (stacked-size f.3)) f.3)

-- it can be read
pub scanned-held : {a : Arena} {u p : ℕ} (n : ℕ) → Scanned a u p → 128 < p → Told a p n → (n ≤ p) × (1 ≤ n) × Held a.cells (p - n) (p - n + n) 4
scanned-held n s h told = let f = first s.held.1 h told in let one = f.3 in (omega arith, one.some, (f.0, one.lies))

complex-top : (ss : List Sum) (s : Sum) (ts : List Sum) (b : Bool) → ss ≡ s ∷ ts → b ≡ is_complex s → any_complex ss ≡ b || any_complex ts
unfolding any_complex
complex-top ss s ts b e h = ap any_complex e ∙ ap (λ (v : Bool). v || any_complex ts) (sym h)

-- it is complex
pub scanned-found : {a : Arena} {u p : ℕ} (n : ℕ) (b : Bool) → Scanned a u p → 128 < p → Told a p n → ((s : Sum) → Lies a.cells (p - n) (p - n + n) 4 s → b ≡ is_complex s) → b ≡ true
    → (ss : List Sum) → Stacked a 128 u ss → true ≡ any_complex ss
scanned-found n b s h told is e ss st =
    let m = s.same ss st in
    let f = first m.1 h told in
    sym (m.2 ∙ complex-top m.0 f.0 f.1 b f.2 (is f.0 f.3.lies) ∙ ap (λ (v : Bool). v || any_complex f.1) e)

-- it is not
pub scanned-past : {a : Arena} {u p : ℕ} (n : ℕ) (b : Bool) → Scanned a u p → 128 < p → Told a p n → ((s : Sum) → Lies a.cells (p - n) (p - n + n) 4 s → b ≡ is_complex s) → b ≡ false
    → Scanned a u (p - n)
scanned-past n b s h told is e =
    let low = s.low in
    let here = first s.held.1 h told in
    record {
      low = omega arith;
      held = (here.1, here.3.rest);
      same = λ ss st.
          let m = s.same ss st in
          let f = first m.1 h told in
          (f.1, f.3.rest, m.2 ∙ complex-top m.0 f.0 f.1 b f.2 (is f.0 f.3.lies) ∙ ap (λ (v : Bool). v || any_complex f.1) e);
    }

-- nothing is left
pub scanned-end : {a : Arena} {u p : ℕ} → Scanned a u p → p ≤ 128 → (ss : List Sum) → Stacked a 128 u ss → false ≡ any_complex ss
unfolding any_complex
scanned-end s h ss st = let m = s.same ss st in sym (m.2 ∙ ap any_complex (stacked-end m.1 h))
