-- Products by turns: where they lie, and what is left to do. Assumes nothing.
use Prim.Native.Nat.{ℕ, suc, ◌+◌, ◌*◌, ◌%◌, ◌≤◌, ◌<◌}
use native.Mathlib.Omega.{arith}
use borrow.Author.Tests.{eqb-true, eqb-false}
use mathlib.Core.Path.{◌≡◌, refl, sym, ap, subst, ◌∙◌}
use mathlib.Core.Bool.{Bool, true, false, cond}
use lib.Dec.{eqb}
use Rattle.limits.specs.declared.Refusal.{Refusal}
use Rattle.cells.specs.Contract.Book.{Book, Room}
use Rattle.cells.specs.Contract.Moves.{Apart, under, over, Kept}
use Rattle.sums.specs.Tree.Sums.{Sum, len}
use Rattle.arithmetic.specs.Product.{product}
use Rattle.arithmetic.specs.Power.{raised}
use Rattle.arithmetic.specs.Pairs.{raised_pairs}
use Rattle.arithmetic.proofs.Agree.{raised-none, raised-sum, raised-refused}
use Rattle.arithmetic.proofs.Pairs.{pairs_len, raised-pairs-none, raised-pairs-more}
use Rattle.std.specs.Prelude.{Result, Ok, Err}
use Rattle.sums.specs.Contract.Lies.{Lies, Agrees}
use Rattle.arithmetic.specs.Add.Contract.Operands.{Operand, Source}
use Rattle.arithmetic.proofs.add.Lying.{clear, lies-clear, agreed-done, agreed-refused, agree-done, agree-refused}
use Rattle.arithmetic.proofs.add.Places.{kept_result, kept-working, room-result, room-working, result-operand, working-operand}
use Rattle.powers.specs.Raise.Contract.Turns.{turn_place}
use Rattle.powers.proofs.raise.Flat.{Flat, flat-product}

-- ---- places

-- one of the two
pub data Two (w : ℕ) : ℕ → Type 0 where
  near : Two w w
  far : Two w (w + 64)

pub turn_two : {w p : ℕ} (left : ℕ) → p ≡ turn_place w left → Two w p
turn_two {w} left e = subst (Two w) (sym e) (go (eqb (left % 2) 1))
  where
    go : (b : Bool) → Two w (cond b w (w + 64))
    go true = near
    go false = far

-- nothing but the places from w on is written
pub turn-kept : {b b' : Book} {w p : ℕ} → Two w p → Kept b b' p (p + 64) → Kept b b' w (w + (64 + 64))
turn-kept near k = kept_result k
turn-kept far k = kept-working k

pub turn-room : {b : Book} {w p : ℕ} → Two w p → Room b (w + (64 + 64)) → Room b (p + 64)
turn-room {w = w} near r = room-result w r
turn-room {w = w} far r = room-working w r

-- the base is apart from both
pub turn-base : {b : Book} {i n w p : ℕ} → Two w p → Source b i n w → Operand b i n p
turn-base near s = result-operand s
turn-base far s = working-operand s

pub source-kept : {b b' : Book} {i n w : ℕ} → Kept b b' w (w + (64 + 64)) → Source b i n w → Source b' i n w
source-kept k s = record { few = s.few; held = (s.held.0, lies-clear k (clear s.apart) s.held.1); apart = s.apart }

-- a product is apart from where the next one goes
turn-apart : (w left len : ℕ) → len ≤ 64 → Apart (turn_place w (left + 1)) len (turn_place w left) (turn_place w left + 64)
turn-apart w left len h = go (eqb ((left + 1) % 2) 1) (eqb (left % 2) 1) refl refl
  where
    go : (a b : Bool) → eqb ((left + 1) % 2) 1 ≡ a → eqb (left % 2) 1 ≡ b → Apart (cond a w (w + 64)) len (cond b w (w + 64)) (cond b w (w + 64) + 64)
    go true false p q = under (omega arith)
    go false true p q = over (omega arith)
    go true true p q = absurd (omega (arith, eqb-true ((left + 1) % 2) 1 p, eqb-true (left % 2) 1 q))
    go false false p q = absurd (eqb-false ((left + 1) % 2) 1 p (omega (arith, eqb-false (left % 2) 1 q)))

-- ---- what is known on the way

-- the product so far is the base, or lies where the turn before put it
pub data Place (w i n times : ℕ) : ℕ → ℕ → ℕ → Type 0 where
  first : {left : ℕ} → left ≡ times → Place w i n times i n left
  turned : {from len left : ℕ} → from ≡ turn_place w (left + 1) → Place w i n times from len left

-- s is the base; so many products are left, k pairs are multiplied, and nothing lies inside a term where nothing does in the base
pub record So-far (b : Book) (from n left times k : ℕ) (s : Sum) : Type 0 where
  pub acc : Sum
  pub made : Lies b from (from + n) 4 acc
  pub same : raised times s s ≡ raised left acc s
  pub counts : raised_pairs times s s ≡ k + raised_pairs left acc s
  pub flat : Flat s → Flat acc

pub so-far-start : {b : Book} {i n left times : ℕ} {s : Sum} → left ≡ times → Lies b i (i + n) 4 s → So-far b i n left times 0 s
so-far-start {s = s} e l =
    record { acc = s; made = l; same = ap (λ (m : ℕ). raised m s s) (sym e); counts = omega (arith, ap (λ (m : ℕ). raised_pairs m s s) e); flat = λ f. f }

-- the product so far, where a turn goes
pub turn-so-far : {b : Book} {w i n times from len left p k : ℕ} {s : Sum} → Source b i n w → len ≤ 64 → Place w i n times from len left → So-far b from len left times k s → p ≡ turn_place w left
    → Operand b from len p
turn-so-far {left = left} S few (first z) F e = turn-base (turn_two left e) S
turn-so-far {b} {w} {from = from} {len = len} {left = left} S few (turned z) F e =
    subst (λ (p : ℕ). Operand b from len p) (sym e)
    (record { few = few; held = (F.acc, F.made); apart = subst (λ (k : ℕ). Apart k len (turn_place w left) (turn_place w left + 64)) (sym z) (turn-apart w left len few) })

-- where the next turn finds it
pub turn-next : {w i n times len left less p : ℕ} → left ≡ suc less → p ≡ turn_place w left → Place w i n times p len less
turn-next {w} {less = less} h e = let next : suc less ≡ less + 1 = omega arith in turned (e ∙ ap (turn_place w) (h ∙ next))

-- the last product lies at w
pub last-place : {w i n times from len left : ℕ} → 0 < times → left ≡ 0 → Place w i n times from len left → from ≡ w
last-place h z (first e) = absurd (omega (arith, e))
last-place {w} h z (turned e) = e ∙ ap (λ (m : ℕ). turn_place w (m + 1)) z

module _ {b : Book} (b' : Book) (p : ℕ) {from n left less times k : ℕ} {s : Sum} (again : left ≡ suc less) (F : So-far b from n left times k s) (r : Result ℕ Refusal)
    (a : Agrees r b' p (product F.acc s)) where
  one_more : raised times s s ≡ raised (suc less) F.acc s
  one_more = F.same ∙ ap (λ (m : ℕ). raised m F.acc s) again

  -- a product was formed, of each term so far with each of the base
  pub so_far_more : (m more : ℕ) → r ≡ Ok m → more ≡ len F.acc * len s → (m ≤ 64) × So-far b' p m less times (k + more) s
  so_far_more m more e f =
      let d = agreed-done b' p m r (product F.acc s) a e in
      let left_over = F.counts ∙ ap (λ (m : ℕ). k + raised_pairs m F.acc s) again in (
        d.few,
        record {
          acc = d.s;
          made = d.lies;
          same = one_more ∙ raised-sum less F.acc s d.s d.is;
          counts = omega (arith, left_over, raised-pairs-more less F.acc s d.s d.is, pairs_len F.acc s, f);
          flat = λ e. flat-product F.acc s d.s F.made.good (F.flat e) d.is;
        },
      )

  -- or none
  pub so-far-stops : (w : ℕ) (q : Refusal) → r ≡ Err q → Agrees (Err q) b' w (raised times s s)
  so-far-stops w q e = agree-refused b' w q _ (one_more ∙ raised-refused less F.acc s q (agreed-refused b' p q r (product F.acc s) a e))

-- nothing is left
pub so-far-done : {b : Book} {w from n left times k : ℕ} {s : Sum} → n ≤ 64 → left ≡ 0 → from ≡ w → So-far b from n left times k s → Agrees (Ok n) b w (raised times s s)
so-far-done {b} {w} {from} {n} {left} {times} {k} {s} few z e F =
    agree-done b w n _ F.acc (F.same ∙ ap (λ (m : ℕ). raised m F.acc s) z ∙ raised-none F.acc s) few (subst (λ (j : ℕ). Lies b j (j + n) 4 F.acc) e F.made)

pub so-far-counted : {b : Book} {from n left times k : ℕ} {s : Sum} → left ≡ 0 → So-far b from n left times k s → k ≡ raised_pairs times s s
so-far-counted {left = left} {s = s} z F = omega (arith, F.counts, ap (λ (m : ℕ). raised_pairs m F.acc s) z, raised-pairs-none F.acc s)
