-- Sums that lie in a book still lie there, or elsewhere in it, where the cells are the same; what an answer that agrees tells; and the heads of entries. Assumes nothing.
use Prim.Native.Nat.{ℕ, ◌+◌, ◌≤◌, ◌<◌}
use native.Mathlib.Omega.{arith}
use mathlib.Core.Path.{◌≡◌, refl, sym, ap, subst, ◌∙◌}
use mathlib.Core.Logic.{◌⊎◌, inl, inr}
use lib.Dec.{eqb}
use borrow.Author.Tests.{eqb-true, eq-eqb}
use lib.Ieee.{Float}
use Rattle.limits.specs.declared.Refusal.{Refusal}
use Rattle.numbers.specs.declared.complex.Complex.{Complex}
use Rattle.cells.specs.declared.Entry.{Entry}
use Rattle.cells.specs.Contract.Book.{Book, at, Room, Plain}
use Rattle.cells.specs.Contract.Moves.{Apart, under, over, Kept}
use Rattle.cells.proofs.Laws.{room-less}
use Rattle.sums.specs.declared.tree.Merge.{Merge}
use Rattle.sums.specs.Tree.Kinds.{X}
use Rattle.sums.proofs.tree.Keeps.{good_more}
use Rattle.sums.specs.Tree.Sums.{Sum, none, size, entry}
use Rattle.sums.specs.Tree.Good.{GoodEntry}
use Rattle.sums.specs.Tree.Map.{Outcome, sum, refused, formed}
use Rattle.arithmetic.proofs.Agree.{empty-size}
use Rattle.std.specs.Prelude.{Result, Ok, Err}
use Rattle.sums.specs.Contract.Heads.{GoodHead}
use Rattle.sums.specs.Contract.Lies.{Lies, Agrees}
use Rattle.sums.proofs.order.Walk.{lies-none, lies_empty, plain_at, lies-below, lies-above}
use Rattle.arithmetic.specs.Add.Contract.Operands.{Operand}

-- ---- places

-- a part of a stretch is apart from what the whole is apart from
pub apart-part : {i n k m lo hi : ℕ} → i ≤ k → k + m ≤ i + n → Apart i n lo hi → Apart k m lo hi
apart-part h g (under u) = under (omega arith)
apart-part h g (over v) = over (omega arith)

-- ---- sums

-- the cells from i up to e end at lo or before, or start at hi or after
abbrev pub Clear : ℕ → ℕ → ℕ → ℕ → Type 0
Clear i e lo hi = (e ≤ lo) ⊎ (hi ≤ i)

pub clear : {i n lo hi : ℕ} → Apart i n lo hi → Clear i (i + n) lo hi
clear (under u) = inl u
clear (over v) = inr v

pub clear-part : {i e k d lo hi : ℕ} → i ≤ k → d ≤ e → Clear i e lo hi → Clear k d lo hi
clear-part h g (inl u) = inl (omega arith)
clear-part h g (inr v) = inr (omega arith)

-- what lies apart from the cells that may have changed still lies
pub lies-clear : {b b' : Book} {i e lo hi left : ℕ} {s : Sum} → Kept b b' lo hi → Clear i e lo hi → Lies b i e left s → Lies b' i e left s
lies-clear {i = i} {e = e} {left = left} {s = s} k (inl u) l = lies-below i e left s k u l
lies-clear {i = i} {e = e} {left = left} {s = s} k (inr v) l = lies-above i e left s k v l

pub apart_of : {i e lo hi n : ℕ} → Clear i e lo hi → i + n ≤ e → Apart i n lo hi
apart_of (inl u) h = under (omega arith)
apart_of (inr v) h = over v

pub operand-kept : {b b' : Book} {i n p : ℕ} → Kept b b' p (p + 64) → Operand b i n p → Operand b' i n p
operand-kept k o = record { few = o.few; held = (o.held.0, lies-clear k (clear o.apart) o.held.1); apart = o.apart }

-- every cell of a sum can be read
pub readable : {b : Book} {i e left : ℕ} {s : Sum} (k : ℕ) → Lies b i e left s → i ≤ k → k < e → Room b (k + 1) × Plain (at b k)
readable {b} {i} {e} {left} {s} k l lo hi = let ends = l.ends in (room-less {n = e} (omega arith) l.room, plain_at (at b) i left s l.laid l.good k lo (omega arith))

-- fewer levels are not too many
pub lies-deeper : {b : Book} {i e : ℕ} {s : Sum} → Lies b i e 3 s → Lies b i e 4 s
lies-deeper {s = s} l = record { laid = l.laid; good = good_more 3 s l.good; ends = l.ends; room = l.room }

-- nothing lies where a result is to be formed
pub nothing : {b : Book} (p : ℕ) → Room b (p + 64) → Lies b p (p + 0) 4 none
nothing {b} p r = lies_empty b p 4 (room-less {n = p + 64} (omega arith) r)

-- a copy asks for less than a result does
pub apart-copy : {i n p : ℕ} → Apart i n p (p + 64) → Apart i n p p
apart-copy (under u) = under u
apart-copy (over v) = over (omega arith)

-- ---- entries

-- a good entry has a head that may be put into a sum, whatever its coefficient becomes
pub good-head : {k n : ℕ} {p : Float} {i : Sum} {c : Complex} (d : Complex) → GoodEntry k p i c → n ≡ size i → GoodHead (entry k n p d)
good-head {i = i} d g e = record { least = g.least; most = g.most; none_else = g.none_else; inside = ap (λ (u : ℕ). eqb u 0) e ∙ sym (empty-size i) ∙ g.inside }

-- a power of x has nothing inside, and is put in as one
pub put-power-term : {b : Book} {i : ℕ} {x : Entry} {t : Sum} (b' : Book) (p : ℕ) (r : Result ℕ Refusal) (how : Merge) (s : Sum) → GoodHead x → x.kind ≡ X → Lies b i (i + x.inside) 4 t
    → Agrees r b' p (formed how (entry X 0 x.num x.coef) none s) → Agrees r b' p (formed how x t s)
put-power-term {b} {i} {x} {t} b' p r how s h e l a =
    let inside : x.inside ≡ 0 = eqb-true x.inside 0 (h.inside ∙ eq-eqb x.kind X e) in
    let nothing : t ≡ none = lies-none b i (i + x.inside) 4 t l (omega arith) in
    let same : entry X 0 x.num x.coef ≡ x = ap (λ (k : ℕ). entry k 0 x.num x.coef) (sym e) ∙ ap (λ (n : ℕ). entry x.kind n x.num x.coef) (sym inside) in
    subst (λ (y : Entry). Agrees r b' p (formed how y t s)) same (subst (λ (u : Sum). Agrees r b' p (formed how (entry X 0 x.num x.coef) u s)) (sym nothing) a)

-- ---- what an answer that agrees tells

-- a sum was formed
pub record Agreed (b : Book) (p n : ℕ) (o : Outcome) : Type 0 where
  pub s : Sum
  pub is : o ≡ sum s
  pub few : n ≤ 64
  pub lies : Lies b p (p + n) 4 s
  pub sized : size s ≡ n

pub agreed-done : (b : Book) (p n : ℕ) (r : Result ℕ Refusal) (o : Outcome) → Agrees r b p o → r ≡ Ok n → Agreed b p n o
agreed-done b p n r o a e = go o (rw e at a)
  where
    go : (o : Outcome) → Agrees (Ok n) b p o → Agreed b p n o
    go (sum s) a = let ends = a.1.ends in record { s = s; is = refl; few = a.0; lies = a.1; sized = omega arith }
    go (refused q) a = absurd a

-- a refusal
pub agreed-refused : (b : Book) (p : ℕ) (q : Refusal) (r : Result ℕ Refusal) (o : Outcome) → Agrees r b p o → r ≡ Err q → o ≡ refused q
agreed-refused b p q r o a e = go o (rw e at a)
  where
    go : (o : Outcome) → Agrees (Err q) b p o → o ≡ refused q
    go (sum s) a = absurd a
    go (refused z) a = ap refused (sym a)

-- and the other way round
pub agree-done : (b : Book) (p n : ℕ) (o : Outcome) (s : Sum) → o ≡ sum s → n ≤ 64 → Lies b p (p + n) 4 s → Agrees (Ok n) b p o
agree-done b p n o s e few l = rw e (few, l)

pub agree-refused : (b : Book) (p : ℕ) (q : Refusal) (o : Outcome) → o ≡ refused q → Agrees (Err q) b p o
agree-refused b p q o e = rw e refl
