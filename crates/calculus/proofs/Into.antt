-- Laws of an entry's derivative or integral that goes into a sum. Assumes nothing.
use Prim.Native.Nat.{ℕ, ◌+◌, ◌≤◌}
use native.Mathlib.Omega.{arith}
use mathlib.Core.Path.{◌≡◌, sym, subst, ◌∙◌}
use mathlib.Core.Bool.{Bool, true, false, cond}
use lib.Dec.{eqb}
use borrow.Author.Tests.{eq-eqb, ne_eqb, eqb-true, eqb-false}
use Rattle.numbers.specs.Signs.{zero64}
use Rattle.numbers.proofs.Values.{bits-0}
use Rattle.numbers.specs.declared.complex.Complex.{Complex}
use Rattle.cells.specs.declared.Entry.{Entry}
use Rattle.cells.specs.Contract.Book.{Book}
use Rattle.cells.specs.Contract.Moves.{Kept}
use Rattle.cells.proofs.Laws.{kept_refl}
use Rattle.limits.specs.declared.Refusal.{Refusal}
use Rattle.sums.specs.Tree.Kinds as kinds
use Rattle.sums.specs.Tree.Sums.{Sum, none, entry}
use Rattle.sums.specs.Tree.Map.{Outcome, refused}
use Rattle.calculus.specs.Contract.Turned.{turned_kind}
use Rattle.std.specs.Prelude.{Result, Err}
use Rattle.sums.specs.Contract.Heads.{GoodHead}
use Rattle.sums.specs.Contract.Lies.{Lies, OfOne, Agrees}
use Rattle.sums.proofs.order.Walk.{lies-none}
use Rattle.arithmetic.specs.Add.Contract.Operands.{Growing}
use Rattle.arithmetic.proofs.add.Lying.{agree-refused}
use Rattle.arithmetic.proofs.add.Places.{kept_result, room-result}
use Rattle.calculus.specs.Contract.Into.{Ready, Into}

-- ---- heads

-- of a kind that has an inside and no number
pub over-head : (k n : ℕ) (c : Complex) → 1 ≤ n → kinds.Div ≤ k → k ≤ kinds.CosH → GoodHead (entry k n zero64 c)
over-head k n c some least most =
    record {
      least = omega arith;
      most = most;
      none_else = λ e. bits-0;
      inside = ne_eqb n 0 (λ e. omega arith) ∙ sym (ne_eqb k kinds.X (λ e. omega arith));
    }

-- sin, cos, sinh or cosh
pub wave-head : {k : ℕ} (j n : ℕ) (c : Complex) → 1 ≤ n → k ≡ turned_kind j → GoodHead (entry k n zero64 c)
wave-head {k} j n c some e =
    subst (λ (z : ℕ). GoodHead (entry z n zero64 c)) (sym e) (go (eqb j kinds.Sin) (eqb j kinds.Cos) (eqb j kinds.SinH))
  where
    go : (a b d : Bool) → GoodHead (entry (cond a kinds.Cos (cond b kinds.Sin (cond d kinds.CosH kinds.SinH))) n zero64 c)
    go true b d = over-head kinds.Cos n c some (omega arith) (omega arith)
    go false true d = over-head kinds.Sin n c some (omega arith) (omega arith)
    go false false true = over-head kinds.CosH n c some (omega arith) (omega arith)
    go false false false = over-head kinds.SinH n c some (omega arith) (omega arith)

-- a power of x has nothing inside, and any other entry has something
pub x-inside : {e : Entry} → GoodHead e → e.kind ≡ kinds.X → e.inside ≡ 0
x-inside {e} h k = eqb-true e.inside 0 (h.inside ∙ eq-eqb e.kind kinds.X k)

pub some-inside : {e : Entry} → GoodHead e → (e.kind ≡ kinds.X → ⊥) → 1 ≤ e.inside
some-inside {e} h k = let z = eqb-false e.inside 0 (h.inside ∙ ne_eqb e.kind kinds.X k) in omega arith

-- ---- a step

module _ {b : Book} {e : Entry} {i w len : ℕ} where
  pub ready-growing : Ready b e i w len → Growing b w len
  ready-growing y = record { few = y.few; room = room-result w y.room; held = y.held }

  -- nothing is written where it is refused
  pub into-refused : {places : ℕ} {q : Refusal} {f : Entry → Sum → Sum → Outcome} → ((t : Sum) → Lies b i (i + e.inside) 4 t → (s : Sum) → f e t s ≡ refused q)
      → Into b b e i w len places (Err q) f
  into-refused {places} {q} {f} h = record { kept = kept_refl b w (w + places); agrees = λ s t ls lt. agree-refused b w q (f e t s) (h t lt s) }

  module _ {b' : Book} {r : Result ℕ Refusal} {f : Entry → Sum → Sum → Outcome} where
    -- the same, written otherwise
    pub into-as : {places : ℕ} {g : Entry → Sum → Sum → Outcome} → ((t s : Sum) → f e t s ≡ g e t s) → Into b b' e i w len places r f → Into b b' e i w len places r g
    into-as h y = record { kept = y.kept; agrees = λ s t ls lt. subst (Agrees r b' w) (h t s) (y.agrees s t ls lt) }

    -- fewer places were written
    pub into_more : Into b b' e i w len 64 r f → Into b b' e i w len (64 + 64) r f
    into_more y = record { kept = kept_result y.kept; agrees = y.agrees }

    -- a power of x, which has no argument
    pub into-power : (h : Sum → Outcome) → GoodHead e → e.kind ≡ kinds.X → ((s : Sum) → h s ≡ f e none s) → Kept b b' w (w + 64) → OfOne b w (w + len) 4 (λ s. Agrees r b' w (h s))
        → Into b b' e i w len 64 r f
    into-power h good k same kept a =
        record {
          kept = kept;
          agrees =
              λ s t ls lt.
              let nothing = lies-none b i (i + e.inside) 4 t lt (omega (arith, x-inside good k)) in
              subst (λ (u : Sum). Agrees r b' w (f e u s)) (sym nothing) (subst (Agrees r b' w) (same s) (a s ls));
        }
