-- A number written as a sum of one cell on top of the stack. Assumes nothing.
use Prim.Native.Nat.{ℕ, ◌+◌}
use native.Mathlib.Omega.{arith}
use mathlib.Core.Path.{◌≡◌, refl, ap, ◌∙◌}
use mathlib.Core.Bool.{Bool, true, ◌&&◌}
use mathlib.Core.List.{[], ◌∷◌}
use lib.Ieee.{binary64, of_bits}
use lib.Ieee.Scale.{finite}
use lib.ListN.{get_or, set, length-set}
use lib.Seq.{get_or-set_same, get_or-set_other}
use Rattle.numbers.specs.Signs.{zero64}
use Rattle.numbers.proofs.Finite.{zero-is-finite}
use Rattle.numbers.specs.Complex.Arith as complex
use Rattle.sums.specs.Tree.Kinds as kinds
use Rattle.sums.specs.Tree.Sums.{Sum, size, levels, entry}
use Rattle.sums.specs.Tree.Map.{sum, formed, coef_in, put_in}
use Rattle.arithmetic.specs.Singles.{constant}
use Rattle.cells.specs.Contract.Book.{book, at, cell}
use Rattle.sums.specs.Contract.Lies.{At}
use Rattle.stack.specs.Steps.{constant_of}
use Rattle.stack.proofs.Forming.{constant-good}
use Rattle.stack.specs.Contract.Arena.{Arena, of, Space}
use Rattle.stack.specs.Contract.Stacked.{Top}
use Rattle.stack.specs.Contract.Blocks.{Outside}
use Rattle.stack.proofs.slots.Laws.{slot_same}

abbrev pub of-bits : ℕ → ℕ → Sum
of-bits re im = constant (complex.complex (of_bits binary64 re) (of_bits binary64 im))

-- finite numbers are formed as they are
pub constant-formed : (re im : ℕ) {x y : Bool} → x ≡ finite (of_bits binary64 re) → y ≡ finite (of_bits binary64 im) → x && y ≡ true → constant_of re im ≡ sum (of-bits re im)
unfolding formed coef_in put_in levels size
constant-formed re im {x} {y} e d h =
    let f : finite (of_bits binary64 re) && finite (of_bits binary64 im) ≡ true = rw (← e, ← d) h in
    rw (zero-is-finite, f) refl

pub number_size : (re im : ℕ) → 1 ≡ size (of-bits re im)
unfolding size
number_size re im = refl

-- the arena with the number's cell at u, and its size 1
abbrev pub numbered : Arena → ℕ → ℕ → ℕ → Arena
numbered a u re im = of (book (set a.cells.kinds u kinds.X) (set a.cells.insides u 0) (set a.cells.numbers u (0 ∷ re ∷ im ∷ []))) (set a.sizes u 1)

pub numbered-outside : (a : Arena) (u re im : ℕ) → Outside a (numbered a u re im) u (u + 1)
numbered-outside a u re im =
    let else : (j : ℕ) → (j ≡ u → ⊥) → cell (numbered a u re im).cells j ≡ cell a.cells j = λ j n.
    let b = a.cells in
    rw (get_or-set_other b.kinds u j kinds.X 0 n, get_or-set_other b.insides u j 0 0 n, get_or-set_other b.numbers u j (0 ∷ re ∷ im ∷ []) [] n) in
    let same : (j : ℕ) → (j ≡ u → ⊥) → _ = λ j n. slot_same a (numbered a u re im) j j (else j n) (get_or-set_other a.sizes u j 1 0 n) in
    record {
      below = λ j h. same j (λ e. omega arith);
      above = λ j h. same j (λ e. omega arith);
      long = record {
        cells = record { kinds = simp length-set; insides = simp length-set; numbers = simp length-set };
        sizes = simp length-set;
      };
    }

number_at : (a : Arena) (u re im : ℕ) → Space a (u + 1)
    → at (numbered a u re im).cells u ≡ entry kinds.X 0 zero64 (complex.complex (of_bits binary64 re) (of_bits binary64 im))
number_at a u re im r =
    let b = a.cells in
    let k = get_or-set_same b.kinds u kinds.X 0 (let x = r.cells.kinds in omega arith) in
    let n = get_or-set_same b.insides u 0 0 (let x = r.cells.insides in omega arith) in
    let w = get_or-set_same b.numbers u (0 ∷ re ∷ im ∷ []) [] (let x = r.cells.numbers in omega arith) in
    rw (k, n, w) refl

-- it is a sum of one cell
pub numbered-top : (a : Arena) (u re im : ℕ) → Space a (u + 1) → constant_of re im ≡ sum (of-bits re im) → Top (numbered a u re im) u (u + 1) (of-bits re im)
unfolding At size
numbered-top a u re im r e =
    let z = r.sizes in
    let good = constant-good re im e in
    let long = (numbered-outside a u re im).long in
    record {
      lies = record {
        laid = (number_at a u re im r, tt, tt);
        good = good.good;
        ends = refl;
        room = let k = r.cells in omega (arith, long.cells.kinds, long.cells.insides, long.cells.numbers, k.kinds, k.insides, k.numbers);
      };
      good = good;
      told = ap (λ (x : ℕ). get_or (set a.sizes u 1) x 0) (omega arith) ∙ get_or-set_same a.sizes u 1 0 (omega arith);
    }
