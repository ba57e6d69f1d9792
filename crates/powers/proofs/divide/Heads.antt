-- Divs that are put in, and a divisor with the coefficient 1 as a sum of its own. Assumes nothing.
use Prim.Native.Nat.{ℕ, ◌+◌, ◌-◌, ◌≤◌}
use native.Mathlib.Omega.{arith}
use mathlib.Core.Path.{◌≡◌, ap, ◌∙◌}
use lib.Ieee.{Float, binary64, fits}
use lib.Ieee.Bits.{of_bits-fits}
use lib.Ieee.Fits.{and_r}
use lib.Ieee.Scale.{finite}
use borrow.Author.Tests.{ne_eqb}
use Rattle.numbers.specs.Signs.{zero64}
use Rattle.numbers.proofs.Values.{bits-0}
use Rattle.numbers.specs.declared.complex.Complex.{Complex}
use Rattle.numbers.specs.Complex.Arith as complex
use Rattle.cells.specs.declared.Entry.{Entry}
use Rattle.cells.specs.Contract.Book.{Book, decoded, at, Room}
use Rattle.cells.specs.Contract.Moves.{Inserted}
use Rattle.cells.proofs.Laws.{Fitting, inserted-at, room-same, room-less}
use Rattle.sums.specs.Tree.Kinds.{Div}
use Rattle.sums.specs.Tree.Sums.{Sum, size, entry}
use Rattle.sums.specs.Tree.Good.{GoodEntry, Good}
use Rattle.arithmetic.specs.Singles.{single}
use Rattle.arithmetic.proofs.Goodness.{good-one, good-single}
use Rattle.sums.specs.Contract.Lies.{At, Lies}
use Rattle.sums.specs.Contract.Heads.{GoodHead}
use Rattle.sums.proofs.order.Walk.{at_moved}
use Rattle.powers.specs.Divide.Contract.Dividing.{Divisor}

-- a Div of n entries
pub div-head : (n : ℕ) (c : Complex) → 1 ≤ n → GoodHead (entry Div n zero64 c)
div-head n c h = record { least = omega arith; most = omega arith; none_else = λ e. bits-0; inside = ne_eqb n 0 (λ e. omega arith) }

-- a good term is good with the coefficient 1
pub with-one : {k : ℕ} {p : Float} {v : Sum} {c : Complex} → GoodEntry k p v c → GoodEntry k p v complex.one
unfolding Good
with-one g = let one = good-one.good.0 in record { least = g.least; most = g.most; number = g.number; none_else = g.none_else; re = one.re; im = one.im; inside = g.inside }

-- the divisor's inside counts its entries
pub counted : {b : Book} {y : Entry} {j : ℕ} {v : Sum} → Divisor b y j v → y.inside ≡ size v
counted d = omega (arith, d.lies.ends)

pub single-size : {b : Book} {y : Entry} {j : ℕ} {v : Sum} → Divisor b y j v → y.inside + 1 ≡ size (single y.kind y.num v complex.one)
unfolding size
single-size d = omega (arith, counted d)

-- its head, and its inside behind it, were written from p on
pub single-lies : {b b' : Book} {y : Entry} {j p : ℕ} (v : Sum) → Room b (p + 64) → Inserted b b b' j p p (entry y.kind y.inside y.num complex.one)
    → Divisor b y j v → Lies b' p (p + (y.inside + 1)) 4 (single y.kind y.num v complex.one)
unfolding At size
single-lies {b} {b'} {y} {j} {p} v r w d =
    let inside = counted d in
    let few = d.few in
    let g = with-one d.good in
    let behind = at_moved (at b) (at b') j (p + 1) v (λ u k lo hi e. ap (at b') (omega arith) ∙ ap decoded (w.inner (u - j) (omega arith)) ∙ ap (at b) (omega arith)) d.lies.laid in
    record {
      laid = (inserted-at w (head-fits g) ∙ ap (λ (n : ℕ). entry y.kind n y.num complex.one) inside, behind, tt);
      good = (good-single y.kind y.num v complex.one g d.lies.good (omega arith)).good;
      ends = omega arith;
      room = room-less {n = p + 64} (omega arith) (room-same w.long r);
    }
  where
    head-fits : GoodEntry y.kind y.num v complex.one → Fitting (entry y.kind y.inside y.num complex.one)
    head-fits g = record { num = and_r (finite y.num) (fits binary64 y.num) g.number; re = of_bits-fits binary64 0x3ff0000000000000; im = of_bits-fits binary64 0 }
