-- A good real sum is written without a refusal where real parts are written, so a list without complex steps, whose derivative or integral there is, has it
-- written too. Assumes nothing.
use Prim.Native.Nat.{ℕ, zero, suc}
use mathlib.Core.Path.{◌≡◌, refl}
use mathlib.Core.Bool.{Bool, true, false, not, ◌&&◌, ◌||◌}
use lib.Dec.{T, eqb}
use lib.Ieee.{Float, binary64, fits, of_bits, lt}
use lib.Ieee.Fits.{and_l, and_r}
use lib.Ieee.Scale.{finite}
use Rattle.numbers.specs.Numbers.{below_epsilon}
use Rattle.numbers.specs.Signs.{±0, sign, Zero}
use Rattle.numbers.proofs.Zeros.{zero_is}
use Rattle.numbers.specs.declared.complex.Complex.{Complex}
use Rattle.numbers.specs.Complex.Arith as complex
use Rattle.numbers.specs.Complex.Contract.Real.{Real}
use Rattle.sums.specs.Tree.Kinds as kinds
use Rattle.sums.specs.Tree.Sums.{Sum, none, and}
use Rattle.sums.specs.Tree.Good.{GoodEntry, Good}
use Rattle.sums.specs.Tree.Map.{sum}
use Rattle.arithmetic.specs.Singles.{GoodSum}
use Rattle.formats.specs.Tree as tree
use Rattle.writing.specs.Draft.Writing.{append, one, Written, wrote, refused, and_then, number_record, if_can, number}
use Rattle.modifiers.specs.Reading.{done, read_nodes}
use Rattle.modifiers.proofs.Good.{read-good}
use Rattle.calculus.specs.Derivative.{derive}
use Rattle.calculus.specs.Integral.{integrate}
use Rattle.calculus.proofs.Good.{derive-good, integrate-good}
use Rattle.writing.specs.ToNodes.{Form, constant, root, bare, square, power, form, is_bare, is_constant, is_empty, before, write_power, write_term, times_coef, plus, turn, write, to_nodes}
use Rattle.theorems.specs.Reals.{RealSum}
use Rattle.theorems.proofs.Real.Reading.{read_real}
use Rattle.theorems.proofs.Real.Calculus.{derive-real, integrate-real}

-- something was written
abbrev Is : Written → Type 0
Is (wrote ns) = Unit {0}
Is (refused q) = ⊥

then_is : (w : Written) (f : tree.Nodes → Written) → Is w → ((ns : tree.Nodes) → Is (f ns)) → Is (and_then w f)
then_is (wrote ns) f h k = k ns
then_is (refused q) f h k = h

zeros-below : (s : Bool) → T (below_epsilon (±0 s))
unfolding below_epsilon of_bits lt
zeros-below true = tt
zeros-below false = tt

-- a zero is below 2^-52
zero-below : (v : Float) → T (fits binary64 v) → Zero v → T (below_epsilon v)
zero-below v f z = rw (zero_is binary64 v f z) (zeros-below (sign v))

-- a finite real coefficient is written
number_is : (k : ℕ) (p : Float) (i : Sum) (c : Complex) → GoodEntry k p i c → Real c → (ns : tree.Nodes) → Is (number false c ns)
number_is k p i c g h ns =
    go (complex.is_real c) (finite c.re) (zero-below c.im (and_r (finite c.im) (fits binary64 c.im) g.im) h) (and_l (finite c.re) (fits binary64 c.re) g.re)
  where
    go : (a b : Bool) → T a → T b → Is (if_can (a && b) (wrote (append ns (one (number_record false c)))))
    go true true f e = tt
    go true false f e = e
    go false b f e = f

module _ (c : Complex) (number_of_lem : (ns : tree.Nodes) → Is (number false c ns)) where
  power-is : (m : Form) (p : Float) (ns : tree.Nodes) → Is (write_power m p false c ns)
  power-is constant p ns = then_is (number false c _) _ (number_of_lem _) (λ ms. tt)
  power-is root p ns = tt
  power-is bare p ns = tt
  power-is square p ns = tt
  power-is power p ns = tt

  times-is : (b : Bool) (ns : tree.Nodes) → Is (times_coef b false c ns)
  times-is false ns = tt
  times-is true ns = then_is (number false c ns) _ (number_of_lem ns) (λ ms. tt)

  module _ (m : Form) (k : ℕ) (p : Float) (inside : tree.Nodes → Written) (inside_is : (ns : tree.Nodes) → Is (inside ns)) where
    term_is : (x : Bool) (ns : tree.Nodes) → Is (write_term x m k p c false inside ns)
    term_is true ns = power-is m p ns
    term_is false ns = then_is (inside ns) _ (inside_is ns) (λ ms. tt)

    turn_is : (z x : Bool) (rest : Bool → tree.Nodes → Written) → ((b : Bool) (ns : tree.Nodes) → Is (rest b ns)) → (id : Bool) (ns : tree.Nodes) → Is (turn z x m k p c false inside rest id ns)
    turn_is true x rest h id ns = h id ns
    turn_is false x rest h id ns =
        then_is (write_term x m k p c false inside (before (not id && is_empty ns) ns)) _ (term_is x (before (not id && is_empty ns) ns))
        (λ ms. then_is (times_coef (not (complex.same c complex.one) && not (x && is_constant m)) false c ms) _ (times-is (not (complex.same c complex.one) && not (x && is_constant m)) ms)
        (λ ls. h (id || (x && is_bare m)) (plus (not id && is_empty ns) ls)))

write-is : (left : ℕ) (s : Sum) → Good left s → RealSum s → (id : Bool) (ns : tree.Nodes) → Is (write false s id ns)
unfolding write Good RealSum
write-is left none g h id ns = tt
write-is zero (and k p i c r) g h id ns = absurd g
write-is (suc left) (and k p i c r) g h id ns =
    turn_is c (number_is k p i c g.0 h.0) (form p) k p (λ ms. write false i false ms) (λ ms. write-is left i g.1 h.1 false ms)
    (complex.same c complex.zero) (eqb k kinds.X) (λ b ms. write false r b ms) (λ b ms. write-is (suc left) r g.3 h.2 b ms) id ns

what-is : (w : Written) → Is w → (ns : tree.Nodes) × (w ≡ wrote ns)
what-is (wrote ns) h = (ns, refl)
what-is (refused q) h = absurd h

-- a good real sum is written
pub write-real : (s : Sum) → GoodSum s → RealSum s → (ns : tree.Nodes) × (to_nodes false s ≡ wrote ns)
write-real s g h = what-is (to_nodes false s) (write-is 4 s g.good h false tree.end)

module _ (ns : tree.Nodes) {s : Sum} {b : Bool} {k : ℕ} (e : read_nodes ns ≡ done s false b k) where
  -- a list that is read without a complex step: its derivative is real and is written
  pub derivative-real : (d : Sum) → derive s ≡ sum d → GoodSum d × RealSum d × ((ms : tree.Nodes) × (to_nodes false d ≡ wrote ms))
  derivative-real d o =
      let g = derive-good s (read-good ns e) o in
      let h = derive-real s (read_real ns e) o in
      (g, h, write-real d g h)

  -- and so is its integral
  pub integral-real : (d : Sum) → integrate s ≡ sum d → GoodSum d × RealSum d × ((ms : tree.Nodes) × (to_nodes false d ≡ wrote ms))
  integral-real d o =
      let g = integrate-good s (read-good ns e) o in
      let h = integrate-real s (read_real ns e) o in
      (g, h, write-real d g h)
