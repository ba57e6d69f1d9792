-- How many pairs a primitive multiplies at most. Assumes nothing.
use Prim.Native.Nat.{◌≤◌}
use native.Mathlib.Omega.{arith}
use mathlib.Core.Bool.{Bool, true, false}
use lib.Dec.{eqb}
use Rattle.formats.specs.declared.record.Primitive.{Primitive}
use Rattle.formats.specs.declared.record.Primitive.TheVariants.{Mul, Pow}
use Rattle.formats.specs.Names.{choose, primitive_no}
use Rattle.sums.specs.Tree.Sums.{Sum}
use Rattle.arithmetic.specs.Singles.{GoodSum}
use Rattle.arithmetic.specs.Pairs.{pairs, pow_pairs}
use Rattle.arithmetic.proofs.Pairs.{pairs-most, pow-pairs-most}
use Rattle.primitives.specs.Forms.{pairs_of}

-- a power has the most
pub pairs-of-most : (p : Primitive) (b a : Sum) → GoodSum b → GoodSum a → pairs_of p b a ≤ 258048
unfolding pairs_of
pairs-of-most p b a gb ga = go (eqb (primitive_no p) (primitive_no Mul)) (eqb (primitive_no p) (primitive_no Pow))
  where
    go : (m q : Bool) → choose m pairs (choose q pow_pairs (λ d c. 0)) b a ≤ 258048
    go true q = omega (arith, pairs-most gb ga)
    go false true = pow-pairs-most gb ga
    go false false = omega arith
