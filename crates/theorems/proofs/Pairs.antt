-- The pairs that some lists multiply, computed from their bytes. Assumes nothing.
use mathlib.Core.Path.{refl}
use Rattle.theorems.specs.Pairs.{PairsTold}
use Rattle.theorems.proofs.Computing.{arithmetic, comparing, list_bytes, list_rules, sum_bytes, maps, products, raised, steps, reading}

pub pairs-told : PairsTold
unfolding arithmetic comparing list_bytes list_rules sum_bytes maps products raised steps reading
pairs-told = record { square = refl; cube = refl; cube_of_two = refl; twice = refl; constant = refl; imaginary = refl }
