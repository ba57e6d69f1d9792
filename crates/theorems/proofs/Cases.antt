-- The lists to try that document 01 marks with a star, computed from their bytes, all under one theorem. Assumes nothing.
use mathlib.Core.Path.{refl}
use Rattle.theorems.specs.Cases.{Cases, table}
use Rattle.theorems.proofs.Computing.{arithmetic, comparing, list_bytes, list_rules, sum_bytes, maps, products, raised, steps, reading, calculus, writing, acting, answering}

pub cases : Cases
unfolding table arithmetic comparing list_bytes list_rules sum_bytes maps products raised steps reading calculus writing acting answering
cases = refl
