-- The bytes of a sum, written out. Assumes nothing.
use mathlib.Core.Path.{◌≡◌, refl, sym, subst}
use mathlib.Core.List.{List, [], ◌∷◌}
use Prim.Native.Nat.{ℕ}
use native.Mathlib.Omega.{arith}
use lib.Ieee.{of_bits, to_bits}
use Rattle.sums.specs.Tree.Kinds.{Sin}
use Rattle.sums.specs.Tree.Sums.{size}
use Rattle.sums.proofs.tree.Keeps.{good_more}
use Rattle.sums.proofs.tree.Same.{2x, of, good-example}
use Rattle.formats.specs.Bytes.{bytes}
use Rattle.sums.specs.Entry.Encoding.{encode_cell, encode_sum}
use Rattle.sums.specs.Entry.Taking.{Weighed}
use Rattle.std.specs.Prelude.{Result, Ok}
use Rattle.limits.specs.declared.Refusal.{Refusal}
use Rattle.sums.proofs.bytes.Theorem.{good-taken}

-- sin(2x): one entry with coefficient 1 and one inside it, then 2x, of power 1
unfoldable pub sin_bytes : List ℕ
sin_bytes =
    5 ∷ 0 ∷ 0 ∷ 0 ∷ 1 ∷ 0 ∷ 0 ∷ 0
    ∷ 0 ∷ 0 ∷ 0 ∷ 0 ∷ 0 ∷ 0 ∷ 0 ∷ 0
    ∷ 0 ∷ 0 ∷ 0 ∷ 0 ∷ 0 ∷ 0 ∷ 240 ∷ 63
    ∷ 0 ∷ 0 ∷ 0 ∷ 0 ∷ 0 ∷ 0 ∷ 0 ∷ 0
    ∷ 1 ∷ 0 ∷ 0 ∷ 0 ∷ 0 ∷ 0 ∷ 0 ∷ 0
    ∷ 0 ∷ 0 ∷ 0 ∷ 0 ∷ 0 ∷ 0 ∷ 240 ∷ 63
    ∷ 0 ∷ 0 ∷ 0 ∷ 0 ∷ 0 ∷ 0 ∷ 0 ∷ 64
    ∷ 0 ∷ 0 ∷ 0 ∷ 0 ∷ 0 ∷ 0 ∷ 0 ∷ 0
    ∷ []

pub sin-bytes : encode_sum (of Sin 2x) ≡ sin_bytes
unfolding encode_sum encode_cell bytes size to_bits of_bits sin_bytes
sin-bytes = refl

-- they are taken in as two entries
pub sin-taken : (t : Result ℕ Refusal) → Weighed sin_bytes t → t ≡ Ok 2
unfolding size
sin-taken t w = good-taken (of Sin 2x) t (good_more 3 (of Sin 2x) (good_more 2 (of Sin 2x) good-example)) (omega arith) (omega arith) (subst (λ (l : List ℕ). Weighed l t) (sym sin-bytes) w)
