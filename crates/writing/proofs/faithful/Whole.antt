-- A whole sum, written by the second writer into an empty draft. Assumes nothing.
use Prim.Native.Nat.{ℕ, ◌+◌, ◌*◌, ◌≤◌}
use native.Mathlib.Omega.{arith}
use mathlib.Core.Bool.{Bool, false}
use mathlib.Core.List.{List}
use lib.ListN.{replicate, length-replicate}
use Rattle.sums.specs.Tree.Sums.{Sum}
use Rattle.formats.specs.Tree.{end}
use Rattle.std.specs.Prelude.{Result}
use Rattle.limits.specs.declared.Refusal.{Refusal}
use Rattle.writing.specs.declared.draft.Draft.{Draft}
use Rattle.writing.specs.Draft.Contract.Lying.{SaidAs}
use Rattle.writing.specs.Draft.Contract.Growing.{Ready, Spoken}
use Rattle.writing.specs.Faithful.{write_faithful, faithful}
use Rattle.writing.proofs.draft.Lying.{fresh}
use Rattle.writing.proofs.draft.Growing.{ready-fresh}

-- the buffer has room for 64 entries, and at each of four levels for the places in front of an argument
pub ready-start : (m : ℕ) → m ≤ 64 → Ready (replicate 30768 0) record { from = 128; end = 128 } (2 * m) (10 * m + 2 + 128 * 4)
ready-start m h = ready-fresh 128 (omega arith) (omega (arith, length-replicate {A = ℕ} 30768 0)) (omega arith)

-- what was said is the list of the whole sum, or its refusal
pub said-whole : (flag : Bool) (t : Sum) {b : List ℕ} {s : Result Draft Refusal} {front back : ℕ}
    → Spoken (replicate 30768 0) b record { from = 128; end = 128 } s front back (λ ns. write_faithful flag t false ns) → SaidAs s b (faithful flag t)
said-whole flag t k = k.lies end (fresh (replicate 30768 0) 128 (omega (arith, length-replicate {A = ℕ} 30768 0)))
