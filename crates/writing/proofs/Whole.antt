-- A whole sum, written into an empty draft. Assumes nothing.
use Prim.Native.Nat.{ℕ, ◌+◌, ◌*◌, ◌≤◌}
use mathlib.Core.Path.{◌≡◌}
use native.Mathlib.Omega.{arith}
use mathlib.Core.Bool.{Bool, false}
use mathlib.Core.List.{List}
use lib.ListN.{replicate, length-replicate}
use Rattle.sums.specs.Tree.Sums.{Sum}
use Rattle.formats.specs.Tree.{end}
use Rattle.std.specs.Prelude.{Result}
use Rattle.limits.specs.declared.Refusal.{Refusal}
use Rattle.writing.specs.declared.draft.Draft.{Draft}
use Rattle.writing.specs.Draft.Contract.Lying.{SaidAs}
use Rattle.writing.specs.Draft.Contract.Growing.{Ready, Spoken}
use Rattle.writing.specs.Contract.Room.{Spacious}
use Rattle.writing.proofs.draft.Lying.{fresh}
use Rattle.writing.proofs.draft.Growing.{ready-fresh}
use Rattle.writing.specs.ToNodes.{write, to_nodes}

-- a cleared buffer of so many records has room for as many entries as it was made for
pub spacious : (n most m : ℕ) → m ≤ most → most ≤ 64 → n ≡ 24 * (2 * most + (9 * most + 2)) → Spacious (replicate n 0) (2 * most) m
spacious n most m h few e = record { before = omega arith; after = omega (arith, length-replicate {A = ℕ} n 0); few = omega arith }

-- an empty draft there
pub ready-start : {b : List ℕ} {front m : ℕ} → Spacious b front m → Ready b record { from = front; end = front } (2 * m) (9 * m + 2)
ready-start {b} {front} {m} r = ready-fresh front r.before r.after r.few

-- what was said is the list of the whole sum, or its refusal
pub said-whole : (flag : Bool) (t : Sum) {b b' : List ℕ} {s : Result Draft Refusal} {front m : ℕ} → Spacious b front m
    → Spoken b b' record { from = front; end = front } s (2 * m) (9 * m + 2) (λ ns. write flag t false ns) → SaidAs s b' (to_nodes flag t)
said-whole flag t {b} {b'} {s} {front} {m} r k = k.lies end (fresh b front (omega (arith, r.after)))
