-- What the steps of the writer's loop promise of the draft: how many places they take at most, and what they write. The entry is x, and t the sum inside it.
use Rattle.std.specs.Prelude.{ℕ, ◌+◌, ◌*◌, Bool, List, Result}
use Rattle.cells.specs.declared.Entry.{Entry}
use Rattle.sums.specs.Tree.Sums.{Sum}
use Rattle.writing.specs.declared.draft.Draft.{Draft}
use Rattle.limits.specs.declared.Refusal.{Refusal}
use Rattle.writing.specs.Draft.Contract.Growing.{Spoken}
use Rattle.writing.specs.Contract.Turns.{term_by, entry_by, on_list, apart}

abbrev pub TermSpoken : Bool → Entry → Sum → List ℕ → List ℕ → Draft → Result Draft Refusal → Type 0
TermSpoken flag x t b b' d s = Spoken b b' d s (2 * x.inside) (9 * x.inside + 5) (λ ns. term_by flag x (on_list flag t) ns)

abbrev pub TurnSpoken : Bool → Bool → Entry → Sum → List ℕ → List ℕ → Draft → Result Draft Refusal → Type 0
TurnSpoken flag identity x t b b' d s = Spoken b b' d s (2 * x.inside + 2) (9 * x.inside + 9) (λ ns. entry_by flag identity x (on_list flag t) ns)

-- the same of the second writer
abbrev pub TermApart : Bool → Entry → Sum → List ℕ → List ℕ → Draft → Result Draft Refusal → Type 0
TermApart flag x t b b' d s = Spoken b b' d s (2 * x.inside) (10 * x.inside + 5) (λ ns. term_by flag x (apart flag t) ns)

abbrev pub TurnApart : Bool → Bool → Entry → Sum → List ℕ → List ℕ → Draft → Result Draft Refusal → Type 0
TurnApart flag identity x t b b' d s = Spoken b b' d s (2 * x.inside + 2) (10 * x.inside + 9) (λ ns. entry_by flag identity x (apart flag t) ns)
