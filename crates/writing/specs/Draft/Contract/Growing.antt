-- What the functions that write ask of a draft, and what they leave: the contracts that the writers above compose.
use Rattle.std.specs.Prelude.{ℕ, ◌+◌, ◌*◌, ◌≤◌, ◌≡◌, List, length, Result, Ok, Err}
use Rattle.limits.specs.Limits.{list_records, record_bytes}
use Rattle.formats.specs.Tree.{Nodes}
use Rattle.writing.specs.declared.draft.Draft.{Draft}
use Rattle.limits.specs.declared.Refusal.{Refusal}
use Rattle.writing.specs.Draft.Writing.{Written}
use Rattle.writing.specs.Draft.Contract.Lying.{Lying, SaidAs}

-- some list lies there, with so many places free in front of it and behind it
pub record Ready (b : List ℕ) (d : Draft) (front back : ℕ) : Type 0 where
  pub nodes : Nodes
  pub lies : Lying b d nodes
  pub before : front ≤ d.from
  pub after : record_bytes * (d.end + back) ≤ length b
  pub few : d.end + back ≤ list_records

-- at most so many places were taken in front and behind
pub record Grown (d r : Draft) (front back : ℕ) : Type 0 where
  pub begins : d.from ≤ r.from + front
  pub ends : r.end ≤ d.end + back

-- the list that lay there became what f says
pub record Drawn (b b' : List ℕ) (d r : Draft) (front back : ℕ) (f : Nodes → Nodes) : Type 0 where
  pub grown : Grown d r front back
  pub long : length b' ≡ length b
  pub lies : (ns : Nodes) → Lying b d ns → Lying b' r (f ns)

abbrev pub GrownTo : Draft → Result Draft Refusal → ℕ → ℕ → Type 0
GrownTo d (Ok r) front back = Grown d r front back
GrownTo d (Err q) front back = Unit {0}

-- the same, where it may be refused
pub record Spoken (b b' : List ℕ) (d : Draft) (s : Result Draft Refusal) (front back : ℕ) (f : Nodes → Written) : Type 0 where
  pub grown : GrownTo d s front back
  pub long : length b' ≡ length b
  pub lies : (ns : Nodes) → Lying b d ns → SaidAs s b' (f ns)
