-- How much room a draft asks for.
use Rattle.std.specs.Prelude.{ℕ, ◌+◌, ◌*◌, ◌≤◌, List, length, ◌≡◌, Result, Ok, Err}
use Rattle.limits.specs.Limits.{sum_entries, list_records, record_bytes}
use Rattle.limits.specs.declared.Refusal.{Refusal}
use Rattle.writing.specs.declared.draft.Draft.{Draft}
use Rattle.writing.specs.Draft.Writing.{Written}
use Rattle.writing.specs.Draft.Contract.Lying.{SaidAs}

-- so many have a smaller draft
abbrev pub few_entries : ℕ
few_entries = 16

-- around the place `front` a sum of m entries has room: two places in front for each, nine behind, and two more
pub record Spacious (b : List ℕ) (front m : ℕ) : Type 0 where
  pub before : 2 * m ≤ front
  pub after : record_bytes * (front + (9 * m + 2)) ≤ length b
  pub few : front + (9 * m + 2) ≤ list_records

-- the places in front of an argument that is written apart
abbrev pub argument_front : ℕ
argument_front = 2 * sum_entries

-- a sum of n entries and as many levels has room in a buffer of its own, with places in front of it and of each argument inside it
pub record Separate (b : List ℕ) (n left : ℕ) : Type 0 where
  pub few : n ≤ sum_entries
  pub after : record_bytes * (argument_front + (10 * n + 2 + argument_front * left)) ≤ length b
  pub most : argument_front + (10 * n + 2 + argument_front * left) ≤ list_records

-- what was said begins at the first place and has at most so many records
abbrev pub First : Result Draft Refusal → ℕ → Type 0
First (Ok d) most = (d.from ≡ 0) × (d.end ≤ most)
First (Err q) most = Unit {0}

pub record AtFront (b b' : List ℕ) (s : Result Draft Refusal) (most : ℕ) (w : Written) : Type 0 where
  pub long : length b' ≡ length b
  pub first : First s most
  pub lies : SaidAs s b' w
