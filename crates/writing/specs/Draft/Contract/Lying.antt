-- A list that is being written lies in a buffer, from one place up to another: it grows at both ends.
use Rattle.std.specs.Prelude.{ℕ, ◌+◌, ◌*◌, ◌≤◌, ◌≡◌, Bool, cond, List, leb, length, Result, Ok, Err}
use Rattle.std.proofs.lemmas.List.Edits.{sets}
use Rattle.limits.specs.Limits.{record_bytes}
use Rattle.limits.specs.declared.Refusal.TheVariants.{OutputRoom}
use Rattle.formats.specs.Bytes.{part}
use Rattle.formats.specs.Tree.{Nodes, size, encode, records_in}
use Rattle.writing.specs.declared.draft.Draft.{Draft}
use Rattle.limits.specs.declared.Refusal.{Refusal}
use Rattle.writing.specs.Draft.Writing.{Written, wrote, refused}

-- the records of ns stand in the places of the buffer b from d's first up to d's end
pub record Lying (b : List ℕ) (d : Draft) (ns : Nodes) : Type 0 where
  pub ends : d.from + size ns ≡ d.end
  pub room : record_bytes * d.end ≤ length b
  pub bytes : part (record_bytes * d.from) (record_bytes * size ns) b ≡ encode ns

-- what the code answers is the definition's: the list lies there, or the same refusal
abbrev pub SaidAs : Result Draft Refusal → List ℕ → Written → Type 0
SaidAs (Ok d) b (wrote ns) = Lying b d ns
SaidAs (Ok d) b (refused q) = ⊥
SaidAs (Err q) b (wrote ns) = ⊥
SaidAs (Err q) b (refused r) = q ≡ r

-- ---- handing it over: 17 where there is no room for the whole list, and then no byte is changed

abbrev pub room_for : Nodes → List ℕ → Bool
room_for ns out = leb (size ns) (records_in out)

abbrev pub handed_over : Nodes → List ℕ → Result ℕ Refusal
handed_over ns out = cond (room_for ns out) (Ok (size ns)) (Err OutputRoom)

abbrev pub handed_bytes : Nodes → List ℕ → List ℕ
handed_bytes ns out = cond (room_for ns out) (sets out 0 (encode ns)) out

-- ---- what comes of writing, answered: a refusal, which changes no byte, or the list handed over

abbrev pub answered : Written → List ℕ → Result ℕ Refusal
answered (wrote ns) out = handed_over ns out
answered (refused q) out = Err q

abbrev pub answered_bytes : Written → List ℕ → List ℕ
answered_bytes (wrote ns) out = handed_bytes ns out
answered_bytes (refused q) out = out

pub record Answered (out out' : List ℕ) (r : Result ℕ Refusal) (w : Written) : Type 0 where
  pub answer : r ≡ answered w out
  pub bytes : out' ≡ answered_bytes w out
