-- Lists of node records as trees, and the two ways between trees and bytes. A record has 24 bytes: 0 kind, 1 code, 2 argument count, 3 zero,
-- 4 to 8 how many following records lie inside, 8 to 16 re, 16 to 24 im.
use Rattle.std.specs.Prelude.{◌≡◌, true, false, List, [], ◌∷◌, ◌++◌, ℕ, zero, suc, ◌+◌, ◌-◌, ◌*◌, ◌/◌, min, max, length, get_or, drop, ltb}
use Rattle.std.proofs.lemmas.List.Edits.{sets}
use Rattle.limits.specs.Limits.{record_bytes}
use Rattle.formats.specs.Bytes.{number, bytes}
use Rattle.formats.specs.declared.record.Record.{Record}

-- nothing, or a record with the nodes inside it and the nodes after it
pub data Nodes : Type 0 where
  end : Nodes
  rec : Record → Nodes → Nodes → Nodes

unfoldable pub size : Nodes → ℕ
size end = 0
size (rec r ns ms) = suc (size ns + size ms)

-- how many stand one inside the other
unfoldable pub height : Nodes → ℕ
height end = 0
height (rec r ns ms) = max (height ns + 1) (height ms)

-- how many stand side by side
unfoldable pub count : Nodes → ℕ
count end = 0
count (rec r ns ms) = suc (count ms)

-- ---- to bytes

unfoldable pub encode_rec : Record → List ℕ
encode_rec r = r.kind ∷ r.code ∷ r.args ∷ r.blank ∷ (bytes 4 r.inside ++ bytes 8 r.re ++ bytes 8 r.im)

-- a record, then what is inside it, then what comes after it
unfoldable pub encode : Nodes → List ℕ
encode end = []
encode (rec r ns ms) = encode_rec r ++ encode ns ++ encode ms

-- ---- from bytes

-- the record that a list of bytes begins with
unfoldable pub rec_of : List ℕ → Record
rec_of b =
    record {
      kind = get_or b 0 0;
      code = get_or b 1 0;
      args = get_or b 2 0;
      blank = get_or b 3 0;
      inside = number 4 b 4;
      re = number 8 b 8;
      im = number 8 b 16;
    }

-- the record at place i
abbrev pub rec_at : List ℕ → ℕ → Record
rec_at s i = rec_of (drop (record_bytes * i) s)

-- where what is inside the record at a ends
abbrev pub next_of : List ℕ → ℕ → ℕ
next_of s a = a + 1 + (rec_at s a).inside

-- the same in a stretch that ends at e
abbrev pub next_at : List ℕ → ℕ → ℕ → ℕ
next_at s a e = min (next_of s a) e

-- the nodes of the records from a up to e, of which there are at most as many as the second argument says
unfoldable pub grow : List ℕ → ℕ → ℕ → ℕ → Nodes
grow s zero a e = end
grow s (suc f) a e = elim (ltb a e) [ true ↦ rec (rec_at s a) (grow s f (a + 1) (next_at s a e)) (grow s f (next_at s a e) e) | false ↦ end ]

unfoldable pub forest : List ℕ → ℕ → ℕ → Nodes
forest s a e = grow s (e - a) a e

-- how many whole records a list of bytes has
abbrev pub records_in : List ℕ → ℕ
records_in s = length s / record_bytes

unfoldable pub parse : List ℕ → Nodes
parse s = forest s 0 (records_in s)

-- the record r is stored at place i of s, in its bytes and no others, and is read there
pub record Written (s s' : List ℕ) (i : ℕ) (r : Record) : Type 0 where
  pub stored : s' ≡ sets s (record_bytes * i) (encode_rec r)
  pub back : rec_at s' i ≡ r
